-- A cell that lies in one byte j, from its bit r on, over the width w. (The book has the laws of a window of two bytes.) And a cell
-- that is four bytes. Assumes nothing.
use mathlib.Core.Path.{◌≡◌, refl, sym}
use mathlib.Core.List.{List}
use Prim.Native.Nat.{ℕ, suc, ◌+◌, ◌*◌, ◌/◌, ◌%◌, ◌^◌, ◌≤◌, ◌<◌}
use native.Mathlib.Nat.{zero-add}
use native.Mathlib.Omega.{arith}
use lib.ListN.{length, get_or, set, length-set}
use Rattle.model.specs.Packed.{Bytes, slot_at, Put}
use Rattle.model.proofs.packing.Packing.{slot_window, put_window, number_set_one, Filled, filled_more}

module _ (w s j r : ℕ) (bs : List ℕ) (h : Bytes bs) (e : w * s ≡ 8 * j + r) (l : w + r ≤ 8) where
  pub get_one : get_or bs j 0 / 2 ^ r % 2 ^ w ≡ slot_at w bs s
  get_one = sym (simp zero-add at (slot_window w s 1 j r bs h e l))

  pub put_one : (v y : ℕ) → v < 2 ^ w → j < length bs → y + get_or bs j 0 / 2 ^ r % 2 ^ w * 2 ^ r ≡ get_or bs j 0 + v * 2 ^ r → Put w bs s v (set bs j y)
  put_one v y hv hj new = put_window w s 1 j r v y bs (set bs j y) h e l hv (simp length-set) (number_set_one bs j y hj) (simp zero-add new)

-- the two nibbles of byte j, filled in
pub filled_pair : (bs l : List ℕ) → Bytes bs → (j : ℕ) → Filled (slot_at 4 bs) l (2 * j) → 2 * j + 1 < length l
    → Filled (slot_at 4 bs) (set (set l (2 * j) (get_or bs j 0 % 16)) (2 * j + 1) (get_or bs j 0 / 16)) (2 * (j + 1))
filled_pair bs l h j f k =
    let low = filled_more (slot_at 4 bs) l (2 * j) (2 * j + 1) (get_or bs j 0 % 16) refl f (omega arith) (omega (arith, get_one 4 (2 * j) j 0 bs h (omega arith) (omega arith))) in
    filled_more (slot_at 4 bs) (set l (2 * j) (get_or bs j 0 % 16)) (2 * j + 1) (2 * (j + 1)) (get_or bs j 0 / 16) (omega arith) low (simp length-set k) (omega (arith, h j, get_one 4 (2 * j + 1) j 4 bs h (omega arith) (omega arith)))

-- ---- a cell of 32 bits, by its four bytes
pub cell_bytes : (bs : List ℕ) → Bytes bs → (i : ℕ)
    → ((get_or bs (4 * i + 3) 0 * 256 + get_or bs (4 * i + 2) 0) * 256 + get_or bs (4 * i + 1) 0) * 256 + get_or bs (4 * i) 0 ≡ slot_at 32 bs i
cell_bytes bs h i =
    let j = 4 * i in
    let e₁ : j + 1 ≡ suc j = omega arith in
    let e₂ : j + 2 ≡ suc (suc j) = omega arith in
    let e₃ : j + 3 ≡ suc (suc (suc j)) = omega arith in
    rw (e₁, e₂, e₃) (omega (arith, h j, h (suc j), h (suc (suc j)), h (suc (suc (suc j))), slot_window 32 i 4 j 0 bs h (omega arith) (omega arith)))
