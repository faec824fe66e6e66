-- Kind 4's reading: each register by its nibble and the table, and what is stored of R with its table is read as R. Assumes nothing.
use mathlib.Core.Path.{◌≡◌, refl, sym, ◌∙◌, ap}
use mathlib.Core.List.{List, [], ◌∷◌}
use Prim.Native.Nat.{ℕ, zero, suc, ◌+◌, ◌*◌, ◌%◌, ◌≤◌, ◌<◌}
use native.Mathlib.Nat.{le_of_suc-le-suc, not-suc-le-zero, add-zero}
use native.Mathlib.Omega.{arith}
use native.Mathlib.Decide.{dec_lt}
use lib.ListN.{length, get_or}
use lib.Seq.{ext_get_or}
use borrow.Author.Tests.{lt-ltb, le-ltb}
use Rattle.model.specs.Coupon.{value}
use Rattle.model.specs.Registers.{least}
use Rattle.model.specs.Packed.{slot_at, unpacked}
use Rattle.model.specs.Four.{TableAt, nibble, stored_at, value_at, values_from, registers4}
use Rattle.model.proofs.registers.Raising.{Small}
use Rattle.model.proofs.packing.Packing.{length_unpacked, get_or_unpacked}
use Rattle.model.proofs.table.Search.{value_of_word}
use Rattle.model.proofs.table.Sizes.{Sized}
use Rattle.model.proofs.registers.Lowest.{least_le}
use Rattle.model.proofs.four.Tables.{table_word}
use Rattle.model.proofs.four.Stored.{length_stored, stored_slots}

pub length_values : (low : ℕ) (t : List ℕ) (s : ℕ) (ns : List ℕ) → length (values_from low t s ns) ≡ length ns
unfolding values_from
length_values low t s [] = refl
length_values low t s (n ∷ ns) = ap suc (length_values low t (suc s) ns)

values_from_lem : (low : ℕ) (t : List ℕ) (s : ℕ) (ns : List ℕ) (i : ℕ) → i < length ns → get_or (values_from low t s ns) i 0 ≡ value_at low t (get_or ns i 0) (s + i)
unfolding values_from
values_from_lem low t s [] i h = absurd (not-suc-le-zero h)
values_from_lem low t s (n ∷ ns) zero h = ap (value_at low t n) (sym (add-zero s))
values_from_lem low t s (n ∷ ns) (suc i) h = values_from_lem low t (suc s) ns i (le_of_suc-le-suc h) ∙ ap (value_at low t (get_or ns i 0)) (let z : suc s + i ≡ s + suc i = omega arith in z)

-- each by its nibble and the table
pub get_or_values : (low : ℕ) (t ns : List ℕ) (i : ℕ) → i < length ns → get_or (values_from low t 0 ns) i 0 ≡ value_at low t (get_or ns i 0) i
get_or_values low t ns i h = values_from_lem low t 0 ns i h ∙ ap (value_at low t (get_or ns i 0)) (let z : 0 + i ≡ i = omega arith in z)

module _ (low : ℕ) (t bytes : List ℕ) where
  pub length_registers : length (registers4 low t bytes) ≡ 2 * length bytes
  unfolding registers4
  length_registers = length_values low t 0 (unpacked 4 (2 * length bytes) bytes) ∙ length_unpacked 4 (2 * length bytes) bytes

  pub get_or_registers : (s : ℕ) → s < 2 * length bytes → get_or (registers4 low t bytes) s 0 ≡ value_at low t (slot_at 4 bytes s) s
  unfolding registers4
  get_or_registers s h =
      get_or_values low t (unpacked 4 (2 * length bytes) bytes) s (rw length_unpacked h) ∙ ap (λ (n : ℕ). value_at low t n s) (get_or_unpacked 4 (2 * length bytes) bytes s h)

-- ---- what is stored is read back
module _ {base low : ℕ} {R t : List ℕ} (ok : Sized base (length R)) (small : Small R) (ta : TableAt base low R t) where
  -- a register by its nibble and the table
  value_back : (s : ℕ) → s < length R → low ≤ get_or R s 0 → value_at low t (nibble low (get_or R s 0)) s ≡ get_or R s 0
  value_back s l h = go (dec_lt (get_or R s 0) (low + 15))
    where
      go : Dec (get_or R s 0 < low + 15) → value_at low t (nibble low (get_or R s 0)) s ≡ get_or R s 0
      go (yes k) = rw (lt-ltb (nibble low (get_or R s 0)) 15 (omega arith)) (omega arith)
      go (no k) =
          rw (le-ltb (nibble low (get_or R s 0)) 15 (omega arith))
          (ap value (table_word ta ok.few s l (omega arith)) ∙ value_of_word s (get_or R s 0) (omega (arith, ok.few)) (omega (arith, small s l)))

  pub read_back : (bytes : List ℕ) → 2 * length bytes ≡ length R → ((i : ℕ) → i < length R → low ≤ get_or R i 0) → ((s : ℕ) → s < length R → slot_at 4 bytes s ≡ nibble low (get_or R s 0)) → registers4 low t bytes ≡ R
  read_back bytes long floor slots =
      ext_get_or 0 (registers4 low t bytes) R (length_registers low t bytes ∙ long)
      (λ i h. let k : i < 2 * length bytes = rw length_registers at h in
      let l : i < length R = omega arith in
      get_or_registers low t bytes i k ∙ ap (λ (n : ℕ). value_at low t n i) (slots i l) ∙ value_back i l (floor i l))

pub registers_stored : {base : ℕ} {R t : List ℕ} → Sized base (length R) → Small R → TableAt base (least R) R t → length R % 2 ≡ 0 → registers4 (least R) t (stored_at (least R) R) ≡ R
registers_stored {base} {R} {t} ok small ta even = read_back ok small ta (stored_at (least R) R) (omega (arith, length_stored (least R) R)) (least_le R) (stored_slots (least R) R even)
