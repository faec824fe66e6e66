-- A bit of the bitmap: a cell of width 1, which lies in one byte. Assumes nothing.
use mathlib.Core.Path.{◌≡◌, refl, ◌∙◌, ap}
use mathlib.Core.Bool.{false}
use mathlib.Core.List.{List}
use Prim.Native.Nat.{ℕ, zero, suc, ◌+◌, ◌*◌, ◌/◌, ◌%◌, ◌^◌, ◌≤◌, ◌<◌}
use native.Mathlib.Nat.{one-mul, zero-mul, zero-div}
use native.Mathlib.Omega.{arith}
use lib.Dec.{eqb}
use lib.Pow.{pow_mono}
use lib.ListN.{length, get_or, set, replicate}
use borrow.Author.Tests.{eqb-false, ne_eqb}
use Rattle.model.specs.Packed.{Bytes, number, slot_at, Put}
use Rattle.model.proofs.packing.Packing.{slot_lt, new_lt}
use Rattle.packed.proofs.Cells.{get_one, put_one}
use Rattle.image_faults.specs.Windows.{bit}

module _ (bs : List ℕ) (h : Bytes bs) (s : ℕ) where
  cell : get_or bs (s / 8) 0 / 2 ^ (s % 8) % 2 ≡ slot_at 1 bs s
  cell = get_one 1 s (s / 8) (s % 8) bs h (omega arith) (omega arith)

  pub bit_get : eqb (get_or bs (s / 8) 0 / 2 ^ (s % 8) % 2) 1 ≡ bit bs s
  bit_get = ap (λ (n : ℕ). eqb n 1) cell

  module _ (clear : bit bs s ≡ false) where
    zero_there : get_or bs (s / 8) 0 / 2 ^ (s % 8) % 2 ≡ 0
    zero_there = let n = eqb-false (slot_at 1 bs s) 1 clear in let l : slot_at 1 bs s < 2 = slot_lt 1 bs s in cell ∙ omega arith

    power : 1 * 2 ^ (s % 8) % 256 ≡ 2 ^ (s % 8)
    power = let q : s % 8 ≤ 7 = omega arith in let p : 2 ^ (s % 8) ≤ 2 ^ 7 = pow_mono q in omega arith

    new : get_or bs (s / 8) 0 + 1 * 2 ^ (s % 8) % 256 + get_or bs (s / 8) 0 / 2 ^ (s % 8) % 2 * 2 ^ (s % 8) ≡ get_or bs (s / 8) 0 + 1 * 2 ^ (s % 8)
    new = rw (power, zero_there, one-mul) (omega (arith, zero-mul (2 ^ (s % 8))))

    pub bit_fits : get_or bs (s / 8) 0 + 1 * 2 ^ (s % 8) % 256 < 256
    bit_fits = new_lt 1 (s % 8) 8 1 (get_or bs (s / 8) 0) _ (omega arith) (omega arith) (h (s / 8)) new

    pub bit_put : s < 8 * length bs → Put 1 bs s 1 (set bs (s / 8) (get_or bs (s / 8) 0 + 1 * 2 ^ (s % 8) % 256))
    bit_put l = put_one 1 s (s / 8) (s % 8) bs h (omega arith) (omega arith) 1 _ (omega arith) (omega arith) new

-- ---- a bitmap of zeros is clear
number_zeros : (c n : ℕ) → number c (replicate n 0) ≡ 0
unfolding number
number_zeros c zero = refl
number_zeros c (suc n) = rw (number_zeros c n) (omega (arith, zero-mul c))

pub zeros_clear : (n s : ℕ) → bit (replicate n 0) s ≡ false
unfolding slot_at
zeros_clear n s = ne_eqb (slot_at 1 (replicate n 0) s) 1 (λ e. omega (arith, zero, e))
  where
    zero : number 256 (replicate n 0) / 2 ^ (1 * s) % 2 ^ 1 ≡ 0
    zero = rw (number_zeros 256 n) (omega (arith, zero-div (2 ^ (1 * s))))
