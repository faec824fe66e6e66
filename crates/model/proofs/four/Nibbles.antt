-- The nibbles of registers, counted: zeros are the registers at cur_min, fifteens the exceptions. Assumes nothing.
use mathlib.Core.Path.{◌≡◌, sym, ◌∙◌, ap}
use mathlib.Core.List.{List}
use Prim.Native.Nat.{ℕ, ◌+◌, ◌≤◌, ◌<◌}
use native.Mathlib.Omega.{arith}
use lib.Dec.{eqb, leb}
use lib.ListN.{length, get_or}
use Rattle.model.specs.Registers.{count_of, above}
use Rattle.model.specs.Four.{nibble}
use Rattle.model.proofs.order.Tells.{tells_one, tells_as, tells_eq, tells_le}
use Rattle.model.proofs.table.Counting.{marks, marks_same, above_marks, count_marks}

module _ (low : ℕ) (N R : List ℕ) (long : length N ≡ length R) (floor : (i : ℕ) → i < length R → low ≤ get_or R i 0) (nibbles : (i : ℕ) → i < length R → get_or N i 0 ≡ nibble low (get_or R i 0)) where
  pub zeros_are : count_of 0 N ≡ count_of low R
  zeros_are =
      count_marks 0 N ∙ ap (marks (λ i. eqb (get_or N i 0) 0)) long
      ∙ marks_same _ (λ i. eqb (get_or R i 0) low) (length R)
      (λ i l. let n = nibbles i l in let f = floor i l in tells_one _ _ (tells_eq (get_or N i 0) 0) (tells_as _ (λ e. omega arith) (λ e. omega arith) (tells_eq (get_or R i 0) low)))
      ∙ sym (count_marks low R)

  pub fifteens_are : count_of 15 N ≡ above (low + 15) R
  fifteens_are =
      count_marks 15 N ∙ ap (marks (λ i. eqb (get_or N i 0) 15)) long
      ∙ marks_same _ (λ i. leb (low + 15) (get_or R i 0)) (length R)
      (λ i l. let n = nibbles i l in tells_one _ _ (tells_eq (get_or N i 0) 15) (tells_as _ (λ e. omega arith) (λ e. omega arith) (tells_le (low + 15) (get_or R i 0))))
      ∙ sym (above_marks (low + 15) R)
