-- The laws of `most`: no register is above it, and some register has it; and that it is what `max` gives. Assumes nothing.
use mathlib.Core.Path.{◌≡◌, refl, sym, subst}
use mathlib.Core.Bool.{Bool, true, false}
use mathlib.Core.List.{List, [], ◌∷◌}
use Prim.Native.Nat.{ℕ, zero, suc, ◌≤◌, ◌<◌, zero-le, max}
use native.Mathlib.Nat.{max-eq_left, max-eq_right}
use native.Mathlib.Decide.{dec_lt}
use native.Mathlib.Omega.{arith}
use lib.Dec.{eqb}
use lib.ListN.{length, get_or}
use borrow.Author.Tests.{eq-eqb}
use Rattle.model.specs.Pick.{pick}
use Rattle.model.specs.Registers.{count_of}
use Rattle.report.specs.Report.{most}
use Rattle.std.specs.Prelude.{Option, Some, None, MatchOption, unwrap_or}
use Rattle.std.specs.List.{SomeIndex}
use Rattle.std.proofs.lemmas.List.Recursion.{max_least}

pub most_above : (R : List ℕ) (i : ℕ) → get_or R i 0 ≤ most R
unfolding most
most_above [] i = zero-le
most_above (v ∷ vs) zero = omega arith
most_above (v ∷ vs) (suc i) = omega (arith, most_above vs i)

pub most_counted : (R : List ℕ) → 0 < length R → 0 < count_of (most R) R
unfolding most count_of
most_counted [] h = absurd (omega arith)
most_counted (v ∷ vs) h = go (dec_lt v (most vs)) (most_counted vs)
  where
    more : (b : Bool) (r : ℕ) → r ≤ pick b (suc r) r
    more true r = omega arith
    more false r = omega arith

    some : (l : List ℕ) → v < most l → 0 < length l
    some [] k = absurd (omega arith)
    some (x ∷ l) k = omega arith

    go : Dec (v < most vs) → (0 < length vs → 0 < count_of (most vs) vs) → 0 < count_of (max v (most vs)) (v ∷ vs)
    go (yes k) rest = subst (λ (m : ℕ). 0 < count_of m (v ∷ vs)) (sym (max-eq_right {n = v} {m = most vs} (omega arith))) (omega (arith, more (eqb v (most vs)) (count_of (most vs) vs), rest (some vs k)))
    go (no k) rest = rw (max-eq_left {n = v} {m = most vs} (omega arith), eq-eqb v v refl) (omega arith)

-- the largest that an iterator gives, where there is one
pub top_most : (R : List ℕ) (o : Option ℕ) → MatchOption o (length R ≡ 0) (λ m. (i : ℕ) → i < length R → get_or R i 0 ≤ m) → MatchOption o (length R ≡ 0) (λ m. SomeIndex R (λ i. get_or R i 0 ≡ m)) → unwrap_or o 0 ≡ most R
unfolding most
top_most [] None above some = refl
top_most (v ∷ vs) None above some = absurd (omega arith)
top_most R (Some m) above some =
    let least = max_least most (λ v. v) refl (λ _ _. refl) R 0 m above in
    let there = most_above R some.0 in
    let is = some.2 in
    omega arith
