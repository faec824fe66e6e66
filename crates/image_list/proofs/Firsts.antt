-- The place that a chain finds among the first numbers is the book's. Assumes nothing.
use mathlib.Core.Path.{◌≡◌, refl, sym, ap, ◌∙◌}
use mathlib.Core.Bool.{Bool, true, false}
use mathlib.Core.List.{List}
use Prim.Native.Nat.{ℕ, ◌<◌}
use native.Mathlib.Omega.{arith}
use lib.Dec.{ltb}
use lib.ListN.{length, get_or}
use borrow.Author.Tests.{ltb-false}
use Rattle.std.specs.Prelude.{Some, None, cond}
use Rattle.std.specs.List.{position, position_or_len, range_with_len}
use Rattle.std.proofs.lemmas.List.Quantifiers.{position-Some}
use Rattle.std.proofs.lemmas.List.Sums.{fails_before_first}
use Rattle.std.proofs.lemmas.List.FromFn.{get_or-range_with_len, length-range_with_len}
use Rattle.model.specs.Pick.{first}
use Rattle.model.proofs.table.FirstLaws.{first_is, first_last}

module _ (p q : ℕ → Bool) (n : ℕ) (same : (k : ℕ) → k < n → q k ≡ p k) where
  abbrev xs : List ℕ
  xs = range_with_len 0 n

  at : (k : ℕ) {b : Bool} → k < n → p (get_or xs k 0) ≡ b → q k ≡ b
  at k l e = same k l ∙ ap p (sym (get_or-range_with_len 0 n k 0 l ∙ omega arith)) ∙ e

  pub first_found : {i : ℕ} → Some i ≡ position p xs → (i < n) × (i ≡ first q n)
  first_found {i} e =
      let h = position-Some p xs i 0 (sym e) in
      let long = length-range_with_len 0 n in
      let l : i < n = omega (arith, h.0) in
      (l, sym (first_is q n i l (at i l h.1) (λ k m. at k (omega arith) (h.2 k m))))

  pub first_none : None ≡ position p xs → first q n ≡ n
  first_none e = go (ltb (position_or_len p xs) (length xs)) refl e
    where
      go : (b : Bool) → ltb (position_or_len p xs) (length xs) ≡ b → None ≡ cond b (Some (position_or_len p xs)) None → first q n ≡ n
      go true h f = cc
      go false h f = let long = length-range_with_len 0 n in first_last q n (λ k l. at k l (fails_before_first p xs k 0 (omega (arith, ltb-false _ _ h))))
