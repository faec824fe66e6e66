-- The answers of a search, taken apart. Assumes nothing.
use mathlib.Core.Path.{◌≡◌, refl, sym, ◌∙◌, ap, subst}
use mathlib.Core.Bool.{Bool, true, false}
use mathlib.Core.List.{List}
use Prim.Native.Nat.{ℕ, ◌<◌}
use Rattle.std.specs.Prelude.{Ok, Err, Some, None}
use lib.Dec.{eqb}
use lib.ListN.{length, get_or}
use native.Mathlib.Omega.{arith}
use borrow.Author.Tests.{eq-eqb, ne_eqb, eqb-true, eqb-false}
use Rattle.model.specs.Pick.{pick}
use Rattle.model.specs.Coupon.{value}
use Rattle.model.specs.Table.{Room, place, word_at}
use Rattle.model.proofs.table.Search.{place_lt}
use Rattle.aux_map.specs.Search.{finds, gets}

module _ (t : List ℕ) (s i : ℕ) where
  pub finds_found : finds t s ≡ Ok i → (i ≡ place t s) × (word_at t s ≡ 0 → ⊥)
  unfolding finds
  finds_found e = go (eqb (word_at t s) 0) refl e
    where
      go : (b : Bool) → eqb (word_at t s) 0 ≡ b → pick b (Err (place t s)) (Ok (place t s)) ≡ Ok i → (i ≡ place t s) × (word_at t s ≡ 0 → ⊥)
      go true q f = let z : ◌≡◌ {A = ℕ} 0 1 = cc in absurd (omega arith)
      go false q f = ((cc), eqb-false (word_at t s) 0 q)

  pub finds_empty : finds t s ≡ Err i → (i ≡ place t s) × (word_at t s ≡ 0)
  unfolding finds
  finds_empty e = go (eqb (word_at t s) 0) refl e
    where
      go : (b : Bool) → eqb (word_at t s) 0 ≡ b → pick b (Err (place t s)) (Ok (place t s)) ≡ Err i → (i ≡ place t s) × (word_at t s ≡ 0)
      go true q f = ((cc), eqb-true (word_at t s) 0 q)
      go false q f = let z : ◌≡◌ {A = ℕ} 0 1 = cc in absurd (omega arith)

  -- the place of an answer is in the table
  pub found_lt : Room t → finds t s ≡ Ok i → i < length t
  found_lt r e = subst (λ (p : ℕ). p < length t) (sym (finds_found e).0) (place_lt t s r)

  pub empty_lt : Room t → finds t s ≡ Err i → i < length t
  empty_lt r e = subst (λ (p : ℕ). p < length t) (sym (finds_empty e).0) (place_lt t s r)

  pub gets_found : (v : ℕ) → v ≡ value (get_or t i 0) → finds t s ≡ Ok i → Some v ≡ gets t s
  unfolding gets word_at
  gets_found v is e = let (q, n) = finds_found e in ap Some is ∙ rw (q, ne_eqb (get_or t (place t s) 0) 0 n)

  pub gets_empty : finds t s ≡ Err i → None ≡ gets t s
  unfolding gets
  gets_empty e = rw (eq-eqb (word_at t s) 0 (finds_empty e).1)
