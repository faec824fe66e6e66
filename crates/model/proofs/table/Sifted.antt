-- The words of a list that pass a test: which they are, and how many at most. Then for the two tests that there are: the words whose value is at
-- least a limit, and the words that are not empty. Assumes nothing.
use mathlib.Core.Path.{◌≡◌, refl, sym, ◌∙◌, ap, subst}
use mathlib.Core.Bool.{Bool, true, false, not}
use mathlib.Core.Logic.{◌⊎◌, inl, inr}
use mathlib.Core.List.{List, [], ◌∷◌, ◌++◌}
use Prim.Native.Nat.{ℕ, zero, suc, ◌≤◌, ◌<◌, zero-le, suc-le-suc}
use native.Mathlib.Nat.{le_of_suc-le-suc, not-suc-le-zero}
use native.Mathlib.Omega.{arith}
use lib.Dec.{eqb}
use lib.ListN.{length, get_or, replicate}
use borrow.Author.Tests.{eqb-true, eqb-false, ne_eqb, not-true, le-leb, lt-leb, leb-true}
use Rattle.model.specs.Pick.{pick}
use Rattle.model.specs.Coupon.{value, is_empty}
use Rattle.model.specs.Table.{Member, used, sifted, keeps, filled}
use Rattle.model.proofs.table.FirstLaws.{true_not_false}
use Rattle.model.proofs.table.Members.{member_head, member_tail, member_cases, member_none}
use Rattle.model.proofs.table.Grown.{DistinctBy}

module _ (p : ℕ → Bool) where
  pub sifted_none : sifted p [] ≡ []
  unfolding sifted
  sifted_none = refl

  pub sifted_in : (w : ℕ) (ws : List ℕ) → p w ≡ true → sifted p (w ∷ ws) ≡ w ∷ sifted p ws
  unfolding sifted
  sifted_in w ws e = rw e

  pub sifted_out : (w : ℕ) (ws : List ℕ) → p w ≡ false → sifted p (w ∷ ws) ≡ sifted p ws
  unfolding sifted
  sifted_out w ws e = rw e

  pub sifted_cons : (w : ℕ) (ws : List ℕ) → sifted p (w ∷ ws) ≡ sifted p (w ∷ []) ++ sifted p ws
  unfolding sifted
  sifted_cons w ws = go (p w)
    where
      go : (b : Bool) → pick b (w ∷ sifted p ws) (sifted p ws) ≡ pick b (w ∷ []) [] ++ sifted p ws
      go true = refl
      go false = refl

  pub sifted_from : (t : List ℕ) (x : ℕ) → Member (sifted p t) x → Member t x × (p x ≡ true)
  unfolding sifted
  sifted_from [] x m = absurd (member_none x m)
  sifted_from (w ∷ ws) x m = go (p w) refl (sifted_from ws x) m
    where
      up : Member ws x × (p x ≡ true) → Member (w ∷ ws) x × (p x ≡ true)
      up r = (member_tail w x ws r.0, r.1)

      head : p w ≡ true → (Member (sifted p ws) x → Member ws x × (p x ≡ true)) → (x ≡ w) ⊎ Member (sifted p ws) x → Member (w ∷ ws) x × (p x ≡ true)
      head h ih (inl e) = ((zero, suc-le-suc zero-le, sym e), ap p e ∙ h)
      head h ih (inr k) = up (ih k)

      go : (b : Bool) → p w ≡ b → (Member (sifted p ws) x → Member ws x × (p x ≡ true))
          → Member (pick b (w ∷ sifted p ws) (sifted p ws)) x → Member (w ∷ ws) x × (p x ≡ true)
      go true e ih k = head e ih (member_cases w x (sifted p ws) k)
      go false e ih k = up (ih k)

  pub sifted_to : (t : List ℕ) (x : ℕ) → Member t x → p x ≡ true → Member (sifted p t) x
  unfolding sifted
  sifted_to [] x m h = absurd (member_none x m)
  sifted_to (w ∷ ws) x m h = go (p w) refl (λ k. sifted_to ws x k h) (member_cases w x ws m)
    where
      go : (b : Bool) → p w ≡ b → (Member ws x → Member (sifted p ws) x) → (x ≡ w) ⊎ Member ws x → Member (pick b (w ∷ sifted p ws) (sifted p ws)) x
      go true e ih (inl q) = subst (λ (y : ℕ). Member (w ∷ sifted p ws) y) (sym q) (member_head w (sifted p ws))
      go true e ih (inr k) = member_tail w x (sifted p ws) (ih k)
      go false e ih (inl q) = absurd (true_not_false (ap p (sym q) ∙ h) e)
      go false e ih (inr k) = ih k

  pub sifted_distinct : (f : ℕ → ℕ) (t : List ℕ) → DistinctBy f t → DistinctBy f (sifted p t)
  unfolding sifted
  sifted_distinct f [] d = λ i j li lj hi hj e. absurd (not-suc-le-zero li)
  sifted_distinct f (w ∷ ws) d = go (p w) (sifted_distinct f ws (λ i j li lj hi hj e. let q : suc i ≡ suc j = d (suc i) (suc j) (suc-le-suc li) (suc-le-suc lj) hi hj e in omega arith))
    where
      apart : (k : ℕ) → k < length (sifted p ws) → (w ≡ 0 → ⊥) → (get_or (sifted p ws) k 0 ≡ 0 → ⊥) → f w ≡ f (get_or (sifted p ws) k 0) → ⊥
      apart k l hw hk e =
          let m : Member ws (get_or (sifted p ws) k 0) = (sifted_from ws (get_or (sifted p ws) k 0) (k, l, refl)).0 in
          let q : zero ≡ suc m.0 = d zero (suc m.0) (suc-le-suc zero-le) (suc-le-suc m.1) hw (λ z. hk (sym m.2 ∙ z)) (e ∙ ap f (sym m.2)) in
          omega arith

      both : DistinctBy f (sifted p ws) → DistinctBy f (w ∷ sifted p ws)
      both r zero zero li lj hi hj e = refl
      both r zero (suc j) li lj hi hj e = absurd (apart j (le_of_suc-le-suc lj) hi hj e)
      both r (suc i) zero li lj hi hj e = absurd (apart i (le_of_suc-le-suc li) hj hi (sym e))
      both r (suc i) (suc j) li lj hi hj e = ap suc (r i j (le_of_suc-le-suc li) (le_of_suc-le-suc lj) hi hj e)

      go : (b : Bool) → DistinctBy f (sifted p ws) → DistinctBy f (pick b (w ∷ sifted p ws) (sifted p ws))
      go true r = both r
      go false r = r

  -- where the word 0 does not pass, zeros behind add nothing
  pub sifted_front : (t : List ℕ) (n : ℕ) → p 0 ≡ false → sifted p (t ++ replicate n 0) ≡ sifted p t
  unfolding sifted
  sifted_front [] zero h = refl
  sifted_front [] (suc n) h = rw h (sifted_front [] n h)
  sifted_front (w ∷ t) n h = ap (λ (r : List ℕ). pick (p w) (w ∷ r) r) (sifted_front t n h)

  -- and at most the words that are used do
  pub sifted_few : (t : List ℕ) → p 0 ≡ false → length (sifted p t) ≤ used t
  unfolding sifted used
  sifted_few [] h = omega arith
  sifted_few (w ∷ ws) h = go (p w) refl (eqb w 0) refl (sifted_few ws h)
    where
      go : (b : Bool) → p w ≡ b → (z : Bool) → eqb w 0 ≡ z → length (sifted p ws) ≤ used ws → length (pick b (w ∷ sifted p ws) (sifted p ws)) ≤ pick z (used ws) (suc (used ws))
      go false e true f ih = ih
      go false e false f ih = omega arith
      go true e false f ih = suc-le-suc ih
      go true e true f ih = absurd (true_not_false e (ap p (eqb-true w 0 f) ∙ h))

-- ---- the words whose value is at least a limit
pub keeps_in : (limit w : ℕ) (ws : List ℕ) → limit ≤ value w → keeps limit (w ∷ ws) ≡ w ∷ keeps limit ws
keeps_in limit w ws h = sifted_in _ w ws (le-leb limit (value w) h)

pub keeps_out : (limit w : ℕ) (ws : List ℕ) → value w < limit → keeps limit (w ∷ ws) ≡ keeps limit ws
keeps_out limit w ws h = sifted_out _ w ws (lt-leb limit (value w) h)

pub keeps_from : (limit : ℕ) (t : List ℕ) (x : ℕ) → Member (keeps limit t) x → Member t x × (limit ≤ value x)
keeps_from limit t x m = let r = sifted_from _ t x m in (r.0, leb-true limit (value x) r.1)

pub keeps_to : (limit : ℕ) (t : List ℕ) (x : ℕ) → Member t x → limit ≤ value x → Member (keeps limit t) x
keeps_to limit t x m h = sifted_to _ t x m (le-leb limit (value x) h)

pub keeps_few : (limit : ℕ) (t : List ℕ) → 0 < limit → length (keeps limit t) ≤ used t
keeps_few limit t h = sifted_few _ t (lt-leb limit 0 h)

-- ---- the words that are not empty
pub zero_empty : is_empty 0 ≡ true
zero_empty = refl

pub filled_in : (w : ℕ) (ws : List ℕ) → is_empty w ≡ false → filled (w ∷ ws) ≡ w ∷ filled ws
filled_in w ws e = sifted_in _ w ws (ap not e)

pub filled_out : (w : ℕ) (ws : List ℕ) → is_empty w ≡ true → filled (w ∷ ws) ≡ filled ws
filled_out w ws e = sifted_out _ w ws (ap not e)

pub filled_front : (t : List ℕ) (n : ℕ) → filled (t ++ replicate n 0) ≡ filled t
filled_front t n = sifted_front _ t n (ap not zero_empty)

pub filled_from : (t : List ℕ) (x : ℕ) → Member (filled t) x → Member t x × (x ≡ 0 → ⊥)
filled_from t x m = let r = sifted_from _ t x m in (r.0, eqb-false x 0 (not-true _ r.1))

pub filled_to : (t : List ℕ) (x : ℕ) → Member t x → (x ≡ 0 → ⊥) → Member (filled t) x
filled_to t x m h = sifted_to _ t x m (ap not (ne_eqb x 0 h))

-- as many as are used
pub filled_used : (t : List ℕ) → length (filled t) ≡ used t
unfolding sifted used
filled_used [] = refl
filled_used (w ∷ ws) = go (is_empty w) (filled_used ws)
  where
    go : (b : Bool) → length (filled ws) ≡ used ws → length (pick (not b) (w ∷ filled ws) (filled ws)) ≡ pick b (used ws) (suc (used ws))
    go true ih = ih
    go false ih = ap suc ih
