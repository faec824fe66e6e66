-- The empty word by its two fields, and what is wrong with a word that has a slot and no value. Assumes nothing.
use mathlib.Core.Path.{◌≡◌, ◌∙◌, ap, subst}
use mathlib.Core.Bool.{Bool}
use mathlib.Core.List.{List}
use mathlib.Core.Logic.{◌⊎◌, inl, inr}
use Prim.Native.Nat.{ℕ, ◌^◌, ◌<◌}
use native.Mathlib.Omega.{arith}
use lib.Dec.{eqb}
use lib.ListN.{length, get_or}
use borrow.Author.Tests.{ne_eqb}
use Rattle.model.specs.Pick.{both}
use Rattle.model.specs.Coupon.{value, slot, is_empty}
use Rattle.model.specs.Answers.{Said, said}
use Rattle.model.specs.Faults.{aux_fault}
use Rattle.model.specs.Claims.{EntryAt, EmptyAt, TwiceAt, RightAt, RightTo, EmptyWord}
use Rattle.model.proofs.order.Tells.{tells_one, tells_as, tells_both, tells_eq}
use Rattle.model.proofs.table.FirstLaws.{true_not_false}
use Rattle.model.proofs.image.Faults.{Finds, an_empty, a_twice, a_low, a_count, a_slot, a_none, finds, one_first}

fields : (w : ℕ) → w < 2 ^ 32 → is_empty w ≡ both (eqb (slot w) 0) (eqb (value w) 0)
fields w h =
    tells_one _ _ (tells_eq w 0)
    (tells_as _ (λ p. let a = p.0 in let b = p.1 in omega arith) (λ e. (omega arith, omega arith)) (tells_both _ _ (tells_eq (slot w) 0) (tells_eq (value w) 0)))

module _ (compact : Bool) (k low count : ℕ) (ws ns : List ℕ) (i : ℕ) (l : i < length ws) (right : RightTo compact k low ws i) (some : 0 < slot (get_or ws i 0)) (none : value (get_or ws i 0) ≡ 0) where
  entry : EntryAt ws i
  entry = ne_eqb (get_or ws i 0) 0 (λ z. omega arith)

  wrong : RightAt compact k low ws i → ⊥
  wrong r = r.1.1 (entry, omega arith)

  no_value : (TwiceAt k ws i × (aux_fault compact k low count ws ns ≡ said 22 i)) ⊎ ((TwiceAt k ws i → ⊥) × (aux_fault compact k low count ws ns ≡ said 23 i))
  no_value = go (finds compact k low count ws ns)
    where
      go : {f : Said} → Finds compact k low count ws ns f → (TwiceAt k ws i × (f ≡ said 22 i)) ⊎ ((TwiceAt k ws i → ⊥) × (f ≡ said 23 i))
      go (an_empty j d r p e) = absurd (true_not_false (subst (λ (n : ℕ). EmptyAt compact ws n) (one_first compact k low ws j i r right (λ x. x.0 p) wrong) p).1 entry)
      go (a_twice j d r p e) =
          let q = one_first compact k low ws j i r right (λ x. x.1.0 p) wrong in
          inl (subst (λ (n : ℕ). TwiceAt k ws n) q p, e ∙ ap (λ (n : ℕ). said 22 n) q)
      go (a_low j d r t p e) =
          let q = one_first compact k low ws j i r right (λ x. x.1.1 p) wrong in
          inr (subst (λ (n : ℕ). TwiceAt k ws n → ⊥) q t, e ∙ ap (λ (n : ℕ). said 23 n) q)
      go (a_count r c e) = absurd (wrong (r i l))
      go (a_slot s r c m x f e) = absurd (wrong (r i l))
      go (a_none r c x e) = absurd (wrong (r i l))

pub empty_word : EmptyWord
empty_word = record { fields = fields; no_value = no_value }
