-- A call does its work where its number is 0, and gives back what it got, with the number, where it is not: what is known of the one that is picked. Assumes nothing.
use mathlib.Core.Path.{◌≡◌, refl, sym, ap, ◌∙◌}
use mathlib.Core.Bool.{Bool, true, false}
use Prim.Native.Nat.{ℕ}
use lib.Dec.{eqb}
use borrow.Author.Tests.{eqb-true, eqb-false}
use Rattle.model.specs.Pick.{pick}

module _ {A : Type 0} (n : ℕ) (done back : A) where
  -- what holds of both
  pub picked : (P : A → Type 0) → (n ≡ 0 → P done) → ((n ≡ 0 → ⊥) → P back) → P (pick (eqb n 0) done back)
  picked P f g = go (eqb n 0) refl
    where
      go : (b : Bool) → eqb n 0 ≡ b → P (pick b done back)
      go true q = f (eqb-true n 0 q)
      go false q = g (eqb-false n 0 q)

  module _ (number : A → ℕ) (is : number back ≡ n) where
    -- its number
    pub picked_no : number done ≡ 0 → number (pick (eqb n 0) done back) ≡ n
    picked_no e = picked (λ a. number a ≡ n) (λ z. e ∙ sym z) (λ h. is)

    -- where it is not refused the work was done
    pub picked_done : (P : A → Type 0) → (n ≡ 0 → number done ≡ 0 → P done) → number (pick (eqb n 0) done back) ≡ 0 → P (pick (eqb n 0) done back)
    picked_done P f = picked (λ a. number a ≡ 0 → P a) f (λ h e. absurd (h (sym is ∙ e)))

-- where its number is not that of the work done, all is given back
pub picked_back : {A : Type 0} (number : A → ℕ) (back : ℕ → A) → ((m : ℕ) → number (back m) ≡ m) → (n : ℕ) (done : A)
    → (number (pick (eqb n 0) done (back n)) ≡ number done → ⊥) → pick (eqb n 0) done (back n) ≡ back (number (pick (eqb n 0) done (back n)))
picked_back number back e n done = picked n done (back n) (λ a. (number a ≡ number done → ⊥) → a ≡ back (number a)) (λ z h. absurd (h refl)) (λ z h. ap back (sym (e n)))
