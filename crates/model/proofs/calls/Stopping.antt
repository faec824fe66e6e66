-- Where a batch stops, said of the registers alone: at the first coupon that finds no room in what the coupons before it have fed. Assumes nothing.
use mathlib.Core.Path.{◌≡◌, refl, sym, ap, ◌∙◌, subst}
use mathlib.Core.List.{List, [], ◌∷◌}
use mathlib.Core.Logic.{◌⊎◌, inl, inr}
use Prim.Native.Nat.{ℕ, zero, suc, ◌<◌, suc-le-suc}
use native.Mathlib.Nat.{not-suc-le-zero, le_of_suc-le-suc}
use native.Mathlib.Omega.{arith}
use lib.ListN.{length, get_or, take}
use Rattle.model.specs.Coupon.{value, home}
use Rattle.model.specs.Registers.{raise, fed}
use Rattle.model.specs.Steps.{Step, went, stopped, Ran, more, on_step, ran}

module _ (A : Type 0) (f : A → ℕ → Step A) (k : ℕ) (Ok : A → Type 0) (reg : A → List ℕ) (Stop : List ℕ → ℕ → Type 0)
    (goes : (a b : A) (c : ℕ) → Ok a → f a c ≡ went b → Ok b × (reg b ≡ raise (reg a) (home k c) (value c)))
    (stops : (a : A) (c : ℕ) → Ok a → f a c ≡ stopped → Stop (reg a) c)
    (stops_only : (a : A) (c : ℕ) → Ok a → Stop (reg a) c → f a c ≡ stopped) where
  -- coupon i finds no room in what the coupons before it have fed
  abbrev StopAt : List ℕ → List ℕ → ℕ → Type 0
  StopAt R cs i = Stop (fed k R (take i cs)) (get_or cs i 0)

  abbrev Goes : List ℕ → List ℕ → ℕ → Type 0
  Goes R cs n = (i : ℕ) → i < n → StopAt R cs i → ⊥

  abbrev Line : List ℕ → List ℕ → Ran A → Type 0
  Line R cs r = ((r.no ≡ 0) × (r.count ≡ length cs) × Goes R cs r.count) ⊎ ((r.no ≡ 6) × (r.count < length cs) × StopAt R cs r.count × Goes R cs r.count)

  went_not : (a b : A) (c : ℕ) → Ok a → f a c ≡ went b → Stop (reg a) c → ⊥
  went_not a b c ok e h = let q = sym (stops_only a c ok h) ∙ e in let z : ◌≡◌ {A = ℕ} 0 1 = cc in omega arith

  pub ran_line : (cs : List ℕ) (a : A) → Ok a → Line (reg a) cs (ran f a cs)
  unfolding ran fed
  ran_line [] a ok = inl (refl, refl, λ i l. absurd (not-suc-le-zero l))
  ran_line (c ∷ cs) a ok = go (λ b o. ran_line cs b o) (f a c) refl
    where
      none : (b : A) → f a c ≡ went b → reg b ≡ raise (reg a) (home k c) (value c) → (n : ℕ) → Goes (reg b) cs n → Goes (reg a) (c ∷ cs) (suc n)
      none b e q n g zero l h = went_not a b c ok e h
      none b e q n g (suc i) l h = g i (le_of_suc-le-suc l) (subst (λ (R : List ℕ). StopAt R cs i) (sym q) h)

      more_line : (b : A) → f a c ≡ went b → reg b ≡ raise (reg a) (home k c) (value c) → Line (reg b) cs (ran f b cs) → Line (reg a) (c ∷ cs) (more (ran f b cs))
      more_line b e q (inl (n, m, g)) = inl (n, ap suc m, none b e q _ g)
      more_line b e q (inr (n, m, s, g)) = inr (n, suc-le-suc m, subst (λ (R : List ℕ). StopAt R cs (ran f b cs).count) q s, none b e q _ g)

      go : ((b : A) → Ok b → Line (reg b) cs (ran f b cs)) → (t : Step A) → f a c ≡ t → Line (reg a) (c ∷ cs) (on_step t (record { state = a; count = 0; no = 6 }) (λ b. more (ran f b cs)))
      go ih (went b) e = let l = goes a b c ok e in more_line b e l.1 (ih b l.0)
      go ih stopped e = inr (refl, omega arith, stops a c ok e, λ i l. absurd (not-suc-le-zero l))
