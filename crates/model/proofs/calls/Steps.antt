-- Laws of a batch that may stop. A loop's invariant is `ran f a₀ cs ≡ plus i (ran f a (drop i cs))`: what is left to do, so that no
-- law about one coupon more at the end is wanted. Assumes nothing.
use mathlib.Core.Path.{◌≡◌, refl, sym, ap, ◌∙◌}
use mathlib.Core.List.{List, [], ◌∷◌, ◌++◌}
use Prim.Native.Nat.{ℕ, suc, ◌+◌, ◌<◌}
use native.Mathlib.Nat.{zero-add, add-zero, add-suc, suc-add}
use native.Mathlib.Numerals.{add-one}
use native.Mathlib.Omega.{arith}
use lib.ListN.{length, get_or, drop, take}
use lib.Seq.{drop-cons, drop-length}
use Rattle.model.specs.Steps.{Step, went, stopped, Ran, more, on_step, ran}
use Rattle.model.specs.Coupon.{value, home}
use Rattle.model.specs.Registers.{raise, fed}

-- i coupons were taken before
abbrev pub plus : {A : Type 0} → ℕ → Ran A → Ran A
plus i r = record { state = r.state; count = i + r.count; no = r.no }

module _ (A : Type 0) (f : A → ℕ → Step A) where
  -- the loop: it begins, takes a coupon, stops for want of room, or comes to the end
  pub ran_begin : (a : A) (cs : List ℕ) → ran f a cs ≡ plus 0 (ran f a (drop 0 cs))
  ran_begin a cs = ap (λ (n : ℕ). record { state = (ran f a cs).state; count = n; no = (ran f a cs).no }) (sym (zero-add (ran f a cs).count))

  pub ran_went : (a b : A) (cs : List ℕ) (i : ℕ) → i < length cs → f a (get_or cs i 0) ≡ went b → plus i (ran f a (drop i cs)) ≡ plus (i + 1) (ran f b (drop (i + 1) cs))
  unfolding ran
  ran_went a b cs i h e =
      rw (add-one i, drop-cons cs i 0 h, e) (ap (λ (n : ℕ). record { state = (ran f b (drop (suc i) cs)).state; count = n; no = (ran f b (drop (suc i) cs)).no }) (add-suc i _ ∙ sym (suc-add i _)))

  pub ran_stop : (a : A) (cs : List ℕ) (i : ℕ) → i < length cs → f a (get_or cs i 0) ≡ stopped → plus i (ran f a (drop i cs)) ≡ record { state = a; count = i; no = 6 }
  unfolding ran
  ran_stop a cs i h e = rw (drop-cons cs i 0 h, e, add-zero)

  pub ran_end : (a : A) (cs : List ℕ) (i : ℕ) → i ≡ length cs → plus i (ran f a (drop i cs)) ≡ record { state = a; count = i; no = 0 }
  unfolding ran
  ran_end a cs i e = rw (e, drop-length, add-zero)

  -- a batch whose first coupon's step is t
  abbrev First : ℕ → List ℕ → A → Step A → Ran A
  First c cs a t = on_step t (record { state = a; count = 0; no = 6 }) (λ b. more (ran f b cs))

  -- a batch of two parts: the second follows where the first has taken all, and else is not begun
  pub ran_rest : (xs ys : List ℕ) (a : A) → (ran f a xs).no ≡ 0 → ran f a (xs ++ ys) ≡ plus (ran f a xs).count (ran f (ran f a xs).state ys)
  unfolding ran
  ran_rest [] ys a e = ran_begin a ys
  ran_rest (c ∷ xs) ys a e = go (λ b h. ran_rest xs ys b h) (f a c) e
    where
      go : ((b : A) → (ran f b xs).no ≡ 0 → ran f b (xs ++ ys) ≡ plus (ran f b xs).count (ran f (ran f b xs).state ys)) → (t : Step A) → (First c xs a t).no ≡ 0
          → First c (xs ++ ys) a t ≡ plus (First c xs a t).count (ran f (First c xs a t).state ys)
      go ih (went b) h =
          ap more (ih b h)
          ∙ ap (λ (n : ℕ). record { state = (ran f (ran f b xs).state ys).state; count = n; no = (ran f (ran f b xs).state ys).no }) (sym (suc-add (ran f b xs).count _))
      go ih stopped h = absurd (omega arith)

  pub ran_halts : (xs ys : List ℕ) (a : A) → ((ran f a xs).no ≡ 0 → ⊥) → ran f a (xs ++ ys) ≡ ran f a xs
  unfolding ran
  ran_halts [] ys a h = absurd (h refl)
  ran_halts (c ∷ xs) ys a h = go (λ b k. ran_halts xs ys b k) (f a c) h
    where
      go : ((b : A) → ((ran f b xs).no ≡ 0 → ⊥) → ran f b (xs ++ ys) ≡ ran f b xs) → (t : Step A) → ((First c xs a t).no ≡ 0 → ⊥) → First c (xs ++ ys) a t ≡ First c xs a t
      go ih (went b) k = ap more (ih b k)
      go ih stopped k = refl

  -- what every step keeps, the batch keeps; and where each step raises its register, the registers are those fed what was taken
  pub ran_keeps : (k : ℕ) (Ok : A → Type 0) (reg : A → List ℕ)
      → ((a b : A) (c : ℕ) → Ok a → f a c ≡ went b → Ok b × (reg b ≡ raise (reg a) (home k c) (value c)))
      → (cs : List ℕ) (a : A) → Ok a → Ok (ran f a cs).state × (reg (ran f a cs).state ≡ fed k (reg a) (take (ran f a cs).count cs))
  unfolding ran fed
  ran_keeps k Ok reg law [] a ok = (ok, refl)
  ran_keeps k Ok reg law (c ∷ cs) a ok = go (λ b o. ran_keeps k Ok reg law cs b o) (f a c) refl
    where
      go : ((b : A) → Ok b → Ok (ran f b cs).state × (reg (ran f b cs).state ≡ fed k (reg b) (take (ran f b cs).count cs)))
          → (t : Step A) → f a c ≡ t → Ok (First c cs a t).state × (reg (First c cs a t).state ≡ fed k (reg a) (take (First c cs a t).count (c ∷ cs)))
      go ih (went b) e =
          let l = law a b c ok e in
          let r = ih b l.0 in
          (r.0, r.1 ∙ ap (λ (t : List ℕ). fed k t (take (ran f b cs).count cs)) l.1)
      go ih stopped e = (ok, refl)
