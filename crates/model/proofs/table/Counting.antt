-- Counting: a list of words of different slots has as many words as there are slots that have one. Assumes nothing.
use mathlib.Core.Path.{◌≡◌, refl, sym, ◌∙◌, ap}
use mathlib.Core.Bool.{Bool, true, false}
use mathlib.Core.Logic.{◌⊎◌, inl, inr}
use mathlib.Core.List.{List, [], ◌∷◌}
use Prim.Native.Nat.{ℕ, zero, suc, ◌≤◌, ◌<◌, zero-le, suc-le-suc}
use native.Mathlib.Nat.{not-suc-le-zero, le_refl}
use native.Mathlib.Omega.{arith}
use native.Mathlib.Decide.{ℕ_discrete}
use lib.Dec.{eqb, leb}
use lib.ListN.{length, get_or}
use borrow.Author.Tests.{eq-eqb, ne_eqb}
use Rattle.model.specs.Pick.{pick}
use Rattle.model.specs.Table.{Member, used}
use Rattle.model.specs.Coupon.{slot}
use Rattle.model.proofs.table.FirstLaws.{true_not_false}
use Rattle.model.proofs.table.Grown.{Distinct}
use Rattle.model.specs.Registers.{above, count_of}
use Rattle.model.proofs.table.Members.{member_head, member_tail, member_cases, member_none}

-- how many numbers below n pass a test: a count as a loop makes it
unfoldable pub marks : (ℕ → Bool) → ℕ → ℕ
marks p zero = 0
marks p (suc n) = pick (p n) (suc (marks p n)) (marks p n)

-- the test without s
abbrev off : (ℕ → Bool) → ℕ → ℕ → Bool
off p s m = pick (eqb m s) false (p m)

pub marks_le : (p : ℕ → Bool) (n : ℕ) → marks p n ≤ n
unfolding marks
marks_le p zero = zero-le
marks_le p (suc n) = go (p n) (marks_le p n)
  where
    go : (b : Bool) {m : ℕ} → m ≤ n → pick b (suc m) m ≤ suc n
    go true h = suc-le-suc h
    go false h = omega arith

marks_none : (p : ℕ → Bool) (n : ℕ) → ((s : ℕ) → s < n → p s ≡ false) → marks p n ≡ 0
unfolding marks
marks_none p zero h = refl
marks_none p (suc n) h = rw (h n (le_refl (suc n))) (marks_none p n (λ s l. h s (omega arith)))

pub marks_same : (p q : ℕ → Bool) (n : ℕ) → ((s : ℕ) → s < n → p s ≡ q s) → marks p n ≡ marks q n
unfolding marks
marks_same p q zero h = refl
marks_same p q (suc n) h = rw (h n (le_refl (suc n)), marks_same p q n (λ s l. h s (omega arith)))

off_other : (p : ℕ → Bool) (s m : ℕ) → (m ≡ s → ⊥) → off p s m ≡ p m
off_other p s m h = rw (ne_eqb m s h)

off_same : (p : ℕ → Bool) (s : ℕ) → off p s s ≡ false
off_same p s = rw (eq-eqb s s refl)

marks_off : (p : ℕ → Bool) (n s : ℕ) → s < n → p s ≡ true → marks p n ≡ suc (marks (off p s) n)
unfolding marks
marks_off p zero s l e = absurd (not-suc-le-zero l)
marks_off p (suc n) s l e = go (λ k. marks_off p n s k e) (ℕ_discrete n s)
  where
    go : (s < n → marks p n ≡ suc (marks (off p s) n)) → Dec (n ≡ s) → pick (p n) (suc (marks p n)) (marks p n) ≡ suc (pick (off p s n) (suc (marks (off p s) n)) (marks (off p s) n))
    go ih (yes q) =
        ap (λ (b : Bool). pick b (suc (marks p n)) (marks p n)) (ap p q ∙ e)
        ∙ ap suc (marks_same p (off p s) n (λ m k. sym (off_other p s m (omega arith))) ∙ sym (ap (λ (b : Bool). pick b (suc (marks (off p s) n)) (marks (off p s) n)) (ap (off p s) q ∙ off_same p s)))
    go ih (no q) = rw (off_other p s n q) (both (p n) (ih (omega arith)))
      where
        both : (b : Bool) → marks p n ≡ suc (marks (off p s) n) → pick b (suc (marks p n)) (marks p n) ≡ suc (pick b (suc (marks (off p s) n)) (marks (off p s) n))
        both true h = ap suc h
        both false h = h

-- the slots that pass are those of the words
pub record Marked (ws : List ℕ) (p : ℕ → Bool) (k : ℕ) : Type 0 where
  pub distinct : Distinct ws
  pub from : (x : ℕ) → (x ≡ 0 → ⊥) → Member ws x → (slot x < k) × (p (slot x) ≡ true)
  pub to : (s : ℕ) → s < k → p s ≡ true → (x : ℕ) × (x ≡ 0 → ⊥) × Member ws x × (slot x ≡ s)

module _ (w : ℕ) (ws : List ℕ) (p : ℕ → Bool) (k : ℕ) (m : Marked (w ∷ ws) p k) where
  rest : Distinct ws
  rest i j li lj hi hj e = omega (arith, m.distinct (suc i) (suc j) (suc-le-suc li) (suc-le-suc lj) hi hj e)

  apart : (w ≡ 0 → ⊥) → (x : ℕ) → (x ≡ 0 → ⊥) → Member ws x → slot x ≡ slot w → ⊥
  apart hw x hx mx e =
      let q : zero ≡ suc mx.0 = m.distinct zero (suc mx.0) (suc-le-suc zero-le) (suc-le-suc mx.1) hw (λ z. hx (sym mx.2 ∙ z)) (sym e ∙ ap slot (sym mx.2)) in
      omega arith

  skip : w ≡ 0 → Marked ws p k
  skip e = record {
    distinct = rest;
    from = λ x hx mx. m.from x hx (member_tail w x ws mx);
    to = λ s l q. let (x, hx, mx, ex) = m.to s l q in (x, hx, go x hx (member_cases w x ws mx), ex);
  }
    where
      go : (x : ℕ) → (x ≡ 0 → ⊥) → (x ≡ w) ⊎ Member ws x → Member ws x
      go x hx (inl q) = absurd (hx (q ∙ e))
      go x hx (inr mx) = mx

  strike : (w ≡ 0 → ⊥) → Marked ws (off p (slot w)) k
  strike hw = record {
    distinct = rest;
    from = λ x hx mx. let r = m.from x hx (member_tail w x ws mx) in (r.0, off_other p (slot w) (slot x) (apart hw x hx mx) ∙ r.1);
    to = λ s l q. let n = differs s q in let (x, hx, mx, ex) = m.to s l (sym (off_other p (slot w) s n) ∙ q) in (x, hx, go x s ex n (member_cases w x ws mx), ex);
  }
    where
      differs : (s : ℕ) → off p (slot w) s ≡ true → s ≡ slot w → ⊥
      differs s q e = true_not_false q (ap (off p (slot w)) e ∙ off_same p (slot w))

      go : (x s : ℕ) → slot x ≡ s → (s ≡ slot w → ⊥) → (x ≡ w) ⊎ Member ws x → Member ws x
      go x s ex n (inl q) = absurd (n (sym ex ∙ ap slot q))
      go x s ex n (inr mx) = mx

pub marks_used : (ws : List ℕ) (p : ℕ → Bool) (k : ℕ) → Marked ws p k → used ws ≡ marks p k
unfolding used
marks_used [] p k m = sym (marks_none p k (λ s l. none s l (p s) refl))
  where
    none : (s : ℕ) → s < k → (b : Bool) → p s ≡ b → p s ≡ false
    none s l false e = e
    none s l true e = let (x, hx, mx, ex) = m.to s l e in absurd (member_none x mx)
marks_used (w ∷ ws) p k m = go (λ q. marks_used ws q k) (ℕ_discrete w 0)
  where
    go : ((q : ℕ → Bool) → Marked ws q k → used ws ≡ marks q k) → Dec (w ≡ 0) → pick (eqb w 0) (used ws) (suc (used ws)) ≡ marks p k
    go ih (yes e) = rw (eq-eqb w 0 e) (ih p (skip w ws p k m e))
    go ih (no h) =
        let r = m.from w h (member_head w ws) in
        rw (ne_eqb w 0 h) (ap suc (ih (off p (slot w)) (strike w ws p k m h)) ∙ sym (marks_off p k (slot w) r.0 r.1))

-- counted from the front
marks_front : (p : ℕ → Bool) (n : ℕ) → marks p (suc n) ≡ pick (p 0) (suc (marks (λ m. p (suc m)) n)) (marks (λ m. p (suc m)) n)
unfolding marks
marks_front p zero = refl
marks_front p (suc n) =
    ap (λ (x : ℕ). pick (p (suc n)) (suc x) x) (marks_front p n) ∙ swap (p (suc n)) (p 0) (marks (λ m. p (suc m)) n)
  where
    swap : (b d : Bool) (x : ℕ) → pick b (suc (pick d (suc x) x)) (pick d (suc x) x) ≡ pick d (suc (pick b (suc x) x)) (pick b (suc x) x)
    swap true true x = refl
    swap true false x = refl
    swap false true x = refl
    swap false false x = refl

pub above_marks : (n : ℕ) (R : List ℕ) → above n R ≡ marks (λ s. leb n (get_or R s 0)) (length R)
unfolding above marks
above_marks n [] = refl
above_marks n (v ∷ vs) = ap (λ (x : ℕ). pick (leb n v) (suc x) x) (above_marks n vs) ∙ sym (marks_front (λ s. leb n (get_or (v ∷ vs) s 0)) (length vs))

pub count_marks : (n : ℕ) (R : List ℕ) → count_of n R ≡ marks (λ s. eqb (get_or R s 0) n) (length R)
unfolding count_of marks
count_marks n [] = refl
count_marks n (v ∷ vs) = ap (λ (x : ℕ). pick (eqb v n) (suc x) x) (count_marks n vs) ∙ sym (marks_front (λ s. eqb (get_or (v ∷ vs) s 0) n) (length vs))

-- fewer pass
marks_mono : (p q : ℕ → Bool) (n : ℕ) → ((s : ℕ) → s < n → p s ≡ true → q s ≡ true) → marks p n ≤ marks q n
unfolding marks
marks_mono p q zero g = zero-le
marks_mono p q (suc n) g = step (p n) refl (q n) refl (marks_mono p q n (λ s l. g s (omega arith)))
  where
    step : (b : Bool) → p n ≡ b → (d : Bool) → q n ≡ d → marks p n ≤ marks q n → pick b (suc (marks p n)) (marks p n) ≤ pick d (suc (marks q n)) (marks q n)
    step true e true f k = suc-le-suc k
    step true e false f k = absurd (true_not_false (g n (le_refl (suc n)) e) f)
    step false e true f k = omega arith
    step false e false f k = k

-- fewer pass, and as many: the same pass
pub marks_all : (p q : ℕ → Bool) (n : ℕ) → ((s : ℕ) → s < n → p s ≡ true → q s ≡ true) → marks p n ≡ marks q n → (s : ℕ) → s < n → q s ≡ true → p s ≡ true
marks_all p q n h e s l t = go (p s) refl
  where
    go : (b : Bool) → p s ≡ b → p s ≡ true
    go true z = z
    go false z =
        let less : marks p n ≤ marks (off q s) n = marks_mono p (off q s) n (λ i k u. off_other q s i (λ w. true_not_false u (ap p w ∙ z)) ∙ h i k u) in
        absurd (let f = marks_off q n s l t in omega arith)

pub marks_zero : (p : ℕ → Bool) (n : ℕ) → marks p n ≡ 0 → (s : ℕ) → s < n → p s ≡ true → ⊥
marks_zero p n e s l t = let f = marks_off p n s l t in omega arith
