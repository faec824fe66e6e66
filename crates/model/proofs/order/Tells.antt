-- Tests that answer questions, both ways, and how they are put together: the one bridge between a test of specs/ and what it asks.
-- Assumes nothing.
use mathlib.Core.Path.{◌≡◌, refl, sym, subst}
use mathlib.Core.Bool.{Bool, true, false}
use mathlib.Core.Logic.{◌⊎◌, inl, inr, ⊎_elim}
use Prim.Native.Nat.{ℕ, zero, suc, ◌≤◌, ◌<◌}
use native.Mathlib.Nat.{not-suc-le-zero, le_refl}
use native.Mathlib.Omega.{arith}
use native.Mathlib.Decide.{ℕ_discrete}
use lib.Dec.{eqb, leb, ltb}
use borrow.Author.Tests.{eqb-true, eqb-false, leb-true, leb-false, ltb-true, ltb-false}
use Rattle.model.specs.Pick.{pick, both, all, Tells}
use Rattle.model.proofs.table.FirstLaws.{true_not_false}

-- two tests that answer one question are one
pub tells_one : {P : Type 0} (a b : Bool) → Tells a P → Tells b P → a ≡ b
tells_one true true x y = refl
tells_one true false x y = absurd (y.1 refl (x.0 refl))
tells_one false true x y = absurd (x.1 refl (y.0 refl))
tells_one false false x y = refl

-- what holds passes
pub tells_true : {P : Type 0} (a : Bool) → Tells a P → P → a ≡ true
tells_true true x p = refl
tells_true false x p = absurd (x.1 refl p)

-- a test tells that it passes
pub tells_pass : (b : Bool) → Tells b (b ≡ true)
tells_pass b = ((λ e. e), λ e p. true_not_false p e)

-- what does not hold fails
pub tells_no : {P : Type 0} → (P → ⊥) → Tells false P
tells_no h = ((λ e. absurd (true_not_false e refl)), λ e. h)

pub tells_as : {P Q : Type 0} (a : Bool) → (P → Q) → (Q → P) → Tells a P → Tells a Q
tells_as a f g x = ((λ e. f (x.0 e)), λ e q. x.1 e (g q))

pub tells_both : {P Q : Type 0} (a b : Bool) → Tells a P → Tells b Q → Tells (both a b) (P × Q)
tells_both true b x y = ((λ e. (x.0 refl, y.0 e)), λ e p. y.1 e p.1)
tells_both false b x y = ((λ e. absurd (true_not_false e refl)), λ e p. x.1 refl p.0)

pub tells_le : (m n : ℕ) → Tells (leb m n) (m ≤ n)
tells_le m n = (leb-true m n, λ e h. let k = leb-false m n e in omega arith)

pub tells_lt : (m n : ℕ) → Tells (ltb m n) (m < n)
tells_lt m n = (ltb-true m n, λ e h. let k = ltb-false m n e in omega arith)

pub tells_eq : (m n : ℕ) → Tells (eqb m n) (m ≡ n)
tells_eq m n = (eqb-true m n, eqb-false m n)

pub tells_either : {P Q : Type 0} (a b : Bool) → Tells a P → Tells b Q → Tells (pick a true b) (P ⊎ Q)
tells_either true b x y = ((λ e. inl (x.0 refl)), λ e p. true_not_false refl e)
tells_either false b x y = ((λ e. inr (y.0 e)), λ e p. ⊎_elim (x.1 refl) (y.1 e) p)

-- a test under a condition
pub tells_if : {P Q : Type 0} (a b : Bool) → Tells a P → Tells b Q → Tells (pick a b true) (P → Q)
tells_if true b x y = ((λ e p. y.0 e), λ e f. y.1 e (f (x.0 refl)))
tells_if false b x y = ((λ e p. absurd (x.1 refl p)), λ e f. absurd (true_not_false refl e))

pub tells_unless : {P Q : Type 0} (a b : Bool) → Tells a P → Tells b Q → Tells (pick a true b) ((P → ⊥) → Q)
tells_unless true b x y = ((λ e f. absurd (f (x.0 refl))), λ e f. absurd (true_not_false refl e))
tells_unless false b x y = ((λ e f. y.0 e), λ e f. y.1 e (f (λ p. x.1 refl p)))

pub tells_all : (p : ℕ → Bool) (P : ℕ → Type 0) (n : ℕ) → ((s : ℕ) → Tells (p s) (P s)) → Tells (all p n) ((s : ℕ) → s < n → P s)
unfolding all
tells_all p P zero h = ((λ e s l. absurd (not-suc-le-zero l)), λ e f. absurd (true_not_false refl e))
tells_all p P (suc n) h =
    tells_as (both (p n) (all p n)) (λ (q : P n × ((s : ℕ) → s < n → P s)) s l. join s l q (ℕ_discrete s n)) (λ f. (f n (le_refl (suc n)), λ s l. f s (omega arith)))
    (tells_both (p n) (all p n) (h n) (tells_all p P n h))
  where
    join : (s : ℕ) → s < suc n → P n × ((s : ℕ) → s < n → P s) → Dec (s ≡ n) → P s
    join s l q (yes e) = subst P (sym e) q.0
    join s l q (no e) = q.1 s (omega arith)
