-- The laws of `first`, the least number at which a test passes. Assumes nothing.
use mathlib.Core.Path.{◌≡◌, refl, sym, ◌∙◌, subst}
use mathlib.Core.Bool.{Bool, true, false}
use Prim.Native.Nat.{ℕ, zero, suc, ◌≤◌, ◌<◌, zero-le, suc-le-suc}
use native.Mathlib.Nat.{le_of_suc-le-suc, not-suc-le-zero, le_refl, lt_of_lt_of_le, le_of_lt}
use native.Mathlib.Decide.{dec_lt}
use native.Mathlib.Omega.{arith}
use Rattle.model.specs.Pick.{first, pick}

IsTrue : Bool → Type 0
IsTrue true = Unit {0}
IsTrue false = ⊥

pub true_not_false : {b : Bool} → b ≡ true → b ≡ false → ⊥
unfolding IsTrue
true_not_false {b} t f = subst IsTrue (sym t ∙ f) tt

pub first_le : (p : ℕ → Bool) (f : ℕ) → first p f ≤ f
unfolding first
first_le p zero = le_refl zero
first_le p (suc f) = go (p zero) (first_le (λ n. p (suc n)) f)
  where
    go : (b : Bool) {r : ℕ} → r ≤ f → pick b zero (suc r) ≤ suc f
    go true h = zero-le
    go false h = suc-le-suc h

pub first_holds : (p : ℕ → Bool) (f : ℕ) → first p f < f → p (first p f) ≡ true
unfolding first
first_holds p zero h = absurd (not-suc-le-zero h)
first_holds p (suc f) h = go (p zero) refl (first (λ n. p (suc n)) f) (first_holds (λ n. p (suc n)) f) h
  where
    go : (b : Bool) → p zero ≡ b → (r : ℕ) → (r < f → p (suc r) ≡ true) → pick b zero (suc r) < suc f → p (pick b zero (suc r)) ≡ true
    go true e r ih l = e
    go false e r ih l = ih (le_of_suc-le-suc l)

pub first_before : (p : ℕ → Bool) (f m : ℕ) → m < first p f → p m ≡ false
unfolding first
first_before p zero m h = absurd (not-suc-le-zero h)
first_before p (suc f) m h = go (p zero) refl (first (λ n. p (suc n)) f) (first_before (λ n. p (suc n)) f) m h
  where
    go : (b : Bool) → p zero ≡ b → (r : ℕ) → ((k : ℕ) → k < r → p (suc k) ≡ false) → (k : ℕ) → k < pick b zero (suc r) → p k ≡ false
    go true e r ih k l = absurd (not-suc-le-zero l)
    go false e r ih zero l = e
    go false e r ih (suc k) l = ih k (le_of_suc-le-suc l)

-- a number at which the test passes is not below the first
pub first_upto : (p : ℕ → Bool) (f n : ℕ) → p n ≡ true → first p f ≤ n
first_upto p f n t = go (dec_lt n (first p f))
  where
    go : Dec (n < first p f) → first p f ≤ n
    go (yes l) = absurd (true_not_false t (first_before p f n l))
    go (no l) = omega arith

-- where the test passes at n and at none before it, n is the first
pub first_is : (p : ℕ → Bool) (f n : ℕ) → n < f → p n ≡ true → ((m : ℕ) → m < n → p m ≡ false) → first p f ≡ n
first_is p f n l t b = go (dec_lt (first p f) n)
  where
    up : first p f ≤ n
    up = first_upto p f n t

    go : Dec (first p f < n) → first p f ≡ n
    go (yes k) = absurd (true_not_false (first_holds p f (lt_of_lt_of_le k (le_of_lt l))) (b (first p f) k))
    go (no k) = omega (arith, up)

-- and where it passes at none, there is no first
pub first_last : (p : ℕ → Bool) (f : ℕ) → ((m : ℕ) → m < f → p m ≡ false) → first p f ≡ f
first_last p f h = go (dec_lt (first p f) f)
  where
    go : Dec (first p f < f) → first p f ≡ f
    go (yes l) = absurd (true_not_false (first_holds p f l) (h (first p f) l))
    go (no l) = omega (arith, first_le p f)

-- it fails below n and passes at n, unless that is the end
pub first_by : (p : ℕ → Bool) (f n : ℕ) → n ≤ f → (n < f → p n ≡ true) → ((m : ℕ) → m < n → p m ≡ false) → first p f ≡ n
first_by p f n l t b = go (dec_lt n f)
  where
    go : Dec (n < f) → first p f ≡ n
    go (yes k) = first_is p f n k (t k) b
    go (no k) = first_last p f (λ m d. b m (omega arith)) ∙ omega arith
