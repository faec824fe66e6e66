-- The least register, and how many registers stand at a value. Assumes nothing.
use mathlib.Core.Path.{◌≡◌, refl, ap}
use mathlib.Core.Bool.{Bool, true, false}
use mathlib.Core.List.{List, [], ◌∷◌, ◌++◌}
use Prim.Native.Nat.{ℕ, zero, suc, ◌+◌, ◌≤◌, ◌<◌, zero-le, suc-le-suc}
use native.Mathlib.Nat.{le_of_suc-le-suc, not-suc-le-zero}
use native.Mathlib.Numerals.{add-one}
use native.Mathlib.Omega.{arith}
use native.Mathlib.Decide.{ℕ_discrete, dec_lt}
use lib.Dec.{eqb}
use lib.ListN.{length, get_or, set, drop}
use lib.Seq.{drop-cons}
use borrow.Author.Tests.{eq-eqb, ne_eqb}
use Rattle.model.specs.Pick.{pick}
use Rattle.model.specs.Registers.{least, count_of}
use Rattle.model.proofs.registers.Raising.{Small}

pub least_le : (R : List ℕ) (i : ℕ) → i < length R → least R ≤ get_or R i 0
unfolding least
least_le [] i h = absurd (not-suc-le-zero h)
least_le (v ∷ vs) zero h = omega arith
least_le (v ∷ vs) (suc i) h = omega (arith, least_le vs i (le_of_suc-le-suc h))

-- what no register is below, the least is not below
pub least_ge : (R : List ℕ) (n : ℕ) → n ≤ 63 → ((i : ℕ) → i < length R → n ≤ get_or R i 0) → n ≤ least R
unfolding least
least_ge [] n h f = h
least_ge (v ∷ vs) n h f = omega (arith, f 0 (suc-le-suc zero-le), least_ge vs n h (λ i l. f (suc i) (suc-le-suc l)))

pub least_most : (R : List ℕ) → least R ≤ 63
unfolding least
least_most [] = omega arith
least_most (v ∷ vs) = omega (arith, least_most vs)

-- the next one of those from i on
pub count_next : (v : ℕ) (R : List ℕ) (i : ℕ) → i < length R → count_of v (drop i R) ≡ pick (eqb (get_or R i 0) v) 1 0 + count_of v (drop (i + 1) R)
unfolding count_of
count_next v R i h = rw (add-one i, drop-cons R i 0 h) (go (eqb (get_or R i 0) v))
  where
    go : (b : Bool) → pick b (suc (count_of v (drop (suc i) R))) (count_of v (drop (suc i) R)) ≡ pick b 1 0 + count_of v (drop (suc i) R)
    go true = omega arith
    go false = omega arith

pub count_append : (v : ℕ) (xs ys : List ℕ) → count_of v (xs ++ ys) ≡ count_of v xs + count_of v ys
unfolding count_of
count_append v [] ys = omega arith
count_append v (x ∷ xs) ys = go (eqb x v) (count_append v xs ys)
  where
    go : (b : Bool) → count_of v (xs ++ ys) ≡ count_of v xs + count_of v ys → pick b (suc (count_of v (xs ++ ys))) (count_of v (xs ++ ys)) ≡ pick b (suc (count_of v xs)) (count_of v xs) + count_of v ys
    go true e = omega arith
    go false e = e

pub count_none : (n : ℕ) (R : List ℕ) → count_of n R ≡ 0 → (i : ℕ) → i < length R → get_or R i 0 ≡ n → ⊥
unfolding count_of
count_none n [] z i h e = not-suc-le-zero h
count_none n (v ∷ vs) z i h e = go (ℕ_discrete v n) i h e (count_none n vs) z
  where
    go : Dec (v ≡ n) → (i : ℕ) → i < suc (length vs) → get_or (v ∷ vs) i 0 ≡ n → (count_of n vs ≡ 0 → (i : ℕ) → i < length vs → get_or vs i 0 ≡ n → ⊥) → pick (eqb v n) (suc (count_of n vs)) (count_of n vs) ≡ 0 → ⊥
    go (yes q) i h e ih z = let y : suc (count_of n vs) ≡ 0 = rw (eq-eqb v n q) at z in omega arith
    go (no q) zero h e ih z = q e
    go (no q) (suc i) h e ih z = ih (rw (ne_eqb v n q) at z) i (le_of_suc-le-suc h) e

pub count_some : (n : ℕ) (R : List ℕ) → 0 < count_of n R → (i : ℕ) × (i < length R) × (get_or R i 0 ≡ n)
unfolding count_of
count_some n [] h = absurd (not-suc-le-zero h)
count_some n (v ∷ vs) h = go (ℕ_discrete v n) (count_some n vs) h
  where
    go : Dec (v ≡ n) → (0 < count_of n vs → (i : ℕ) × (i < length vs) × (get_or vs i 0 ≡ n)) → 0 < pick (eqb v n) (suc (count_of n vs)) (count_of n vs) → (i : ℕ) × (i < suc (length vs)) × (get_or (v ∷ vs) i 0 ≡ n)
    go (yes q) ih h = (zero, suc-le-suc zero-le, q)
    go (no q) ih h = let (i, l, e) = ih (rw (ne_eqb v n q) at h) in (suc i, suc-le-suc l, e)

pub count_le : (n : ℕ) (R : List ℕ) → count_of n R ≤ length R
unfolding count_of
count_le n [] = zero-le
count_le n (v ∷ vs) = go (eqb v n) (count_le n vs)
  where
    go : (b : Bool) {m : ℕ} → m ≤ length vs → pick b (suc m) m ≤ suc (length vs)
    go true h = suc-le-suc h
    go false h = omega arith

-- a register that leaves n, and one that was not there, for a value that is not n
pub count_left : (n : ℕ) (R : List ℕ) (s v : ℕ) → s < length R → get_or R s 0 ≡ n → (v ≡ n → ⊥) → suc (count_of n (set R s v)) ≡ count_of n R
unfolding count_of
count_left n [] s v h e ne = absurd (not-suc-le-zero h)
count_left n (x ∷ xs) zero v h e ne = rw (eq-eqb x n e, ne_eqb v n ne)
count_left n (x ∷ xs) (suc s) v h e ne = go (eqb x n) (count_left n xs s v (le_of_suc-le-suc h) e ne)
  where
    go : (b : Bool) {m p : ℕ} → suc m ≡ p → suc (pick b (suc m) m) ≡ pick b (suc p) p
    go true q = ap suc q
    go false q = q

pub count_same : (n : ℕ) (R : List ℕ) (s v : ℕ) → (get_or R s 0 ≡ n → ⊥) → (v ≡ n → ⊥) → count_of n (set R s v) ≡ count_of n R
unfolding count_of
count_same n [] s v e ne = refl
count_same n (x ∷ xs) zero v e ne = rw (ne_eqb x n e, ne_eqb v n ne)
count_same n (x ∷ xs) (suc s) v e ne = simp (count_same n xs s v e ne)

-- low is the least register, or below it, by the count at low
module _ (R : List ℕ) (low : ℕ) (some : 0 < length R) (high : Small R) (floor : (i : ℕ) → i < length R → low ≤ get_or R i 0) where
  low_most : low ≤ 63
  low_most = omega (arith, high 0 some, floor 0 some)

  low_least : low ≤ least R
  low_least = least_ge R low low_most floor

  pub at_least : 0 < count_of low R → low ≡ least R
  at_least h = let (i, l, e) = count_some low R h in omega (arith, low_least, least_le R i l)

  floor_up : count_of low R ≡ 0 → (i : ℕ) → i < length R → suc low ≤ get_or R i 0
  floor_up z i l = let n : get_or R i 0 ≡ low → ⊥ = count_none low R z i l in go (dec_lt low (get_or R i 0)) n (floor i l)
    where
      go : Dec (low < get_or R i 0) → (get_or R i 0 ≡ low → ⊥) → low ≤ get_or R i 0 → suc low ≤ get_or R i 0
      go (yes h) n f = h
      go (no h) n f = absurd (n (omega arith))

  pub below_least : count_of low R ≡ 0 → low < least R
  below_least z = least_ge R (suc low) (omega (arith, high 0 some, floor_up z 0 some)) (floor_up z)

-- the least register is one of them
pub least_at : (R : List ℕ) → 0 < length R → Small R → 0 < count_of (least R) R
least_at R some high = go (count_of (least R) R) refl
  where
    go : (n : ℕ) → count_of (least R) R ≡ n → 0 < count_of (least R) R
    go zero e = absurd (let h = below_least R (least R) some high (least_le R) e in omega arith)
    go (suc n) e = omega arith
