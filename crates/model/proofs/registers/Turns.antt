-- Loops over coupons and over registers, for every kind. The invariants say what is left to do, so that a turn takes one off the front.
-- Assumes nothing.
use mathlib.Core.Path.{◌≡◌, sym, ap, ◌∙◌}
use mathlib.Core.List.{List, [], ◌∷◌, ◌++◌}
use Prim.Native.Nat.{ℕ, suc, max, ◌+◌, ◌%◌, ◌≤◌, ◌<◌}
use native.Mathlib.Nat.{add-suc, suc-add, add-zero}
use native.Mathlib.Numerals.{add-one}
use lib.ListN.{length, get_or, set, drop, drop_of_length-le}
use lib.Seq.{drop-cons}
use Rattle.model.specs.Coupon.{value, slot}
use Rattle.model.specs.Registers.{raise, fed, poured}

-- ---- coupons: S is R after the next one, and F what all of them lead to
pub fed_turn : (k : ℕ) (R S cs F : List ℕ) (i : ℕ) → i < length cs → S ≡ fed k R (get_or cs i 0 ∷ []) → fed k R (drop i cs) ≡ F → fed k S (drop (i + 1) cs) ≡ F
unfolding fed
fed_turn k R S cs F i h e q = rw (e, add-one i) (rw (drop-cons cs i 0 h) at q)

pub fed_end : (k : ℕ) (R cs F : List ℕ) (i : ℕ) → length cs ≤ i → fed k R (drop i cs) ≡ F → R ≡ F
unfolding fed
fed_end k R cs F i h q = rw (drop_of_length-le cs h) at q

-- the next one as a word: its slot and its value
pub word_turn : (k : ℕ) (R S cs F : List ℕ) (i s v : ℕ) → length R ≡ k → i < length cs → s ≡ slot (get_or cs i 0) → v ≡ value (get_or cs i 0) → S ≡ raise R (s % length R) v → fed k R (drop i cs) ≡ F → fed k S (drop (i + 1) cs) ≡ F
unfolding fed
word_turn k R S cs F i s v size l at is e q = fed_turn k R S cs F i l (e ∙ rw (size, at, is)) q

-- ---- a source's registers, into k: S is R after the next one, and J what all of them lead to
pub poured_turn : (k : ℕ) (R S vs J : List ℕ) (i : ℕ) → i < length vs → S ≡ raise R (i % k) (get_or vs i 0) → poured k R i (drop i vs) ≡ J → poured k S (i + 1) (drop (i + 1) vs) ≡ J
unfolding poured
poured_turn k R S vs J i h e q = rw (e, add-one i) (rw (drop-cons vs i 0 h) at q)

pub poured_end : (k : ℕ) (R vs J : List ℕ) (i : ℕ) → length vs ≤ i → poured k R i (drop i vs) ≡ J → R ≡ J
unfolding poured
poured_end k R vs J i h q = rw (drop_of_length-le vs h) at q

-- a block of a source's registers vs, from slot `from` on
pub poured_first : (k : ℕ) (R vs : List ℕ) (from : ℕ) → poured k R (from + 0) (drop 0 vs) ≡ poured k R from vs
poured_first k R vs from = ap (λ (n : ℕ). poured k R n vs) (add-zero from)

pub poured_next : (k : ℕ) (R S vs J : List ℕ) (from i : ℕ) → i < length vs → S ≡ raise R ((from + i) % k) (get_or vs i 0) → poured k R (from + i) (drop i vs) ≡ J → poured k S (from + (i + 1)) (drop (i + 1) vs) ≡ J
unfolding poured
poured_next k R S vs J from i h e q = rw (e, add-one i, add-suc from i) (rw (drop-cons vs i 0 h) at q)

pub poured_last : (k : ℕ) (R vs J : List ℕ) (from i : ℕ) → length vs ≤ i → poured k R (from + i) (drop i vs) ≡ J → R ≡ J
unfolding poured
poured_last k R vs J from i h q = rw (drop_of_length-le vs h) at q

-- one block and then the others
pub poured_append : (k : ℕ) (R : List ℕ) (i : ℕ) (xs ys : List ℕ) → poured k R i (xs ++ ys) ≡ poured k (poured k R i xs) (i + length xs) ys
unfolding poured
poured_append k R i [] ys = ap (λ (n : ℕ). poured k R n ys) (sym (add-zero i))
poured_append k R i (x ∷ xs) ys = poured_append k (raise R (i % k) x) (suc i) xs ys ∙ ap (λ (n : ℕ). poured k (poured k (raise R (i % k) x) (suc i) xs) n ys) (suc-add i (length xs) ∙ sym (add-suc i (length xs)))

-- a store of the larger one
pub larger_raises : (R : List ℕ) (s d v x : ℕ) → s ≡ d → x ≡ max (get_or R s 0) v → set R s x ≡ raise R d v
unfolding raise
larger_raises R s d v x e q = ap (set R s) q ∙ ap (λ (n : ℕ). set R n (max (get_or R n 0) v)) e
