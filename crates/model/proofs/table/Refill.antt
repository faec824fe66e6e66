-- How many words of a table are used, where room is, and the laws of `refill`. Assumes nothing.
use mathlib.Core.Path.{◌≡◌, refl, sym, ◌∙◌, ap}
use mathlib.Core.Bool.{Bool, true, false}
use mathlib.Core.List.{List, [], ◌∷◌, ◌++◌}
use Prim.Native.Nat.{ℕ, zero, suc, ◌+◌, ◌^◌, ◌≤◌, ◌<◌, zero-le, suc-le-suc}
use native.Mathlib.Nat.{le_of_suc-le-suc, not-suc-le-zero, two-pow-succ}
use native.Mathlib.Omega.{arith}
use native.Mathlib.Numerals.{add-one}
use lib.Dec.{eqb}
use lib.ListN.{length, get_or, set, take, replicate, length-set, length-replicate, length-take}
use lib.Seq.{take-suc}
use borrow.Author.Tests.{eq-eqb, ne_eqb, eqb-true}
use Rattle.model.specs.Pick.{pick}
use Rattle.model.specs.Table.{Room, used, replace, refill, place}
use Rattle.model.specs.Coupon.{slot}

pub used_zeros : (n : ℕ) → used (replicate n 0) ≡ 0
unfolding used
used_zeros zero = refl
used_zeros (suc n) = used_zeros n

-- one store uses at most one word more
pub used_set : (l : List ℕ) (i w : ℕ) → used (set l i w) ≤ suc (used l)
unfolding used
used_set [] i w = zero-le
used_set (x ∷ xs) zero w = go (eqb w 0) (eqb x 0)
  where
    go : (b d : Bool) → pick b (used xs) (suc (used xs)) ≤ suc (pick d (used xs) (suc (used xs)))
    go true true = omega arith
    go true false = omega arith
    go false true = omega arith
    go false false = omega arith
used_set (x ∷ xs) (suc i) w = go (eqb x 0) (used_set xs i w)
  where
    go : (b : Bool) {m n : ℕ} → m ≤ suc n → pick b m (suc m) ≤ suc (pick b n (suc n))
    go true h = h
    go false h = suc-le-suc h

-- a table with a word unused has an empty place
pub hole_of : (t : List ℕ) → used t < length t → (p : ℕ) × (p < length t) × (get_or t p 0 ≡ 0)
unfolding used
hole_of [] h = absurd (not-suc-le-zero h)
hole_of (x ∷ xs) h = go (eqb x 0) refl (hole_of xs) h
  where
    go : (b : Bool) → eqb x 0 ≡ b → (used xs < length xs → (p : ℕ) × (p < length xs) × (get_or xs p 0 ≡ 0))
        → pick b (used xs) (suc (used xs)) < suc (length xs) → (p : ℕ) × (p < suc (length xs)) × (get_or (x ∷ xs) p 0 ≡ 0)
    go true e ih l = (zero, suc-le-suc zero-le, eqb-true x 0 e)
    go false e ih l = let (p, q, r) = ih (le_of_suc-le-suc l) in (suc p, suc-le-suc q, r)

pub room_of : (t : List ℕ) (lg : ℕ) → length t ≡ 2 ^ lg → used t < length t → Room t
room_of t lg e h = let (p, q, r) = hole_of t h in record { lg = lg; size = e; hole = p; inside = q; hollow = r }

-- what one word does
abbrev pub put : List ℕ → ℕ → List ℕ
put t w = pick (eqb w 0) t (replace t w)

pub refill_snoc : (into ws : List ℕ) (w : ℕ) → refill into (ws ++ (w ∷ [])) ≡ put (refill into ws) w
unfolding refill
refill_snoc into [] w = refl
refill_snoc into (x ∷ ws) w = refill_snoc (put into x) ws w

pub length_put : (t : List ℕ) (w : ℕ) → length (put t w) ≡ length t
unfolding replace
length_put t w = go (eqb w 0)
  where
    go : (b : Bool) → length (pick b t (replace t w)) ≡ length t
    go true = refl
    go false = length-set t (place t (slot w)) w

pub used_put : (t : List ℕ) (w : ℕ) → used (put t w) ≤ suc (used t)
unfolding replace
used_put t w = go (eqb w 0)
  where
    go : (b : Bool) → used (pick b t (replace t w)) ≤ suc (used t)
    go true = omega arith
    go false = used_set t (place t (slot w)) w

pub length_refill : (into ws : List ℕ) → length (refill into ws) ≡ length into
unfolding refill
length_refill into [] = refl
length_refill into (w ∷ ws) = length_refill (put into w) ws ∙ length_put into w

pub used_refill : (into ws : List ℕ) → used (refill into ws) ≤ used into + length ws
unfolding refill
used_refill into [] = omega arith
used_refill into (w ∷ ws) = omega (arith, used_refill (put into w) ws, used_put into w)

-- one word more of a table that is walked through
pub refill_more : (into t : List ℕ) (i : ℕ) → i < length t → refill into (take (suc i) t) ≡ put (refill into (take i t)) (get_or t i 0)
refill_more into t i h = ap (refill into) (take-suc t i 0 h) ∙ refill_snoc into (take i t) (get_or t i 0)

pub put_empty : (t : List ℕ) (w : ℕ) → w ≡ 0 → t ≡ put t w
put_empty t w e = rw (eq-eqb w 0 e)

pub put_word : (t : List ℕ) (w : ℕ) → (w ≡ 0 → ⊥) → replace t w ≡ put t w
put_word t w h = rw (ne_eqb w 0 h)

-- a table of twice the size, before the last word is re-inserted
pub double_size : (t : List ℕ) (lg : ℕ) → length t ≡ 2 ^ lg → length t + length t ≡ 2 ^ suc lg
double_size t lg e = rw e (sym (two-pow-succ lg))

pub part_length : (t : List ℕ) (i : ℕ) → length (refill (replicate (length t + length t) 0) (take i t)) ≡ length t + length t
part_length t i = length_refill (replicate (length t + length t) 0) (take i t) ∙ length-replicate (length t + length t) 0

pub part_room : (t : List ℕ) (lg i : ℕ) → length t ≡ 2 ^ lg → i < length t → Room (refill (replicate (length t + length t) 0) (take i t))
part_room t lg i e h =
    room_of _ (suc lg) (part_length t i ∙ double_size t lg e)
    (omega (arith, part_length t i, used_refill (replicate (length t + length t) 0) (take i t), used_zeros (length t + length t), length-take i t))

-- one turn of the loop of `grow`, by each way
module _ (t into : List ℕ) (i : ℕ) (h : i < length t) (e : into ≡ refill (replicate (length t + length t) 0) (take i t)) where
  more : put into (get_or t i 0) ≡ refill (replicate (length t + length t) 0) (take (i + 1) t)
  more =
      ap (λ (l : List ℕ). put l (get_or t i 0)) e ∙ sym (refill_more _ t i h) ∙ ap (λ (n : ℕ). refill (replicate (length t + length t) 0) (take n t)) (sym (add-one i))

  pub part_put : (p : ℕ) → (get_or t i 0 ≡ 0 → ⊥) → p ≡ place into (slot (get_or t i 0))
      → set into p (get_or t i 0) ≡ refill (replicate (length t + length t) 0) (take (i + 1) t)
  unfolding replace
  part_put p n q = ap (λ (k : ℕ). set into k (get_or t i 0)) q ∙ put_word into (get_or t i 0) n ∙ more

  pub part_skip : get_or t i 0 ≡ 0 → into ≡ refill (replicate (length t + length t) 0) (take (i + 1) t)
  part_skip q = put_empty into (get_or t i 0) q ∙ more

-- ---- how many words are used, as a list is walked through and after a store
pub used_append : (xs ys : List ℕ) → used (xs ++ ys) ≡ used xs + used ys
unfolding used
used_append [] ys = omega arith
used_append (x ∷ xs) ys = go (eqb x 0) (used (xs ++ ys)) (used xs) (used_append xs ys)
  where
    go : (b : Bool) (m n : ℕ) → m ≡ n + used ys → pick b m (suc m) ≡ pick b n (suc n) + used ys
    go true m n h = h
    go false m n h = omega arith

used_one : (w n : ℕ) → n + used (w ∷ []) ≡ pick (eqb w 0) n (n + 1)
unfolding used
used_one w n = go (eqb w 0)
  where
    go : (b : Bool) → n + pick b 0 (suc 0) ≡ pick b n (n + 1)
    go true = omega arith
    go false = omega arith

pub used_more : (t : List ℕ) (i : ℕ) → i < length t → used (take (i + 1) t) ≡ pick (eqb (get_or t i 0) 0) (used (take i t)) (used (take i t) + 1)
used_more t i h = ap (λ (n : ℕ). used (take n t)) (add-one i) ∙ ap used (take-suc t i 0 h) ∙ used_append (take i t) (get_or t i 0 ∷ []) ∙ used_one (get_or t i 0) (used (take i t))

pub used_skip : (t : List ℕ) (i : ℕ) → i < length t → get_or t i 0 ≡ 0 → used (take (i + 1) t) ≡ used (take i t)
used_skip t i h e = rw (eq-eqb (get_or t i 0) 0 e) at (used_more t i h)

pub used_step : (t : List ℕ) (i : ℕ) → i < length t → (get_or t i 0 ≡ 0 → ⊥) → used (take (i + 1) t) ≡ used (take i t) + 1
used_step t i h e = rw (ne_eqb (get_or t i 0) 0 e) at (used_more t i h)

-- a word in an empty place is one more
pub used_set_empty : (l : List ℕ) (i w : ℕ) → i < length l → get_or l i 0 ≡ 0 → (w ≡ 0 → ⊥) → used (set l i w) ≡ suc (used l)
unfolding used
used_set_empty [] i w l e h = absurd (not-suc-le-zero l)
used_set_empty (x ∷ xs) zero w l e h = rw (ne_eqb w 0 h, eq-eqb x 0 e)
used_set_empty (x ∷ xs) (suc i) w l e h = go (eqb x 0) (used_set_empty xs i w (le_of_suc-le-suc l) e h)
  where
    go : (b : Bool) {m n : ℕ} → m ≡ suc n → pick b m (suc m) ≡ suc (pick b n (suc n))
    go true q = q
    go false q = ap suc q
