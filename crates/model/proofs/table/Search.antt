-- The laws of a search in a table with room: it ends, at a word that is empty or the slot's; a step of it, and its end.
-- Assumes nothing.
use mathlib.Core.Path.{◌≡◌, refl, sym, ◌∙◌, ap, subst}
use mathlib.Core.Bool.{Bool, true, false}
use mathlib.Core.List.{List}
use Prim.Native.Nat.{ℕ, zero, suc, ◌+◌, ◌*◌, ◌%◌, ◌≤◌, ◌<◌}
use native.Mathlib.Nat.{mod-add-mod, mod-lt, mod-eq_of_lt, suc-mul, zero-mul, lt_of_le_of_lt}
use native.Mathlib.Omega.{arith}
use lib.ListN.{length, get_or, set}
use lib.Pow.{pow_pos}
use lib.Dec.{eqb}
use borrow.Author.Tests.{eq-eqb, ne_eqb, eqb-true}
use Rattle.model.specs.Pick.{pick}
use Rattle.model.specs.Table.{Room, walk, stops, stride, steps_from, place_from, place, replace}
use Rattle.model.specs.Coupon.{slot, value, word}
use Rattle.model.proofs.table.FirstLaws.{first_upto, first_is, first_holds, first_before, true_not_false}
use Rattle.model.proofs.table.Odd.{covers}

pub walk_next : (size s a n : ℕ) → walk size s ((a + s) % size) n ≡ walk size s a (suc n)
unfolding walk
walk_next size s a n = mod-add-mod (a + s) size (n * s) ∙ ap (λ (x : ℕ). x % size) (omega (arith, suc-mul n s))

pub walk_zero : (size s a : ℕ) → a < size → walk size s a 0 ≡ a
unfolding walk
walk_zero size s a h = ap (λ (x : ℕ). x % size) (omega (arith, zero-mul s)) ∙ mod-eq_of_lt h

pub walk_lt : (size s a n : ℕ) → 0 < size → walk size s a n < size
unfolding walk
walk_lt size s a n h = mod-lt (a + n * s) h

pub stride_odd : (size sl : ℕ) → stride size sl % 2 ≡ 1
stride_odd size sl = omega arith

pub size_pos : {t : List ℕ} → Room t → 0 < length t
size_pos r = subst (λ (n : ℕ). 0 < n) (sym r.size) (pow_pos r.lg)

-- the test that `steps_from` looks for
abbrev pub at : List ℕ → ℕ → ℕ → ℕ → ℕ → Bool
at t sl s a n = stops sl (get_or t (walk (length t) s a n) 0)

module _ (t : List ℕ) (sl s : ℕ) (room : Room t) (odd : s % 2 ≡ 1) where
  pub ends : (a : ℕ) → steps_from t sl s a < length t
  unfolding steps_from walk
  ends a =
      let (n, l, e) = covers room.lg a s room.hole odd (subst (λ (N : ℕ). room.hole < N) room.size room.inside) in
      let there : walk (length t) s a n ≡ room.hole = ap (λ (N : ℕ). (a + n * s) % N) room.size ∙ e in
      lt_of_le_of_lt
      (first_upto (at t sl s a) (length t) n (ap (λ (p : ℕ). stops sl (get_or t p 0)) there ∙ ap (stops sl) room.hollow))
      (subst (λ (N : ℕ). n < N) (sym room.size) l)

  pub ends_stop : (a : ℕ) → stops sl (get_or t (place_from t sl s a) 0) ≡ true
  unfolding steps_from place_from
  ends_stop a = first_holds (at t sl s a) (length t) (ends a)

  pub stopped : (a : ℕ) → a < length t → stops sl (get_or t a 0) ≡ true → place_from t sl s a ≡ a
  unfolding steps_from place_from
  stopped a h e =
      let zero-steps : steps_from t sl s a ≤ 0 = first_upto (at t sl s a) (length t) 0 (ap (λ (p : ℕ). stops sl (get_or t p 0)) (walk_zero (length t) s a h) ∙ e) in
      ap (walk (length t) s a) (omega (arith, zero-steps)) ∙ walk_zero (length t) s a h

  -- one step on: one step fewer to go
  pub onward : (a : ℕ) → a < length t → stops sl (get_or t a 0) ≡ false → steps_from t sl s a ≡ suc (steps_from t sl s ((a + s) % length t))
  unfolding steps_from
  onward a h e = go (steps_from t sl s a) refl
    where
      next : (n : ℕ) → at t sl s ((a + s) % length t) n ≡ at t sl s a (suc n)
      next n = ap (λ (p : ℕ). stops sl (get_or t p 0)) (walk_next (length t) s a n)

      go : (k : ℕ) → steps_from t sl s a ≡ k → steps_from t sl s a ≡ suc (steps_from t sl s ((a + s) % length t))
      go zero q =
          absurd (true_not_false
          (ap (λ (n : ℕ). at t sl s a n) (sym q) ∙ first_holds (at t sl s a) (length t) (ends a))
          (ap (λ (p : ℕ). stops sl (get_or t p 0)) (walk_zero (length t) s a h) ∙ e))
      go (suc j) q =
          q ∙ ap suc (sym (first_is (at t sl s ((a + s) % length t)) (length t) j (omega (arith, ends a))
          (next j ∙ ap (λ (n : ℕ). at t sl s a n) (sym q) ∙ first_holds (at t sl s a) (length t) (ends a))
          (λ m l. next m ∙ first_before (at t sl s a) (length t) (suc m) (subst (λ (k : ℕ). suc m < k) (sym q) (omega arith)))))

  pub onward_place : (a : ℕ) → a < length t → stops sl (get_or t a 0) ≡ false → place_from t sl s ((a + s) % length t) ≡ place_from t sl s a
  unfolding place_from
  onward_place a h e = walk_next (length t) s a _ ∙ ap (walk (length t) s a) (sym (onward a h e))

-- ---- the test `stops` by its two reasons
pub stops_empty : (sl w : ℕ) → w ≡ 0 → stops sl w ≡ true
stops_empty sl w e = ap (stops sl) e

pub stops_slot : (sl w : ℕ) → slot w ≡ sl → stops sl w ≡ true
stops_slot sl w e = rw (eq-eqb (slot w) sl e) (both (eqb w 0))
  where
    both : (b : Bool) → pick b true true ≡ true
    both true = refl
    both false = refl

pub stops_not : (sl w : ℕ) → (w ≡ 0 → ⊥) → (slot w ≡ sl → ⊥) → stops sl w ≡ false
stops_not sl w h k = rw (ne_eqb w 0 h, ne_eqb (slot w) sl k)

pub stops_cases : (sl w : ℕ) → stops sl w ≡ true → (w ≡ 0 → ⊥) → slot w ≡ sl
stops_cases sl w e h = eqb-true (slot w) sl (rw (ne_eqb w 0 h) at e)

-- ---- the search from its start
module _ (t : List ℕ) (sl : ℕ) (room : Room t) where
  pub place_lt : place t sl < length t
  unfolding place place_from
  place_lt = walk_lt (length t) _ _ _ (size_pos room)

  pub place_stops : stops sl (get_or t (place t sl) 0) ≡ true
  unfolding place
  place_stops = ends_stop t sl _ room (stride_odd (length t) sl) _

-- the slot and the value of a word
pub slot_of_word : (sl val : ℕ) → sl < 67108864 → slot (word sl val) ≡ sl
slot_of_word sl val h = omega arith

pub value_of_word : (sl val : ℕ) → sl < 67108864 → val < 64 → value (word sl val) ≡ val
value_of_word sl val h k = omega arith

-- a store at the place of an answer is what `replace` does
pub set_is_replace : (t : List ℕ) (sl val i : ℕ) → sl < 67108864 → i ≡ place t sl → set t i (word sl val) ≡ replace t (word sl val)
unfolding replace
set_is_replace t sl val i h e = rw (slot_of_word sl val h, ← e)
