-- Good order of a table: what `replace` keeps of it, and what a table in good order yields for a slot. Assumes nothing.
use mathlib.Core.Path.{◌≡◌, refl, sym, ◌∙◌, ap, subst, fun_ext}
use mathlib.Core.Bool.{Bool, true, false}
use mathlib.Core.Logic.{◌⊎◌, inl, inr, ◌≢◌}
use mathlib.Core.List.{List}
use Prim.Native.Nat.{ℕ, ◌%◌, ◌<◌}
use native.Mathlib.Decide.{ℕ_discrete}
use lib.ListN.{length, get_or, set, length-set}
use lib.Seq.{get_or-set_same, get_or-set_other}
use lib.Dec.{eqb}
use borrow.Author.Tests.{ne_eqb}
use Rattle.model.specs.Pick.{first, pick}
use Rattle.model.specs.Table.{Room, Reached, walk, stops, stride, steps_from, place_from, place, word_at, replace, Member}
use Rattle.model.specs.Coupon.{slot}
use Rattle.model.proofs.table.FirstLaws.{first_is, first_before, true_not_false}
use Rattle.model.proofs.table.Search.{ends, stride_odd, place_lt, place_stops, stops_empty, stops_slot, stops_cases}

-- the test of a slot's search after n steps, and its place, over the size
abbrev test : ℕ → List ℕ → ℕ → ℕ → Bool
test size t sl n = stops sl (get_or t (walk size (stride size sl) (sl % size) n) 0)

abbrev place_in : ℕ → List ℕ → ℕ → ℕ
place_in size t sl = walk size (stride size sl) (sl % size) (first (test size t sl) size)

place_in_lem : (t : List ℕ) (sl size : ℕ) → length t ≡ size → place t sl ≡ place_in size t sl
unfolding place place_from steps_from
place_in_lem t sl size e = ap (λ (n : ℕ). place_in n t sl) e

-- a store at an empty place moves no search that still stops where it stopped
module _ (t : List ℕ) (q w : ℕ) (room : Room t) (hollow : get_or t q 0 ≡ 0) where
  pub keeps_place : (sl : ℕ) → stops sl (get_or (set t q w) (place t sl) 0) ≡ true → place (set t q w) sl ≡ place t sl
  unfolding place place_from steps_from
  keeps_place sl h = place_in_lem (set t q w) sl (length t) (length-set t q w) ∙ ap (walk (length t) (stride (length t) sl) (sl % length t)) same
    where
      steps : ℕ
      steps = first (test (length t) t sl) (length t)

      in_time : first (test (length t) t sl) (length t) < length t
      in_time = ends t sl _ room (stride_odd (length t) sl) _

      before : (m : ℕ) → m < first (test (length t) t sl) (length t) → test (length t) (set t q w) sl m ≡ false
      before m l =
          let no : test (length t) t sl m ≡ false = first_before (test (length t) t sl) (length t) m l in
          let off : walk (length t) (stride (length t) sl) (sl % length t) m ≢ q = λ e. true_not_false (stops_empty sl _ (ap (λ (p : ℕ). get_or t p 0) e ∙ hollow)) no in
          ap (stops sl) (get_or-set_other t q _ w 0 off) ∙ no

      same : first (test (length t) (set t q w) sl) (length t) ≡ first (test (length t) t sl) (length t)
      same = first_is (test (length t) (set t q w) sl) (length t) _ in_time h before

-- two tables of one size at each of whose places the search stops alike
pub same_place : (t u : List ℕ) (sl : ℕ) → length u ≡ length t → ((p : ℕ) → stops sl (get_or u p 0) ≡ stops sl (get_or t p 0)) → place u sl ≡ place t sl
same_place t u sl e h =
    place_in_lem u sl (length t) e
    ∙ ap (λ (f : ℕ → Bool). walk (length t) (stride (length t) sl) (sl % length t) (first f (length t))) (fun_ext (λ n. h _))
    ∙ sym (place_in_lem t sl (length t) refl)

pub length_replace : (t : List ℕ) (w : ℕ) → length (replace t w) ≡ length t
unfolding replace
length_replace t w = length-set t (place t (slot w)) w

-- ---- a word for a slot that the table has not
module _ (t : List ℕ) (w : ℕ) (room : Room t) (some : w ≡ 0 → ⊥) (absent : word_at t (slot w) ≡ 0) where
  at_place : get_or (replace t w) (place t (slot w)) 0 ≡ w
  unfolding replace
  at_place = get_or-set_same t (place t (slot w)) w 0 (place_lt t (slot w) room)

  off_place : (p : ℕ) → p ≢ place t (slot w) → get_or (replace t w) p 0 ≡ get_or t p 0
  unfolding replace
  off_place p h = get_or-set_other t (place t (slot w)) p w 0 h

  pub fresh_place : (sl : ℕ) → stops sl (get_or (replace t w) (place t sl) 0) ≡ true → place (replace t w) sl ≡ place t sl
  unfolding replace word_at
  fresh_place sl h = keeps_place t (place t (slot w)) w room absent sl h

  pub fresh_good : Reached t → Reached (replace t w)
  unfolding Reached
  fresh_good good p l h = go (ℕ_discrete p (place t (slot w)))
    where
      inside : p < length t
      inside = subst (λ (n : ℕ). p < n) (length_replace t w) l

      go : Dec (p ≡ place t (slot w)) → place (replace t w) (slot (get_or (replace t w) p 0)) ≡ p
      go (yes e) =
          let is : get_or (replace t w) p 0 ≡ w = ap (λ (k : ℕ). get_or (replace t w) k 0) e ∙ at_place in
          ap (λ (x : ℕ). place (replace t w) (slot x)) is ∙ fresh_place (slot w) (stops_slot (slot w) _ (ap slot at_place)) ∙ sym e
      go (no e) =
          let is : get_or (replace t w) p 0 ≡ get_or t p 0 = off_place p e in
          let own : place t (slot (get_or t p 0)) ≡ p = good p inside (λ z. h (is ∙ z)) in
          ap (λ (x : ℕ). place (replace t w) (slot x)) is
          ∙ fresh_place (slot (get_or t p 0)) (stops_slot _ _ (ap (λ (k : ℕ). slot (get_or (replace t w) k 0)) own ∙ ap slot is))
          ∙ own

  -- its words: the new one and those that it had
  pub fresh_new : Member (replace t w) w
  fresh_new = (place t (slot w), subst (λ (n : ℕ). place t (slot w) < n) (sym (length_replace t w)) (place_lt t (slot w) room), at_place)

  pub fresh_old : (x : ℕ) → (x ≡ 0 → ⊥) → Member t x → Member (replace t w) x
  unfolding word_at
  fresh_old x h m =
      let (p, l, e) = m in
      (p, subst (λ (n : ℕ). p < n) (sym (length_replace t w)) l, off_place p (λ q. h (sym e ∙ ap (λ (k : ℕ). get_or t k 0) q ∙ absent)) ∙ e)

  pub fresh_inv : (x : ℕ) → Member (replace t w) x → (x ≡ w) ⊎ Member t x
  fresh_inv x m = go (ℕ_discrete m.0 (place t (slot w)))
    where
      go : Dec (m.0 ≡ place t (slot w)) → (x ≡ w) ⊎ Member t x
      go (yes e) = inl (sym m.2 ∙ ap (λ (k : ℕ). get_or (replace t w) k 0) e ∙ at_place)
      go (no e) = inr (m.0, subst (λ (n : ℕ). m.0 < n) (length_replace t w) m.1, sym (off_place m.0 e) ∙ m.2)

-- ---- another word for a slot that the table has
module _ (t : List ℕ) (w : ℕ) (room : Room t) (some : w ≡ 0 → ⊥) (present : word_at t (slot w) ≡ 0 → ⊥) where
  -- the word that was there is of the same slot
  old_slot : slot (get_or t (place t (slot w)) 0) ≡ slot w
  unfolding word_at
  old_slot = stops_cases (slot w) _ (place_stops t (slot w) room) present

  pub replace_place : (sl : ℕ) → place (replace t w) sl ≡ place t sl
  unfolding replace word_at
  replace_place sl = same_place t (replace t w) sl (length_replace t w) (λ p. go p (ℕ_discrete p (place t (slot w))))
    where
      go : (p : ℕ) → Dec (p ≡ place t (slot w)) → stops sl (get_or (replace t w) p 0) ≡ stops sl (get_or t p 0)
      go p (no e) = ap (stops sl) (get_or-set_other t (place t (slot w)) p w 0 e)
      go p (yes e) =
          ap (λ (k : ℕ). stops sl (get_or (replace t w) k 0)) e
          ∙ ap (stops sl) (get_or-set_same t (place t (slot w)) w 0 (place_lt t (slot w) room))
          ∙ ap (λ (b : Bool). pick b true (eqb (slot w) sl)) (ne_eqb w 0 some ∙ sym (ne_eqb (get_or t (place t (slot w)) 0) 0 present))
          ∙ ap (λ (x : ℕ). pick (eqb (get_or t (place t (slot w)) 0) 0) true (eqb x sl)) (sym old_slot)
          ∙ ap (λ (k : ℕ). stops sl (get_or t k 0)) (sym e)

  pub replace_good : Reached t → Reached (replace t w)
  unfolding Reached replace word_at
  replace_good good p l h = go (ℕ_discrete p (place t (slot w)))
    where
      go : Dec (p ≡ place t (slot w)) → place (replace t w) (slot (get_or (replace t w) p 0)) ≡ p
      go (yes e) =
          ap (λ (k : ℕ). place (replace t w) (slot (get_or (replace t w) k 0))) e
          ∙ ap (λ (x : ℕ). place (replace t w) (slot x)) (get_or-set_same t (place t (slot w)) w 0 (place_lt t (slot w) room))
          ∙ replace_place (slot w)
          ∙ sym e
      go (no e) =
          let is : get_or (replace t w) p 0 ≡ get_or t p 0 = get_or-set_other t (place t (slot w)) p w 0 e in
          replace_place _ ∙ ap (λ (x : ℕ). place t (slot x)) is ∙ good p (subst (λ (n : ℕ). p < n) (length_replace t w) l) (λ z. h (is ∙ z))

-- ---- what a table in good order yields: the word of the slot that stands in it, wherever, and 0 where there is none
pub reads : (t : List ℕ) (x : ℕ) → Reached t → (x ≡ 0 → ⊥) → Member t x → word_at t (slot x) ≡ x
unfolding Reached word_at
reads t x good h m =
    let (p, l, e) = m in
    ap (λ (y : ℕ). get_or t (place t (slot y)) 0) (sym e) ∙ ap (λ (k : ℕ). get_or t k 0) (good p l (λ z. h (sym e ∙ z))) ∙ e

module _ (t : List ℕ) (sl : ℕ) (room : Room t) where
  pub word_slot : (word_at t sl ≡ 0 → ⊥) → slot (word_at t sl) ≡ sl
  unfolding word_at
  word_slot h = stops_cases sl _ (place_stops t sl room) h

  pub word_member : Member t (word_at t sl)
  unfolding word_at
  word_member = (place t sl, place_lt t sl room, refl)

  pub reads_none : ((x : ℕ) → (x ≡ 0 → ⊥) → slot x ≡ sl → Member t x → ⊥) → word_at t sl ≡ 0
  reads_none bar = go (ℕ_discrete (word_at t sl) 0)
    where
      go : Dec (word_at t sl ≡ 0) → word_at t sl ≡ 0
      go (yes e) = e
      go (no h) = absurd (bar (word_at t sl) h (word_slot h) word_member)

-- two tables in good order with the same words yield the same
pub same_words : (t u : List ℕ) → Room t → Room u → Reached t → Reached u
    → ((x : ℕ) → (x ≡ 0 → ⊥) → Member t x → Member u x) → ((x : ℕ) → (x ≡ 0 → ⊥) → Member u x → Member t x)
    → (sl : ℕ) → word_at u sl ≡ word_at t sl
same_words t u rt ru gt gu to from sl = go (ℕ_discrete (word_at t sl) 0)
  where
    go : Dec (word_at t sl ≡ 0) → word_at u sl ≡ word_at t sl
    go (no h) = ap (word_at u) (sym (word_slot t sl rt h)) ∙ reads u (word_at t sl) gu h (to (word_at t sl) h (word_member t sl rt))
    go (yes e) = reads_none u sl ru (λ x h q m. h (sym (reads t x gt h (from x h m)) ∙ ap (word_at t) q ∙ e)) ∙ sym e

-- no slot stands twice
pub no_slot_twice : (t : List ℕ) → Reached t → (p q : ℕ) → p < length t → q < length t → (get_or t p 0 ≡ 0 → ⊥) → (get_or t q 0 ≡ 0 → ⊥)
    → slot (get_or t p 0) ≡ slot (get_or t q 0) → p ≡ q
unfolding Reached
no_slot_twice t good p q lp lq hp hq e = sym (good p lp hp) ∙ ap (place t) e ∙ good q lq hq

-- ---- the table as a map from slots to words: u has w and the words of t
module _ (t u : List ℕ) (w : ℕ) (room : Room t) (room' : Room u) (good : Reached t) (good' : Reached u) (some : w ≡ 0 → ⊥)
    (to : (x : ℕ) → (x ≡ 0 → ⊥) → (x ≡ w) ⊎ Member t x → Member u x) (from : (x : ℕ) → (x ≡ 0 → ⊥) → Member u x → (x ≡ w) ⊎ Member t x) where
  pub more_same : word_at u (slot w) ≡ w
  more_same = reads u w good' some (to w some (inl refl))

  pub more_other : (sl : ℕ) → (sl ≡ slot w → ⊥) → word_at u sl ≡ word_at t sl
  more_other sl off = go (ℕ_discrete (word_at t sl) 0)
    where
      none : word_at t sl ≡ 0 → (x : ℕ) → (x ≡ 0 → ⊥) → slot x ≡ sl → (x ≡ w) ⊎ Member t x → ⊥
      none e x h q (inl i) = off (sym q ∙ ap slot i)
      none e x h q (inr m) = h (sym (reads t x good h m) ∙ ap (word_at t) q ∙ e)

      go : Dec (word_at t sl ≡ 0) → word_at u sl ≡ word_at t sl
      go (no h) = ap (word_at u) (sym (word_slot t sl room h)) ∙ reads u (word_at t sl) good' h (to (word_at t sl) h (inr (word_member t sl room)))
      go (yes e) = reads_none u sl room' (λ x h q m. none e x h q (from x h m)) ∙ sym e
