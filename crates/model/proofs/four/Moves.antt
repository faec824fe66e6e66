-- What a value for one register does to the table of R's exceptions, at the cur_min that it is judged at: nothing, a replaced word or a new one.
-- Assumes nothing.
use mathlib.Core.Path.{◌≡◌, refl, sym, ◌∙◌, ap, subst}
use mathlib.Core.Logic.{◌⊎◌, inl, inr}
use mathlib.Core.List.{List, [], ◌∷◌}
use Prim.Native.Nat.{ℕ, zero, suc, ◌+◌, ◌^◌, ◌≤◌, ◌<◌}
use native.Mathlib.Omega.{arith}
use native.Mathlib.Decide.{ℕ_discrete}
use lib.ListN.{length, get_or, set, length-set}
use lib.Seq.{get_or-set_same, get_or-set_other}
use borrow.Author.Tests.{ne_eqb}
use Rattle.model.specs.Coupon.{slot, word}
use Rattle.model.specs.Table.{Member, Kept, Reached, Room, word_at, used, replace, insert, size_for, place, opened}
use Rattle.model.specs.Four.{Exception, TableAt, inserted}
use Rattle.model.proofs.table.Members.{member_none}
use Rattle.model.proofs.table.Search.{slot_of_word, place_lt}
use Rattle.model.proofs.table.Refill.{used_zeros}
use Rattle.model.proofs.table.Order.{reads_none, word_slot, length_replace, replace_good}
use Rattle.model.proofs.table.Grown.{zeros_none}
use Rattle.model.proofs.table.Inserted.{kept_room, insert_kept, insert_used, insert_to, insert_from}
use Rattle.model.proofs.table.Sizes.{Sized}
use Rattle.model.proofs.table.Made.{zeros_kept}
use Rattle.model.proofs.four.Tables.{word_some, table_few, table_word, table_kept}

used_set_some : (l : List ℕ) (i w : ℕ) → (get_or l i 0 ≡ 0 → ⊥) → (w ≡ 0 → ⊥) → used (set l i w) ≡ used l
unfolding used
used_set_some [] i w e h = refl
used_set_some (x ∷ xs) zero w e h = rw (ne_eqb w 0 h, ne_eqb x 0 e)
used_set_some (x ∷ xs) (suc i) w e h = simp (used_set_some xs i w e h)

module _ {base low : ℕ} {R t : List ℕ} (s v : ℕ) (ok : Sized base (length R)) (ta : TableAt base low R t) (inside : s < length R) (rises : get_or R s 0 < v) (small : v < 64) where
  -- an exception of another slot stays one
  other : (x : ℕ) → Exception low R x → (slot x ≡ s → ⊥) → Exception low (set R s v) x
  other x e off =
      let same : get_or (set R s v) (slot x) 0 ≡ get_or R (slot x) 0 = get_or-set_other R s (slot x) v 0 off in
      record { inside = rw length-set e.inside; right = rw same e.right; high = rw same e.high }

  -- where the register is none, none of them is of its slot
  off_slot : get_or R s 0 < low + 15 → (x : ℕ) → Exception low R x → slot x ≡ s → ⊥
  off_slot h x e q = let r : get_or R (slot x) 0 ≡ get_or R s 0 = ap (λ (i : ℕ). get_or R i 0) q in omega (arith, e.high)

  at_slot : get_or (set R s v) s 0 ≡ v
  at_slot = get_or-set_same R s v 0 inside

  -- ---- no exception, before or after
  pub move_plain : v < low + 15 → TableAt base low (set R s v) t
  move_plain h = record {
    shape = ta.shape;
    from = λ x hx m. other x (ta.from x hx m) (off_slot (omega arith) x (ta.from x hx m));
    to = λ i l k. go i l k (ℕ_discrete i s);
  }
    where
      go : (i : ℕ) → i < length (set R s v) → low + 15 ≤ get_or (set R s v) i 0 → Dec (i ≡ s) → Member t (word i (get_or (set R s v) i 0))
      go i l k (yes e) = absurd (let q : get_or (set R s v) i 0 ≡ v = ap (λ (j : ℕ). get_or (set R s v) j 0) e ∙ at_slot in omega arith)
      go i l k (no e) =
          let q : get_or (set R s v) i 0 ≡ get_or R i 0 = get_or-set_other R s i v 0 e in
          subst (λ (y : ℕ). Member t (word i y)) (sym q) (ta.to i (subst (λ (n : ℕ). i < n) (length-set R s v) l) (omega arith))

  slot_is : slot (word s v) ≡ s
  slot_is = slot_of_word s v (omega (arith, ok.few))

  new : low + 15 ≤ v → Exception low (set R s v) (word s v)
  new h =
      let there : get_or (set R s v) (slot (word s v)) 0 ≡ v = ap (λ (i : ℕ). get_or (set R s v) i 0) slot_is ∙ at_slot in
      record { inside = rw (slot_is, length-set R s v) inside; right = rw (there, slot_is) refl; high = rw there h }

  -- ---- an exception gets another value
  module _ (was : low + 15 ≤ get_or R s 0) where
    kept : Kept base t
    kept = (table_kept ta s inside was).1

    room : Room t
    room = kept_room base t kept ok.four

    old : word_at t s ≡ word s (get_or R s 0)
    old = table_word ta ok.few s inside was

    pub present : word_at t s ≡ 0 → ⊥
    present e = word_some s (get_or R s 0) (omega arith) (sym old ∙ e)

    present' : word_at t (slot (word s v)) ≡ 0 → ⊥
    present' e = present (ap (word_at t) (sym slot_is) ∙ e)

    place_is : place t (slot (word s v)) ≡ place t s
    place_is = ap (place t) slot_is

    pub replace_used : used (replace t (word s v)) ≡ used t
    unfolding replace word_at
    replace_used = used_set_some t (place t (slot (word s v))) (word s v) present' (word_some s v (omega arith))

    pub move_replace : TableAt base low (set R s v) (replace t (word s v))
    unfolding replace word_at Reached
    move_replace = record {
      shape = inr (
        omega (arith, replace_used, (table_kept ta s inside was).0),
        record {
          lg = kept.lg;
          power = length_replace t (word s v) ∙ kept.power;
          sized = length_replace t (word s v) ∙ kept.sized ∙ ap (size_for base) (sym replace_used);
          load = omega (arith, replace_used, length_replace t (word s v), kept.load);
          good = replace_good t (word s v) room (word_some s v (omega arith)) present' kept.good;
        },
      );
      from = λ x hx m. from x hx m (ℕ_discrete m.0 (place t (slot (word s v))));
      to = λ i l k. to i l k (ℕ_discrete i s);
    }
      where
        q : ℕ
        q = place t (slot (word s v))

        q_lt : place t (slot (word s v)) < length t
        q_lt = place_lt t (slot (word s v)) room

        from : (x : ℕ) → (x ≡ 0 → ⊥) → (m : Member (replace t (word s v)) x) → Dec (m.0 ≡ place t (slot (word s v))) → Exception low (set R s v) x
        from x hx m (yes e) =
            let is : x ≡ word s v = sym m.2 ∙ ap (λ (i : ℕ). get_or (replace t (word s v)) i 0) e ∙ get_or-set_same t (place t (slot (word s v))) (word s v) 0 q_lt in
            subst (Exception low (set R s v)) (sym is) (new (omega arith))
        from x hx m (no e) =
            let l : m.0 < length t = subst (λ (n : ℕ). m.0 < n) (length_replace t (word s v)) m.1 in
            let is : get_or t m.0 0 ≡ x = sym (get_or-set_other t (place t (slot (word s v))) m.0 (word s v) 0 e) ∙ m.2 in
            other x (ta.from x hx (m.0, l, is))
            (λ z. e (sym (good' m.0 l (λ y. hx (sym is ∙ y))) ∙ ap (λ (y : ℕ). place t (slot y)) is ∙ ap (place t) (z ∙ sym slot_is)))
          where
            good' : (p : ℕ) → p < length t → (get_or t p 0 ≡ 0 → ⊥) → place t (slot (get_or t p 0)) ≡ p
            good' = kept.good

        to : (i : ℕ) → i < length (set R s v) → low + 15 ≤ get_or (set R s v) i 0 → Dec (i ≡ s) → Member (replace t (word s v)) (word i (get_or (set R s v) i 0))
        to i l k (yes e) =
            subst (λ (y : ℕ). Member (replace t (word s v)) y) (ap (λ (y : ℕ). word s y) (sym at_slot) ∙ ap (λ (j : ℕ). word j (get_or (set R s v) j 0)) (sym e))
            (place t (slot (word s v)), subst (λ (n : ℕ). place t (slot (word s v)) < n) (sym (length_replace t (word s v))) q_lt, get_or-set_same t (place t (slot (word s v))) (word s v) 0 q_lt)
        to i l k (no e) =
            let same : get_or (set R s v) i 0 ≡ get_or R i 0 = get_or-set_other R s i v 0 e in
            let li : i < length R = subst (λ (n : ℕ). i < n) (length-set R s v) l in
            let m = ta.to i li (omega arith) in
            subst (λ (y : ℕ). Member (replace t (word s v)) (word i y)) (sym same) (
              m.0,
              subst (λ (n : ℕ). m.0 < n) (sym (length_replace t (word s v))) m.1,
              get_or-set_other t (place t (slot (word s v))) m.0 (word s v) 0
                  (λ z. e (sym (slot_of_word i (get_or R i 0) (omega (arith, ok.few))) ∙ ap slot (sym m.2 ∙ ap (λ (j : ℕ). get_or t j 0) (z ∙ place_is)) ∙ word_slot t s room present)) ∙ m.2,
            )

  -- ---- a new exception
  module _ (was : get_or R s 0 < low + 15) (is : low + 15 ≤ v) where
    some : word s v ≡ 0 → ⊥
    some = word_some s v (omega arith)

    pub opened_kept : Kept base (opened base t)
    opened_kept = go t ta.shape
      where
        go : (u : List ℕ) → (u ≡ []) ⊎ ((0 < used u) × Kept base u) → Kept base (opened base u)
        go [] z = zeros_kept ok
        go (w ∷ ws) (inl e) = absurd (let z : ◌≡◌ {A = ℕ} (suc (length ws)) 0 = ap length e in omega arith)
        go (w ∷ ws) (inr k) = k.1

    pub opened_used : used (opened base t) ≡ used t
    unfolding used
    opened_used = go t
      where
        go : (u : List ℕ) → used (opened base u) ≡ used u
        go [] = used_zeros base
        go (w ∷ ws) = refl

    opened_from : (x : ℕ) → (x ≡ 0 → ⊥) → Member (opened base t) x → Member t x
    opened_from x hx = go t
      where
        go : (u : List ℕ) → Member (opened base u) x → Member u x
        go [] m = absurd (zeros_none base x hx m)
        go (w ∷ ws) m = m

    opened_to : (x : ℕ) → Member t x → Member (opened base t) x
    opened_to x = go t
      where
        go : (u : List ℕ) → Member u x → Member (opened base u) x
        go [] m = absurd (member_none x m)
        go (w ∷ ws) m = m

    pub absent : word_at (opened base t) (slot (word s v)) ≡ 0
    absent =
        reads_none (opened base t) (slot (word s v)) (kept_room base (opened base t) opened_kept ok.four)
        (λ x hx q m. off_slot was x (ta.from x hx (opened_from x hx m)) (q ∙ slot_is))

    few : suc (used (opened base t)) < 2 ^ 26
    few = omega (arith, opened_used, table_few ta ok.few, ok.few)

    pub inserted_used : used (inserted base t (word s v)) ≡ suc (used t)
    unfolding inserted
    inserted_used = insert_used base (opened base t) (word s v) opened_kept ok.four few some absent ∙ ap suc opened_used

    pub inserted_kept : Kept base (inserted base t (word s v))
    unfolding inserted
    inserted_kept = insert_kept base (opened base t) (word s v) opened_kept ok.four few some absent

    pub inserted_size : length (inserted base t (word s v)) ≡ size_for base (suc (used t))
    inserted_size = inserted_kept.sized ∙ ap (size_for base) inserted_used

    pub move_insert : TableAt base low (set R s v) (inserted base t (word s v))
    unfolding inserted
    move_insert = record {
      shape = inr (omega (arith, inserted_used), inserted_kept);
      from = λ x hx m. from x hx (insert_from base (opened base t) (word s v) opened_kept ok.four few some absent x hx m);
      to = λ i l k. to i l k (ℕ_discrete i s);
    }
      where
        from : (x : ℕ) → (x ≡ 0 → ⊥) → (x ≡ word s v) ⊎ Member (opened base t) x → Exception low (set R s v) x
        from x hx (inl e) = subst (Exception low (set R s v)) (sym e) (new is)
        from x hx (inr m) =
            let e = ta.from x hx (opened_from x hx m) in
            other x e (off_slot was x e)

        put : (x : ℕ) → (x ≡ 0 → ⊥) → (x ≡ word s v) ⊎ Member (opened base t) x → Member (insert (opened base t) (word s v)) x
        put = insert_to base (opened base t) (word s v) opened_kept ok.four few some absent

        to : (i : ℕ) → i < length (set R s v) → low + 15 ≤ get_or (set R s v) i 0 → Dec (i ≡ s) → Member (insert (opened base t) (word s v)) (word i (get_or (set R s v) i 0))
        to i l k (yes e) =
            subst (λ (y : ℕ). Member (insert (opened base t) (word s v)) y) (ap (λ (y : ℕ). word s y) (sym at_slot) ∙ ap (λ (j : ℕ). word j (get_or (set R s v) j 0)) (sym e)) (put (word s v) some (inl refl))
        to i l k (no e) =
            let same : get_or (set R s v) i 0 ≡ get_or R i 0 = get_or-set_other R s i v 0 e in
            let li : i < length R = subst (λ (n : ℕ). i < n) (length-set R s v) l in
            subst (λ (y : ℕ). Member (insert (opened base t) (word s v)) (word i y)) (sym same)
            (put (word i (get_or R i 0)) (word_some i (get_or R i 0) (omega arith)) (inr (opened_to _ (ta.to i li (omega arith)))))
