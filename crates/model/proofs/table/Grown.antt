-- Growth keeps good order and the table as a map from slots to words. Assumes nothing.
use mathlib.Core.Path.{◌≡◌, refl, sym, ◌∙◌, ap, subst}
use mathlib.Core.Logic.{◌⊎◌, inl, inr}
use mathlib.Core.List.{List, [], ◌∷◌}
use Prim.Native.Nat.{ℕ, zero, suc, ◌+◌, ◌^◌, ◌<◌, zero-le, suc-le-suc}
use native.Mathlib.Nat.{not-suc-le-zero}
use native.Mathlib.Omega.{arith}
use native.Mathlib.Decide.{ℕ_discrete}
use lib.ListN.{length, get_or, replicate, length-replicate, get_or-replicate}
use lib.Pow.{pow_pos}
use borrow.Author.Tests.{eq-eqb, ne_eqb}
use Rattle.model.specs.Table.{Room, Reached, Member, place, word_at, replace, refill, grown, used}
use Rattle.model.specs.Coupon.{slot}
use Rattle.model.proofs.table.Members.{member_head, member_tail, member_cases}
use Rattle.model.proofs.table.Search.{place_lt}
use Rattle.model.proofs.table.Refill.{put, put_empty, put_word, room_of, used_put, length_put, used_refill, used_set_empty, length_refill, used_zeros, double_size}
use Rattle.model.proofs.table.Order.{fresh_good, fresh_new, fresh_old, fresh_inv, reads_none, no_slot_twice}

-- no two words of a list that are not empty have the same f
abbrev pub DistinctBy : (ℕ → ℕ) → List ℕ → Type 0
DistinctBy f ws = (i j : ℕ) → i < length ws → j < length ws → (get_or ws i 0 ≡ 0 → ⊥) → (get_or ws j 0 ≡ 0 → ⊥) → f (get_or ws i 0) ≡ f (get_or ws j 0) → i ≡ j

-- no slot stands twice
abbrev pub Distinct : List ℕ → Type 0
Distinct ws = DistinctBy slot ws

-- the words ws can be put into the table t, one after the other
pub record Ready (t ws : List ℕ) : Type 0 where
  pub lg : ℕ
  pub size : length t ≡ 2 ^ lg
  pub spare : used t + length ws < length t
  pub good : Reached t
  pub distinct : Distinct ws
  pub apart : (x y : ℕ) → (x ≡ 0 → ⊥) → (y ≡ 0 → ⊥) → Member t x → Member ws y → slot x ≡ slot y → ⊥

module _ (t ws : List ℕ) (w : ℕ) (ready : Ready t (w ∷ ws)) where
  room : Room t
  room = room_of t ready.lg ready.size (omega arith)

  rest_distinct : Distinct ws
  rest_distinct i j li lj hi hj e = omega (arith, ready.distinct (suc i) (suc j) (suc-le-suc li) (suc-le-suc lj) hi hj e)

  -- the first word's slot is not in the table
  fresh : (w ≡ 0 → ⊥) → word_at t (slot w) ≡ 0
  fresh h = reads_none t (slot w) room (λ x hx q m. ready.apart x w hx h m (member_head w ws) q)

  skipped : Ready t ws
  skipped = record {
    lg = ready.lg;
    size = ready.size;
    spare = omega arith;
    good = ready.good;
    distinct = rest_distinct;
    apart = λ x y hx hy mx my. ready.apart x y hx hy mx (member_tail w y ws my);
  }

  inserted : (w ≡ 0 → ⊥) → Ready (replace t w) ws
  inserted h = record {
    lg = ready.lg;
    size = subst (λ (u : List ℕ). length u ≡ 2 ^ ready.lg) (sym (put_word t w h)) (length_put t w ∙ ready.size);
    spare = subst (λ (u : List ℕ). used u + length ws < length u) (sym (put_word t w h)) (omega (arith, used_put t w, length_put t w, ready.spare));
    good = fresh_good t w room h (fresh h) ready.good;
    distinct = rest_distinct;
    apart = λ x y hx hy mx my e. apart' x y hx hy (fresh_inv t w room h (fresh h) x mx) my e;
  }
    where
      apart' : (x y : ℕ) → (x ≡ 0 → ⊥) → (y ≡ 0 → ⊥) → (x ≡ w) ⊎ Member t x → Member ws y → slot x ≡ slot y → ⊥
      apart' x y hx hy (inr mx) my e = ready.apart x y hx hy mx (member_tail w y ws my) e
      apart' x y hx hy (inl i) my e =
          let twice : zero ≡ suc my.0 =
          ready.distinct zero (suc my.0) (suc-le-suc zero-le) (suc-le-suc my.1) h (λ z. hy (sym my.2 ∙ z)) (ap slot (sym i) ∙ e ∙ ap slot (sym my.2)) in
          omega arith

  -- what one word does to the words of the table
  pub put_ready : Ready (put t w) ws
  put_ready = go (ℕ_discrete w 0)
    where
      go : Dec (w ≡ 0) → Ready (put t w) ws
      go (yes e) = subst (λ (u : List ℕ). Ready u ws) (put_empty t w e) skipped
      go (no h) = subst (λ (u : List ℕ). Ready u ws) (put_word t w h) (inserted h)

  pub put_to : (x : ℕ) → (x ≡ 0 → ⊥) → (x ≡ w) ⊎ Member t x → Member (put t w) x
  put_to x hx m = go (ℕ_discrete w 0) m
    where
      go : Dec (w ≡ 0) → (x ≡ w) ⊎ Member t x → Member (put t w) x
      go (yes e) (inl i) = absurd (hx (i ∙ e))
      go (yes e) (inr k) = subst (λ (u : List ℕ). Member u x) (put_empty t w e) k
      go (no h) (inl i) = subst (λ (u : List ℕ). Member u x) (put_word t w h) (subst (Member (replace t w)) (sym i) (fresh_new t w room h (fresh h)))
      go (no h) (inr k) = subst (λ (u : List ℕ). Member u x) (put_word t w h) (fresh_old t w room h (fresh h) x hx k)

  pub put_from : (x : ℕ) → Member (put t w) x → (x ≡ w) ⊎ Member t x
  put_from x m = go (ℕ_discrete w 0)
    where
      go : Dec (w ≡ 0) → (x ≡ w) ⊎ Member t x
      go (yes e) = inr (subst (λ (u : List ℕ). Member u x) (sym (put_empty t w e)) m)
      go (no h) = fresh_inv t w room h (fresh h) x (subst (λ (u : List ℕ). Member u x) (sym (put_word t w h)) m)

-- a word for a slot that the table has not: one more is used
pub used_fresh : (t : List ℕ) (w : ℕ) → Room t → (w ≡ 0 → ⊥) → word_at t (slot w) ≡ 0 → used (replace t w) ≡ suc (used t)
unfolding replace word_at
used_fresh t w r h e = used_set_empty t (place t (slot w)) w (place_lt t (slot w) r) e h

put_used : (t ws : List ℕ) (w : ℕ) → Ready t (w ∷ ws) → used (put t w) + used ws ≡ used t + used (w ∷ ws)
unfolding used
put_used t ws w r = go (ℕ_discrete w 0)
  where
    go : Dec (w ≡ 0) → used (put t w) + used ws ≡ used t + used (w ∷ ws)
    go (yes e) = rw (eq-eqb w 0 e)
    go (no h) = rw (ne_eqb w 0 h) (omega (arith, used_fresh t w (room t ws w r) h (fresh t ws w r h)))

pub refill_used : (t ws : List ℕ) → Ready t ws → used (refill t ws) ≡ used t + used ws
unfolding refill used
refill_used t [] r = omega arith
refill_used t (w ∷ ws) r = refill_used (put t w) ws (put_ready t ws w r) ∙ put_used t ws w r

pub refill_good : (t ws : List ℕ) → Ready t ws → Reached (refill t ws)
unfolding refill
refill_good t [] r = r.good
refill_good t (w ∷ ws) r = refill_good (put t w) ws (put_ready t ws w r)

pub refill_to : (t ws : List ℕ) → Ready t ws → (x : ℕ) → (x ≡ 0 → ⊥) → Member t x ⊎ Member ws x → Member (refill t ws) x
unfolding refill
refill_to t [] r x h (inl m) = m
refill_to t [] r x h (inr m) = absurd (not-suc-le-zero m.1)
refill_to t (w ∷ ws) r x h (inl m) = refill_to (put t w) ws (put_ready t ws w r) x h (inl (put_to t ws w r x h (inr m)))
refill_to t (w ∷ ws) r x h (inr m) = refill_to (put t w) ws (put_ready t ws w r) x h (go (member_cases w x ws m))
  where
    go : (x ≡ w) ⊎ Member ws x → Member (put t w) x ⊎ Member ws x
    go (inl i) = inl (put_to t ws w r x h (inl i))
    go (inr k) = inr k

pub refill_from : (t ws : List ℕ) → Ready t ws → (x : ℕ) → Member (refill t ws) x → Member t x ⊎ Member ws x
unfolding refill
refill_from t [] r x m = inl m
refill_from t (w ∷ ws) r x m = go (refill_from (put t w) ws (put_ready t ws w r) x m)
  where
    back : (x ≡ w) ⊎ Member t x → Member t x ⊎ Member (w ∷ ws) x
    back (inl i) = inr (zero, suc-le-suc zero-le, sym i)
    back (inr k) = inl k

    go : Member (put t w) x ⊎ Member ws x → Member t x ⊎ Member (w ∷ ws) x
    go (inl k) = back (put_from t ws w r x k)
    go (inr k) = inr (member_tail w x ws k)

-- ---- growth
pub zeros_none : (n x : ℕ) → (x ≡ 0 → ⊥) → Member (replicate n 0) x → ⊥
zeros_none n x h m = h (sym m.2 ∙ get_or-replicate n m.0 0 0 (subst (λ (k : ℕ). m.0 < k) (length-replicate n 0) m.1))

pub zeros_good : (n : ℕ) → Reached (replicate n 0)
unfolding Reached
zeros_good n p l h = absurd (zeros_none n (get_or (replicate n 0) p 0) h (p, l, refl))

pub length_grown : (t : List ℕ) → length (grown t) ≡ length t + length t
unfolding grown
length_grown t = length_refill (replicate (length t + length t) 0) t ∙ length-replicate (length t + length t) 0

module _ (t : List ℕ) (lg : ℕ) (size : length t ≡ 2 ^ lg) (good : Reached t) where
  grow_ready : Ready (replicate (length t + length t) 0) t
  grow_ready = record {
    lg = suc lg;
    size = length-replicate (length t + length t) 0 ∙ double_size t lg size;
    spare = omega (arith, used_zeros (length t + length t), length-replicate {A = ℕ} (length t + length t) 0, pow_pos lg, size);
    good = zeros_good (length t + length t);
    distinct = no_slot_twice t good;
    apart = λ x y hx hy mx my e. zeros_none (length t + length t) x hx mx;
  }

  pub grown_good : Reached (grown t)
  unfolding grown
  grown_good = refill_good (replicate (length t + length t) 0) t grow_ready

  pub used_grown : used (grown t) ≡ used t
  unfolding grown
  used_grown = refill_used (replicate (length t + length t) 0) t grow_ready ∙ omega (arith, used_zeros (length t + length t))

  pub grown_room : Room (grown t)
  unfolding grown
  grown_room =
      room_of (grown t) (suc lg) (length_grown t ∙ double_size t lg size)
      (omega (arith, used_refill (replicate (length t + length t) 0) t, used_zeros (length t + length t), length_grown t, pow_pos lg, size))

  -- the grown table has the words of the table
  pub grown_to : (x : ℕ) → (x ≡ 0 → ⊥) → Member t x → Member (grown t) x
  unfolding grown
  grown_to x h m = refill_to (replicate (length t + length t) 0) t grow_ready x h (inr m)

  pub grown_from : (x : ℕ) → (x ≡ 0 → ⊥) → Member (grown t) x → Member t x
  unfolding grown
  grown_from x h m = from (refill_from (replicate (length t + length t) 0) t grow_ready x m)
    where
      from : Member (replicate (length t + length t) 0) x ⊎ Member t x → Member t x
      from (inl k) = absurd (zeros_none (length t + length t) x h k)
      from (inr k) = k
