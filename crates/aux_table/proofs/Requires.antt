-- What the functions on tables require is so of a sketch in good order: of a table t of R's exceptions at the front of an area of zeros.
-- (That of the inner functions, `wrap`, `copy`, `grow`, `check_grow`, `keep`, `in_order` and, for the words kept, `build`, is met where they are called.)
-- For `Listed`, `Based` and `Sizable` see aux_map's `Bases`. Assumes nothing.
use mathlib.Core.Path.{◌≡◌, refl, sym, ◌∙◌, ap, subst}
use mathlib.Core.Logic.{◌⊎◌, inl, inr}
use mathlib.Core.List.{List, [], ◌∷◌}
use Prim.Native.Nat.{ℕ, suc, ◌+◌, ◌^◌, ◌≤◌, ◌<◌}
use native.Mathlib.Nat.{not-suc-le-zero}
use native.Mathlib.Omega.{arith}
use lib.ListN.{length, get_or, take, replicate, length-replicate}
use Rattle.model.specs.Coupon.{slot, word}
use Rattle.model.specs.Table.{Room, Member, Kept, word_at, used, laid, opened, size_for}
use Rattle.model.specs.Four.{Exception, TableAt}
use Rattle.model.proofs.table.Search.{slot_of_word}
use Rattle.model.proofs.table.Refill.{used_zeros}
use Rattle.model.proofs.table.Order.{reads, reads_none}
use Rattle.model.proofs.table.Grown.{zeros_none}
use Rattle.model.proofs.table.Inserted.{kept_size, kept_room, size_doubles}
use Rattle.model.proofs.table.Inserts.{size_mono, size_base}
use Rattle.aux_map.specs.Sizes.{Based}
use Rattle.aux_map.specs.Search.{Replaceable}
use Rattle.aux_map.specs.Grow.{Insertable}
use Rattle.aux_table.specs.Build.{Rebuildable}
use Rattle.aux_table.proofs.Laid.{take_laid, laid_zeros}
use Rattle.aux_table.proofs.Sizing.{size_zero}
use Rattle.aux_table.proofs.Building.{new_kept}

opened_some : (base : ℕ) (t : List ℕ) → 0 < used t → opened base t ≡ t
unfolding used
opened_some base [] h = absurd (not-suc-le-zero h)
opened_some base (w ∷ ws) h = refl

front_zeros : (n m : ℕ) → m ≤ n → take m (laid n []) ≡ replicate m 0
front_zeros n m h = ap (take m) (laid_zeros n 0 (omega arith) ∙ sym (laid_zeros n m h)) ∙ take_laid n m (replicate m 0) (sym (length-replicate m 0))

-- the table u for one word more: as it is kept, of the rule's size, at the area's front, and of exceptions only
record Ready (base low count : ℕ) (R area u : List ℕ) : Type 0 where
  kept : Kept base u
  same : used u ≡ count
  front : take (size_for base count) area ≡ u
  from : (x : ℕ) → (x ≡ 0 → ⊥) → Member u x → Exception low R x

module _ (base low : ℕ) (R t : List ℕ) (based : Based base) (few : length R < 2 ^ 26) (table : TableAt base low R t) where
  -- a table with a word in it is as it is kept
  pub kept_of : (x : ℕ) → Member t x → Kept base t
  kept_of x m = go table.shape
    where
      go : (t ≡ []) ⊎ ((0 < used t) × Kept base t) → Kept base t
      go (inl e) = absurd (not-suc-le-zero (subst (λ (l : List ℕ). m.0 < length l) e m.1))
      go (inr k) = k.1

  -- `get` and `replace`: the slot of an exception
  module _ (s : ℕ) (inside : s < length R) (high : low + 15 ≤ get_or R s 0) where
    kept : Kept base t
    kept = kept_of (word s (get_or R s 0)) (table.to s inside high)

    pub find_met : Room t
    find_met = kept_room base t kept based.four

    pub replace_met : (v : ℕ) → v < 2 ^ 6 → Replaceable t s v
    replace_met v h = record {
      room = find_met;
      slot = omega arith;
      value = h;
      present = λ z. some (sym there ∙ z);
    }
      where
        some : word s (get_or R s 0) ≡ 0 → ⊥
        some z = omega arith

        there : word_at t s ≡ word s (get_or R s 0)
        there = ap (word_at t) (sym (slot_of_word s (get_or R s 0) (omega arith))) ∙ reads t (word s (get_or R s 0)) kept.good some (table.to s inside high)

  module _ (area scratch : List ℕ) (fits : length t ≤ length area) (alone : area ≡ laid (length area) t) (spared : length area ≤ length scratch) where
    -- `rebuild`: where there is an exception
    pub rebuild_met : (x limit : ℕ) → Member t x → used t < 2 ^ 26 → 0 < limit → Rebuildable area scratch base (length t) limit
    rebuild_met x limit m h l = record {
      based = based;
      within = fits;
      kept = subst (Kept base) (sym is) (kept_of x m);
      alone = alone ∙ ap (laid (length area)) (sym is);
      few = subst (λ (u : List ℕ). used u < 2 ^ 26) (sym is) h;
      some = l;
      spared = spared;
    }
      where
        is : take (length t) area ≡ t
        is = ap (take (length t)) alone ∙ take_laid (length area) (length t) t refl

    -- `insert`: a register that becomes an exception, where the area has room for its table
    module _ (s v : ℕ) (was : get_or R s 0 < low + 15) (below : s < 2 ^ 26) (high : low + 15 ≤ v) (more : suc (used t) < 2 ^ 26) (room : size_for base (suc (used t)) ≤ length area) where
      size_fits : size_for base (used t) ≤ length area
      size_fits = omega (arith, size_mono base (used t) (suc (used t)) (omega arith))

      ready : Ready base low (used t) R area (opened base t)
      unfolding used
      ready = go table.shape
        where
          none : t ≡ [] → Ready base low (used []) R area (replicate base 0)
          none e = record {
            kept = new_kept base based;
            same = used_zeros base;
            front =
                ap (λ (n : ℕ). take n area) (size_zero base based.four) ∙ ap (take base) (alone ∙ ap (laid (length area)) e)
                ∙ front_zeros (length area) base (omega (arith, size_base base (suc (used t))));
            from = λ x h m. absurd (zeros_none base x h m);
          }

          go : (t ≡ []) ⊎ ((0 < used t) × Kept base t) → Ready base low (used t) R area (opened base t)
          go (inl e) = subst (λ (l : List ℕ). Ready base low (used l) R area (opened base l)) (sym e) (none e)
          go (inr k) =
              subst (Ready base low (used t) R area) (sym (opened_some base t k.0)) (record {
                kept = k.1;
                same = refl;
                front = ap (take (size_for base (used t))) alone ∙ take_laid (length area) (size_for base (used t)) t (sym k.1.sized);
                from = table.from;
              })

      pub insert_met : Insertable area scratch (size_for base (used t)) (used t) (word s v)
      insert_met = record {
        lg = ready.kept.lg;
        power = long ∙ ready.kept.power;
        four = omega (arith, long, kept_size base (opened base t) ready.kept based.four);
        load = omega (arith, long, ready.kept.load, ready.same);
        counted = ap used ready.front ∙ ready.same;
        absent =
            ap (λ (l : List ℕ). word_at l (slot (word s v))) ready.front
            ∙ reads_none (opened base t) (slot (word s v)) (kept_room base (opened base t) ready.kept based.four) other;
        some = λ z. omega arith;
        fits = size_fits;
        wider = λ h. omega (arith, size_doubles base (used t) (omega arith) based.four more (omega (arith, long, ready.kept.load, ready.same)) (omega arith), room);
        spared = λ h. omega (arith, size_fits, spared);
      }
        where
          long : size_for base (used t) ≡ length (opened base t)
          long = ap (size_for base) (sym ready.same) ∙ sym ready.kept.sized

          other : (x : ℕ) → (x ≡ 0 → ⊥) → slot x ≡ slot (word s v) → Member (opened base t) x → ⊥
          other x h e m =
              let is : slot x ≡ s = e ∙ slot_of_word s v below in
              omega (arith, was, (ready.from x h m).high, ap (λ (i : ℕ). get_or R i 0) is)
