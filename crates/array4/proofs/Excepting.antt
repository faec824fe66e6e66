-- A value for a slot that makes it an exception or leaves it one: what `place` hands to the table's functions, and what they leave. Assumes nothing.
use mathlib.Core.Path.{◌≡◌, refl, sym, ◌∙◌, ap, ap₂, subst, subst₂}
use mathlib.Core.Bool.{Bool}
use Rattle.std.specs.Prelude.{Some, None}
use mathlib.Core.List.{List, [], ◌∷◌, ◌++◌}
use Prim.Native.Nat.{ℕ, suc, ◌+◌, ◌-◌, ◌≤◌, ◌<◌}
use native.Mathlib.Numerals.{add-one}
use native.Mathlib.Omega.{arith}
use lib.Dec.{eqb}
use lib.ListN.{length, get_or, take, drop, replicate}
use lib.Seq.{length_front}
use borrow.Author.Tests.{ne_eqb, le-ltb, le-leb, lt-leb}
use Rattle.model.specs.Pick.{pick}
use Rattle.model.specs.Coupon.{word}
use Rattle.model.specs.Packed.{slot_at, Put}
use Rattle.model.specs.Table.{base_for, size_for, table_size, Kept, used, replace, insert, laid, opened}
use Rattle.model.specs.Four.{State, nibble, put4, inserted}
use Rattle.model.specs.Sketch.{sketch_of}
use Rattle.model.specs.Calls.{state_of}
use Rattle.model.specs.declared.Sketch.{Sketch}
use Rattle.model.proofs.table.Order.{length_replace}
use Rattle.model.proofs.table.Inserts.{size_base}
use Rattle.model.proofs.table.Shape.{shape_size, size_some, size_shorter}
use Rattle.model.proofs.table.Sizes.{Sized}
use Rattle.model.proofs.four.Tables.{table_few, table_kept}
use Rattle.model.proofs.four.Moves.{move_replace, move_insert, replace_used, inserted_used, inserted_size, opened_kept, opened_used}
use Rattle.aux_map.specs.Search.{Replaceable}
use Rattle.aux_map.specs.Grow.{over, Insertable, Inserted}
use Rattle.aux_map.proofs.Bases.{based}
use Rattle.aux_table.proofs.Laid.{take_laid, laid_zeros, over_laid}
use Rattle.aux_table.proofs.Requires.{replace_met, insert_met}
use Rattle.array4.specs.Held.{Holds}
use Rattle.array4.specs.Update.{Placeable, Placed, put_of}
use Rattle.array4.proofs.Holding.{holds_sized, holds_front}
use Rattle.array4.proofs.Placing.{place_inside, slot_small, was_low, was_high, place_each, put_slots, place_build}

module _ {s : Sketch} {regs aux scratch : List ℕ} {i raw v : ℕ} (p : Placeable s regs aux scratch i raw v) (k : s.cur_min + 15 ≤ v)
    (base size : ℕ) (eb : base ≡ base_for s.lg_k) (es : size ≡ size_for base s.aux_count) where
  abbrev a : State
  a = state_of s regs aux

  abbrev low : ℕ
  low = s.cur_min

  h : Holds s.lg_k (state_of s regs aux) s regs aux
  h = p.held.holds

  ok : Sized (base_for s.lg_k) (length (state_of s regs aux).regs)
  ok = holds_sized p.held.holds

  size_is : size ≡ size_for (base_for s.lg_k) (used (state_of s regs aux).table)
  size_is = es ∙ ap₂ size_for eb h.counted

  -- ---- an exception gets another value
  module _ (f : raw ≡ 15) where
    kept : (0 < used (state_of s regs aux).table) × Kept (base_for s.lg_k) (state_of s regs aux).table
    kept = table_kept h.table i (place_inside p) (was_high p f)

    long : size ≡ length (state_of s regs aux).table
    long = size_is ∙ sym kept.1.sized

    front : take size aux ≡ (state_of s regs aux).table
    front = holds_front h size (size_is ∙ sym (size_some (base_for s.lg_k) (used a.table) kept.0) ∙ ap (table_size (base_for s.lg_k)) (sym h.counted))

    pub replaceable : Replaceable (take size aux) i v
    replaceable =
        subst (λ (t : List ℕ). Replaceable t i v) (sym front)
        (replace_met (base_for s.lg_k) low a.regs a.table (based s.lg_k (omega (arith, h.low)) (omega (arith, h.high))) (omega (arith, ok.few)) h.table i (place_inside p) (was_high p f) v p.small)

    pub placed_replace : (top : List ℕ) → top ≡ replace (take size aux) (word i v) → length top ≡ length (take size aux)
        → Placed (put_of s regs aux i v) (Some s) s regs aux regs (top ++ drop size aux)
    unfolding put4
    placed_replace top et el =
        rw (le-ltb v (low + 15) k, le-leb (low + 15) (get_or a.regs i 0) (was_high p f)) (
          refl,
          place_build p s.num_at_cur_min s.aux_count (replace a.table (word i v)) regs (top ++ drop size aux) (move_replace i v ok h.table (place_inside p) p.rises p.small (was_high p f))
              (sym (ap (λ (b : Bool). pick b (s.num_at_cur_min - 1) s.num_at_cur_min) (ne_eqb raw 0 (omega arith)))) (h.counted ∙ sym (replace_used i v ok h.table (place_inside p) p.rises p.small (was_high p f))) refl
              (place_each p (λ j y. slot_at 4 regs j ≡ nibble low y) (sym p.read ∙ f ∙ omega arith) (λ j l n. h.slots j l))
              (omega (arith, length_replace a.table (word i v), h.fits, same))
              (area ∙ ap (λ (m : ℕ). laid m (replace a.table (word i v))) (sym same)),
        )
      where
        same : length (top ++ drop size aux) ≡ length aux
        same = length_front aux top size el

        area : top ++ drop size aux ≡ laid (length aux) (replace (state_of s regs aux).table (word i v))
        area =
            ap₂ ◌++◌ (et ∙ ap (λ (t : List ℕ). replace t (word i v)) front)
            (ap₂ drop (long ∙ sym (length_replace a.table (word i v))) h.area)
            ∙ over_laid (length aux) a.table (replace a.table (word i v)) (omega (arith, length_replace a.table (word i v))) (omega (arith, length_replace a.table (word i v), h.fits))

  -- ---- a new exception
  module _ (f : raw ≡ 15 → ⊥) (need : ℕ) (en : need ≡ size_for base (s.aux_count + 1)) where
    need_is : need ≡ size_for (base_for s.lg_k) (suc (used (state_of s regs aux).table))
    need_is = en ∙ ap₂ size_for eb (add-one s.aux_count ∙ ap suc h.counted)

    pub placed_none : length aux < need → Placed (put_of s regs aux i v) None s regs aux regs aux
    unfolding put4
    placed_none l =
        rw (le-ltb v (low + 15) k, lt-leb (low + 15) (get_or a.regs i 0) (was_low p f), lt-leb (size_for (base_for s.lg_k) (suc (used a.table))) (length aux) (omega (arith, need_is)))
        (record { regs_are = refl; aux_is = refl })

    module _ (room : need ≤ length aux) where
      room' : size_for (base_for s.lg_k) (suc (used (state_of s regs aux).table)) ≤ length aux
      room' = omega (arith, need_is)

      -- the area's front is the table for one word more
      front' : take size aux ≡ opened (base_for s.lg_k) (state_of s regs aux).table
      front' = ap (take size) h.area ∙ go a.table (size_is ∙ ap (size_for (base_for s.lg_k)) (sym (opened_used i v ok h.table (place_inside p) p.rises p.small (was_low p f) k))
          ∙ sym (opened_kept i v ok h.table (place_inside p) p.rises p.small (was_low p f) k).sized)
        where
          go : (t : List ℕ) → size ≡ length (opened (base_for s.lg_k) t) → take size (laid (length aux) t) ≡ opened (base_for s.lg_k) t
          go [] e =
              ap (take size) (laid_zeros (length aux) 0 (omega arith) ∙ sym (laid_zeros (length aux) (base_for s.lg_k) (omega (arith, size_base (base_for s.lg_k) (suc (used a.table)), room'))))
              ∙ take_laid (length aux) size (replicate (base_for s.lg_k) 0) e
          go (w ∷ ws) e = take_laid (length aux) size (w ∷ ws) e

      pub insertable : Insertable aux scratch size s.aux_count (word i v)
      insertable =
          subst₂ (λ (n c : ℕ). Insertable aux scratch n c (word i v)) (sym size_is) (sym h.counted)
          (insert_met (base_for s.lg_k) low a.regs a.table (based s.lg_k (omega (arith, h.low)) (omega (arith, h.high))) (omega (arith, ok.few)) h.table aux scratch h.fits h.area p.held.spare
          i v (was_low p f) (slot_small p) k (omega (arith, table_few h.table ok.few, ok.few)) room')

      pub placed_insert : (num : ℕ) (regs' : List ℕ) → num ≡ pick (eqb raw 0) (s.num_at_cur_min - 1) s.num_at_cur_min → Put 4 regs i 15 regs'
          → (r : ℕ) (aux' scratch' : List ℕ) → length aux' ≡ length aux → Inserted aux scratch size (word i v) r aux' scratch'
          → Placed (put_of s regs aux i v) (Some (sketch_of s.kind s.lg_k s.cur_min num (s.aux_count + 1))) s regs aux regs' aux'
      unfolding put4 inserted
      placed_insert num regs' e put r aux' scratch' el ins =
          rw (le-ltb v (low + 15) k, lt-leb (low + 15) (get_or a.regs i 0) (was_low p f), le-leb (size_for (base_for s.lg_k) (suc (used a.table))) (length aux) room') (
            refl,
            place_build p num (s.aux_count + 1) new regs' aux' (move_insert i v ok h.table (place_inside p) p.rises p.small (was_low p f) k) e
                (omega (arith, h.counted, inserted_used i v ok h.table (place_inside p) p.rises p.small (was_low p f) k)) put.long (put_slots p 15 regs' (omega arith) put)
                (omega (arith, el, new_size)) (area ∙ ap (λ (m : ℕ). laid m new) (sym el)),
          )
        where
          new : List ℕ
          new = inserted (base_for s.lg_k) (state_of s regs aux).table (word i v)

          new_size : length (inserted (base_for s.lg_k) (state_of s regs aux).table (word i v)) ≤ length aux
          new_size = omega (arith, inserted_size i v ok h.table (place_inside p) p.rises p.small (was_low p f) k, need_is)

          longer : length (state_of s regs aux).table ≤ length (inserted (base_for s.lg_k) (state_of s regs aux).table (word i v))
          longer =
              omega (
                arith,
                shape_size h.table.shape,
                size_shorter (base_for s.lg_k) (used a.table) (suc (used a.table)) (omega arith),
                size_some (base_for s.lg_k) (suc (used a.table)) (omega arith),
                inserted_size i v ok h.table (place_inside p) p.rises p.small (was_low p f) k,
              )

          area : aux' ≡ laid (length aux) (inserted (base_for s.lg_k) (state_of s regs aux).table (word i v))
          area =
              ins.table ∙ ap₂ (λ (t l : List ℕ). over (insert t (word i v)) l) front' h.area
              ∙ over_laid (length aux) a.table (inserted (base_for s.lg_k) a.table (word i v)) longer new_size
