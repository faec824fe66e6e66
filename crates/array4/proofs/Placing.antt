-- A value put at a slot, in record, bytes and area, before any rise: what is the same in each case, and the case of no exception. Assumes nothing.
use mathlib.Core.Path.{◌≡◌, refl, sym, ◌∙◌, ap, subst}
use mathlib.Core.Bool.{Bool}
use Rattle.std.specs.Prelude.{Some}
use mathlib.Core.List.{List}
use Prim.Native.Nat.{ℕ, ◌+◌, ◌-◌, ◌*◌, ◌^◌, ◌≤◌, ◌<◌}
use native.Mathlib.Omega.{arith}
use native.Mathlib.Decide.{ℕ_discrete, dec_lt}
use lib.Dec.{eqb}
use lib.ListN.{length, get_or, set, length-set}
use lib.Seq.{get_or-set_same, get_or-set_other}
use borrow.Author.Tests.{eq-eqb, ne_eqb, lt-ltb}
use Rattle.model.specs.Pick.{pick}
use Rattle.model.specs.Registers.{raise, count_of}
use Rattle.model.specs.Packed.{slot_at, Put}
use Rattle.model.specs.Table.{base_for, used, laid}
use Rattle.model.specs.Four.{State, state, TableAt, nibble, put4}
use Rattle.model.specs.Sketch.{sketch_of}
use Rattle.model.specs.Calls.{state_of}
use Rattle.model.specs.declared.Sketch.{Sketch}
use Rattle.model.proofs.packing.Packing.{put_same, put_other}
use Rattle.model.proofs.registers.Lowest.{count_left, count_same}
use Rattle.model.proofs.four.Raised.{raise_up}
use Rattle.model.proofs.table.Sizes.{Sized}
use Rattle.model.proofs.four.Moves.{move_plain}
use Rattle.array4.specs.Held.{Holds}
use Rattle.array4.specs.Update.{Placeable, Placed, put_of}
use Rattle.array4.proofs.Holding.{holds_sized}

module _ {s : Sketch} {regs aux scratch : List ℕ} {i raw v : ℕ} (p : Placeable s regs aux scratch i raw v) where
  abbrev a : State
  a = state_of s regs aux

  abbrev low : ℕ
  low = s.cur_min

  h : Holds s.lg_k (state_of s regs aux) s regs aux
  h = p.held.holds

  ok : Sized (base_for s.lg_k) (length (state_of s regs aux).regs)
  ok = holds_sized p.held.holds

  pub place_inside : i < length (state_of s regs aux).regs
  place_inside = omega (arith, p.inside, h.long)

  floor : s.cur_min ≤ get_or (state_of s regs aux).regs i 0
  floor = h.floor i place_inside

  nibble_is : raw ≡ nibble s.cur_min (get_or (state_of s regs aux).regs i 0)
  nibble_is = p.read ∙ h.slots i place_inside

  pub slot_small : i < 2 ^ 26
  slot_small = omega (arith, place_inside, ok.few)

  pub value_above : s.cur_min ≤ v
  value_above = omega (arith, p.rises, floor)

  -- the register's nibble tells where it was
  pub was_low : (raw ≡ 15 → ⊥) → get_or (state_of s regs aux).regs i 0 < s.cur_min + 15
  was_low n = go (dec_lt (get_or a.regs i 0) (low + 15))
    where
      go : Dec (get_or (state_of s regs aux).regs i 0 < s.cur_min + 15) → get_or (state_of s regs aux).regs i 0 < s.cur_min + 15
      go (yes k) = k
      go (no k) = absurd (n (nibble_is ∙ omega arith))

  pub was_high : raw ≡ 15 → s.cur_min + 15 ≤ get_or (state_of s regs aux).regs i 0
  was_high e = omega (arith, nibble_is, floor)

  at_low : raw ≡ 0 → get_or (state_of s regs aux).regs i 0 ≡ s.cur_min
  at_low z = omega (arith, nibble_is, floor)

  pub num_some : raw ≡ 0 → 0 < s.num_at_cur_min
  num_some z = omega (arith, h.tally, count_left low a.regs i v place_inside (at_low z) (let r = p.rises in let f = floor in omega arith))

  tally' : (num : ℕ) → num ≡ pick (eqb raw 0) (s.num_at_cur_min - 1) s.num_at_cur_min → num ≡ count_of s.cur_min (set (state_of s regs aux).regs i v)
  tally' num e = go (ℕ_discrete raw 0)
    where
      off : v ≡ s.cur_min → ⊥
      off q = let r = p.rises in let f = floor in omega arith

      go : Dec (raw ≡ 0) → num ≡ count_of s.cur_min (set (state_of s regs aux).regs i v)
      go (yes z) =
          let q : num ≡ s.num_at_cur_min - 1 = e ∙ ap (λ (b : Bool). pick b (s.num_at_cur_min - 1) s.num_at_cur_min) (eq-eqb raw 0 z) in
          omega (arith, h.tally, count_left low a.regs i v place_inside (at_low z) off)
      go (no z) =
          e ∙ ap (λ (b : Bool). pick b (s.num_at_cur_min - 1) s.num_at_cur_min) (ne_eqb raw 0 z) ∙ h.tally
          ∙ sym (count_same low a.regs i v (λ y. z (nibble_is ∙ omega arith)) off)

  -- at each slot: the new value at i, else the old one
  pub place_each : (P : ℕ → ℕ → Type 0) → P i v → ((j : ℕ) → j < length (state_of s regs aux).regs → (j ≡ i → ⊥) → P j (get_or (state_of s regs aux).regs j 0))
      → (j : ℕ) → j < length (set (state_of s regs aux).regs i v) → P j (get_or (set (state_of s regs aux).regs i v) j 0)
  place_each P new old j l = go (ℕ_discrete j i)
    where
      go : Dec (j ≡ i) → P j (get_or (set (state_of s regs aux).regs i v) j 0)
      go (yes e) = subst (λ (n : ℕ). P n (get_or (set a.regs i v) n 0)) (sym e) (subst (P i) (sym (get_or-set_same a.regs i v 0 place_inside)) new)
      go (no e) = subst (P j) (sym (get_or-set_other a.regs i j v 0 e)) (old j (rw length-set at l) e)

  pub put_slots : (x : ℕ) (regs' : List ℕ) → x ≡ nibble s.cur_min v → Put 4 regs i x regs'
      → (j : ℕ) → j < length (set (state_of s regs aux).regs i v) → slot_at 4 regs' j ≡ nibble s.cur_min (get_or (set (state_of s regs aux).regs i v) j 0)
  put_slots x regs' e put = place_each (λ j y. slot_at 4 regs' j ≡ nibble low y) (put_same put ∙ e) (λ j k n. put_other put j n ∙ h.slots j k)

  -- all that is the same in each case
  pub place_build : (num count : ℕ) (u regs' aux' : List ℕ) → TableAt (base_for s.lg_k) s.cur_min (set (state_of s regs aux).regs i v) u
      → num ≡ pick (eqb raw 0) (s.num_at_cur_min - 1) s.num_at_cur_min → count ≡ used u → length regs' ≡ length regs
      → ((j : ℕ) → j < length (set (state_of s regs aux).regs i v) → slot_at 4 regs' j ≡ nibble s.cur_min (get_or (set (state_of s regs aux).regs i v) j 0)) → length u ≤ length aux' → aux' ≡ laid (length aux') u
      → Holds s.lg_k (state (raise (state_of s regs aux).regs i v) u) (sketch_of s.kind s.lg_k s.cur_min num count) regs' aux'
  place_build num count u regs' aux' t n c l sl f ar =
      subst (λ (R : List ℕ). Holds s.lg_k (state R u) (sketch_of s.kind s.lg_k s.cur_min num count) regs' aux') (raise_up a.regs i v p.rises) (record {
        kind = h.kind;
        size = refl;
        low = h.low;
        high = h.high;
        many = length-set a.regs i v ∙ h.many;
        long = ap (λ (n : ℕ). 2 * n) l ∙ h.long ∙ sym (length-set a.regs i v);
        floor = place_each (λ j x. low ≤ x) value_above (λ j k e. h.floor j k);
        small = place_each (λ j x. x ≤ 63) (omega (arith, p.small)) (λ j k e. h.small j k);
        table = t;
        tally = tally' num n;
        counted = c;
        slots = sl;
        fits = f;
        area = ar;
      })

  -- ---- no exception, before or after
  pub placed_plain : v < s.cur_min + 15 → (num : ℕ) (regs' : List ℕ) → num ≡ pick (eqb raw 0) (s.num_at_cur_min - 1) s.num_at_cur_min → Put 4 regs i (v - s.cur_min) regs'
      → Placed (put_of s regs aux i v) (Some (sketch_of s.kind s.lg_k s.cur_min num s.aux_count)) s regs aux regs' aux
  unfolding put4
  placed_plain k num regs' e put =
      rw (lt-ltb v (low + 15) k) (
        refl,
        place_build num s.aux_count a.table regs' aux (move_plain i v ok h.table place_inside p.rises p.small k) e h.counted put.long
            (put_slots (v - low) regs' (let f = value_above in omega arith) put) h.fits h.area,
      )
