-- One coupon, in record, bytes and area: what `update` hands to its parts, and what each way out leaves. Assumes nothing.
use mathlib.Core.Path.{◌≡◌, refl, sym, ◌∙◌, ap, ap₂, subst, subst₂}
use mathlib.Core.Bool.{Bool}
use Rattle.std.specs.Prelude.{Some, None}
use mathlib.Core.List.{List}
use Prim.Native.Nat.{ℕ, ◌+◌, ◌*◌, ◌^◌, ◌≤◌, ◌<◌}
use native.Mathlib.Nat.{mod-lt}
use native.Mathlib.Omega.{arith}
use lib.ListN.{length, get_or}
use borrow.Author.Tests.{le-leb, lt-leb}
use Rattle.model.specs.Pick.{pick}
use Rattle.model.specs.Coupon.{slot, value, home}
use Rattle.model.specs.Registers.{least}
use Rattle.model.specs.Packed.{slot_at}
use Rattle.model.specs.Table.{base_for, table_size, Room}
use Rattle.model.specs.Steps.{Step, went, stopped, on_went}
use Rattle.model.specs.Four.{State, value_at, put4, step4, settled}
use Rattle.model.specs.Sketch.{table_in}
use Rattle.model.specs.Calls.{state_of}
use Rattle.model.specs.declared.Sketch.{Sketch}
use Rattle.model.proofs.table.Shape.{shape_size}
use Rattle.aux_map.proofs.Bases.{based}
use Rattle.aux_table.proofs.Requires.{find_met}
use Rattle.array4.specs.Held.{Holds, Held, Rests}
use Rattle.array4.specs.Rise.{settled_of}
use Rattle.array4.specs.Update.{Readable, Placeable, Placed, Untouched, Resting, Stepped, put_of}
use Rattle.array4.proofs.Holding.{holds_sized, holds_few, holds_most, holds_table, holds_value, holds_state, holds_held}

-- what a value put tells, by its answer
placed_went : (q : Step State) (s : Sketch) (regs aux : List ℕ) (s' : Sketch) (regs' aux' : List ℕ) → Placed q (Some s') s regs aux regs' aux'
    → (b : State) × (q ≡ went b) × (s'.cur_min ≡ s.cur_min) × Holds s.lg_k b s' regs' aux'
placed_went (went b) s regs aux s' regs' aux' h = (b, refl, h.0, h.1)
placed_went stopped s regs aux s' regs' aux' h = absurd h

placed_stopped : (q : Step State) (s : Sketch) (regs aux regs' aux' : List ℕ) → Placed q None s regs aux regs' aux' → (q ≡ stopped) × Untouched regs aux regs' aux'
placed_stopped (went b) s regs aux regs' aux' h = absurd h
placed_stopped stopped s regs aux regs' aux' h = (refl, h)

module _ {s : Sketch} {regs aux scratch : List ℕ} (r : Resting s regs aux scratch) (c v : ℕ) (ev : v ≡ value c) where
  abbrev a : State
  a = state_of s regs aux

  h : Holds s.lg_k (state_of s regs aux) s regs aux
  h = r.rests.holds

  home_in : home (length (state_of s regs aux).regs) c < length (state_of s regs aux).regs
  home_in = mod-lt (slot c) (holds_sized r.rests.holds).some

  -- no effect
  same : value c ≤ get_or (state_of s regs aux).regs (home (length (state_of s regs aux).regs) c) 0 → Stepped (step4 (base_for s.lg_k) (length aux) (state_of s regs aux) c) (Some s) s regs aux regs aux
  unfolding step4
  same l = rw (le-leb (value c) (get_or a.regs (home (length a.regs) c) 0) l) r.rests

  pub same_low : v ≤ s.cur_min → Stepped (step4 (base_for s.lg_k) (length aux) (state_of s regs aux) c) (Some s) s regs aux regs aux
  same_low l = same (omega (arith, ev, h.floor _ home_in))

  module _ (i : ℕ) (ei : i ≡ home (2 ^ s.lg_k) c) where
    i_is : i ≡ home (length (state_of s regs aux).regs) c
    i_is = ei ∙ ap (λ (k : ℕ). home k c) (sym h.many)

    inside : i < length (state_of s regs aux).regs
    inside = subst (λ (n : ℕ). n < length a.regs) (sym i_is) home_in

    pub slot_in : i < 2 * length regs
    slot_in = omega (arith, inside, h.long)

    module _ (raw : ℕ) (er : raw ≡ slot_at 4 regs i) where
      same_at : v ≤ get_or (state_of s regs aux).regs i 0 → Stepped (step4 (base_for s.lg_k) (length aux) (state_of s regs aux) c) (Some s) s regs aux regs aux
      same_at l = same (subst₂ (λ (x n : ℕ). x ≤ get_or a.regs n 0) ev i_is l)

      pub same_raw : v ≤ raw + s.cur_min → Stepped (step4 (base_for s.lg_k) (length aux) (state_of s regs aux) c) (Some s) s regs aux regs aux
      same_raw l = same_at (omega (arith, er, h.slots i inside, h.floor i inside))

      pub readable : Readable s aux raw
      readable = record {
        kind = h.kind;
        low = h.low;
        high = h.high;
        few = holds_few h;
        most = holds_most h;
        fits = omega (arith, ap (table_size (base_for s.lg_k)) h.counted, shape_size h.table.shape, h.fits);
        room = λ l. subst Room (sym (holds_table h))
            (find_met (base_for s.lg_k) s.cur_min a.regs a.table (based s.lg_k (omega (arith, h.low)) (omega (arith, h.high))) (omega (arith, (holds_sized h).few)) h.table i inside
            (omega (arith, er, h.slots i inside, h.floor i inside)));
      }

      module _ (old : ℕ) (eo : old ≡ value_at s.cur_min (table_in s aux) raw i) where
        old_is : old ≡ get_or (state_of s regs aux).regs i 0
        old_is = eo ∙ holds_value h i raw slot_in er

        pub same_old : v ≤ old → Stepped (step4 (base_for s.lg_k) (length aux) (state_of s regs aux) c) (Some s) s regs aux regs aux
        same_old l = same_at (omega (arith, old_is))

        module _ (l : old < v) where
          pub placeable : v < 64 → Placeable s regs aux scratch i raw v
          placeable k = record { held = record { holds = h; spare = r.spare }; inside = slot_in; read = er; rises = omega (arith, old_is); small = k }

          -- the step is the value put, and the rises
          step_is : (q : Step State) → put_of s regs aux i v ≡ q → step4 (base_for s.lg_k) (length aux) (state_of s regs aux) c ≡ on_went (λ b. settled (base_for s.lg_k) s.cur_min b.regs b.table) q
          unfolding step4
          step_is q e =
              ap (λ (b : Bool). pick b (went a) (rises (least a.regs) (home (length a.regs) c) (value c))) (lt-leb (value c) (get_or a.regs (home (length a.regs) c) 0) above)
              ∙ ap₂ (rises (least a.regs)) (sym i_is) (sym ev)
              ∙ ap (λ (n : ℕ). rises n i v) (sym r.rests.rest)
              ∙ ap (on_went (λ d. settled (base_for s.lg_k) s.cur_min d.regs d.table)) e
            where
              rises : ℕ → ℕ → ℕ → Step State
              rises n j x = on_went (λ d. settled (base_for s.lg_k) n d.regs d.table) (put4 (base_for s.lg_k) (length aux) n (state_of s regs aux).regs (state_of s regs aux).table j x)

              above : get_or (state_of s regs aux).regs (home (length (state_of s regs aux).regs) c) 0 < value c
              above = subst₂ (λ (n x : ℕ). get_or a.regs n 0 < x) i_is ev (omega (arith, old_is))

          pub refused : (regs' aux' : List ℕ) → Placed (put_of s regs aux i v) None s regs aux regs' aux' → Stepped (step4 (base_for s.lg_k) (length aux) (state_of s regs aux) c) None s regs aux regs' aux'
          refused regs' aux' pl =
              let q = placed_stopped (put_of s regs aux i v) s regs aux regs' aux' pl in
              subst (λ (t : Step State). Stepped t None s regs aux regs' aux') (sym (step_is stopped q.0)) q.1

          module _ (s' : Sketch) (regs' aux' : List ℕ) (pl : Placed (put_of s regs aux i v) (Some s') s regs aux regs' aux') where
            pub holding : (scratch' : List ℕ) → length aux' ≤ length scratch' → Held s' regs' aux' scratch'
            holding scratch' k = holds_held (placed_went (put_of s regs aux i v) s regs aux s' regs' aux' pl).3 scratch' k

            pub stepped : {s'' : Sketch} {regs'' aux'' : List ℕ} → Rests s'.lg_k (settled_of s' regs' aux') s'' regs'' aux''
                → Stepped (step4 (base_for s.lg_k) (length aux) (state_of s regs aux) c) (Some s'') s regs aux regs'' aux''
            stepped {s''} {regs''} {aux''} rests =
                let q = placed_went (put_of s regs aux i v) s regs aux s' regs' aux' pl in
                subst (λ (t : Step State). Stepped t (Some s'') s regs aux regs'' aux'') (sym (step_is (went q.0) q.1))
                (subst₂ (λ (k n : ℕ). Rests k (settled (base_for k) n q.0.regs q.0.table) s'' regs'' aux'') q.3.size q.2
                (subst (λ (x : State). Rests s'.lg_k (settled (base_for s'.lg_k) s'.cur_min x.regs x.table) s'' regs'' aux'') (holds_state q.3) rests))
