-- The rises one by one: what is left of them gives the settled state. Assumes nothing.
use mathlib.Core.Path.{◌≡◌, sym, ◌∙◌, ap, subst}
use mathlib.Core.List.{List}
use Prim.Native.Nat.{ℕ, suc}
use native.Mathlib.Nat.{pos_of_ne-zero}
use Rattle.model.specs.Registers.{least}
use Rattle.model.specs.Table.{base_for}
use Rattle.model.specs.Four.{State, settled, risen}
use Rattle.model.specs.Calls.{state_of}
use Rattle.model.specs.declared.Sketch.{Sketch}
use Rattle.model.proofs.registers.Lowest.{at_least}
use Rattle.model.proofs.four.Stepping.{settled_stay, settled_rise}
use Rattle.array4.specs.Held.{Holds, Rests}
use Rattle.array4.specs.Rise.{Rose}
use Rattle.array4.proofs.Holding.{holds_sized, holds_state}
use Rattle.array4.proofs.Rising.{rise_under}

-- a state is held, and its rises lead to b
pub record Settling (lgk : ℕ) (b : State) (s : Sketch) (regs aux : List ℕ) : Type 0 where
  pub state : State
  pub holds : Holds lgk state s regs aux
  pub going : b ≡ settled (base_for lgk) s.cur_min state.regs state.table

module _ {lgk : ℕ} {b : State} {s : Sketch} {regs aux : List ℕ} (st : Settling lgk b s regs aux) where
  pub settling_more : s.num_at_cur_min ≡ 0 → {s' : Sketch} {regs' aux' : List ℕ} → Rose s.lg_k s.cur_min (state_of s regs aux) s' regs' aux'
      → Settling lgk b s' regs' aux'
  settling_more z {s'} {regs'} {aux'} rose =
      let r : Rose lgk s.cur_min st.state s' regs' aux' = subst (λ (k : ℕ). Rose k s.cur_min st.state s' regs' aux') st.holds.size
      (subst (λ (a : State). Rose s.lg_k s.cur_min a s' regs' aux') (holds_state st.holds) rose) in
      record {
        state = _;
        holds = r.holds;
        going = st.going ∙ settled_rise (base_for lgk) s.cur_min st.state.regs st.state.table (rise_under st.holds z)
            ∙ ap (λ (n : ℕ). settled (base_for lgk) n st.state.regs (risen (base_for lgk) (suc s.cur_min) st.state.table)) (sym r.next);
      }

  pub settling_end : (s.num_at_cur_min ≡ 0 → ⊥) → Rests lgk b s regs aux
  settling_end n = record { holds = subst (λ (x : State). Holds lgk x s regs aux) (sym is) st.holds; rest = low ∙ ap (λ (x : State). least x.regs) (sym is) }
    where
      low : s.cur_min ≡ least st.state.regs
      low =
          at_least st.state.regs s.cur_min (holds_sized st.holds).some st.holds.small st.holds.floor
          (pos_of_ne-zero (λ z. n (st.holds.tally ∙ z)))

      is : b ≡ st.state
      is = st.going ∙ settled_stay (base_for lgk) s.cur_min st.state.regs st.state.table low
