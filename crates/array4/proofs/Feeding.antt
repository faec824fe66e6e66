-- The batch: i coupons are taken, and what is left of it gives what the whole gives. Assumes nothing.
use mathlib.Core.Path.{◌≡◌, refl, sym, ◌∙◌, ap, ap₂, subst}
use Rattle.std.specs.Prelude.{Some, None}
use mathlib.Core.List.{List}
use Prim.Native.Nat.{ℕ, ◌+◌, ◌≤◌, ◌<◌}
use native.Mathlib.Omega.{arith}
use lib.ListN.{length, get_or, drop}
use Rattle.model.specs.Packed.{Bytes}
use Rattle.model.specs.Table.{base_for}
use Rattle.model.specs.Steps.{Step, went, stopped, Ran, ran}
use Rattle.model.specs.Four.{State, step4}
use Rattle.model.specs.Calls.{Out, out, kept_out, state_of, step_of, batch_of}
use Rattle.model.specs.declared.Sketch.{Sketch}
use Rattle.model.proofs.calls.Steps.{plus, ran_begin, ran_went, ran_stop, ran_end}
use Rattle.array4.specs.Held.{Rests}
use Rattle.array4.specs.Update.{Untouched, Resting, Stepped, Feedable}
use Rattle.array4.proofs.Holding.{holds_state, good_rests, good_bytes, rests_kept}

-- what one coupon tells, by its answer
stepped_went : (q : Step State) (s : Sketch) (regs aux : List ℕ) (s' : Sketch) (regs' aux' : List ℕ) → Stepped q (Some s') s regs aux regs' aux' → (b : State) × (q ≡ went b) × Rests s.lg_k b s' regs' aux'
stepped_went (went b) s regs aux s' regs' aux' h = (b, refl, h)
stepped_went stopped s regs aux s' regs' aux' h = absurd h

stepped_stopped : (q : Step State) (s : Sketch) (regs aux regs' aux' : List ℕ) → Stepped q None s regs aux regs' aux' → (q ≡ stopped) × Untouched regs aux regs' aux'
stepped_stopped (went b) s regs aux regs' aux' h = absurd h
stepped_stopped stopped s regs aux regs' aux' h = (refl, h)

-- what the whole batch leaves, in an area that is as long as aux
abbrev leaves : ℕ → List ℕ → Ran State → Out
leaves lgk aux q = kept_out q.no 4 lgk q.count q.state aux

pub record Feeding (lgk : ℕ) (a₀ : State) (aux₀ cs : List ℕ) (i : ℕ) (s : Sketch) (regs aux : List ℕ) : Type 0 where
  pub upto : i ≤ length cs
  pub state : State
  pub rests : Rests lgk state s regs aux
  pub bytes : Bytes regs
  pub wide : length aux ≡ length aux₀
  pub going : ran (step_of 4 lgk (length aux₀)) a₀ cs ≡ plus i (ran (step_of 4 lgk (length aux₀)) state (drop i cs))

pub feeding_none : {s : Sketch} {regs aux scratch : List ℕ} → Feedable s regs aux scratch → (cs : List ℕ) → Feeding s.lg_k (state_of s regs aux) aux cs 0 s regs aux
feeding_none {s} {regs} {aux} f cs = record {
  upto = omega arith;
  state = state_of s regs aux;
  rests = good_rests s regs aux f.kind f.good;
  bytes = good_bytes s regs aux f.kind f.good;
  wide = refl;
  going = ran_begin State (step_of 4 s.lg_k (length aux)) (state_of s regs aux) cs;
}

module _ {lgk : ℕ} {a₀ : State} {aux₀ cs : List ℕ} {i : ℕ} {s : Sketch} {regs aux : List ℕ} (f : Feeding lgk a₀ aux₀ cs i s regs aux) where
  pub feeding_resting : (scratch : List ℕ) → length aux ≤ length scratch → Resting s regs aux scratch
  feeding_resting scratch l = record {
    rests = subst (λ (k : ℕ). Rests k (state_of s regs aux) s regs aux) (sym f.rests.holds.size) (subst (λ (b : State). Rests lgk b s regs aux) (sym (holds_state f.rests.holds)) f.rests);
    spare = l;
  }

  module _ (l : i < length cs) where
    step_is : step4 (base_for s.lg_k) (length aux) (state_of s regs aux) (get_or cs i 0) ≡ step_of 4 lgk (length aux₀) f.state (get_or cs i 0)
    unfolding step_of
    step_is =
        ap (λ (k : ℕ). step4 (base_for k) (length aux) (state_of s regs aux) (get_or cs i 0)) f.rests.holds.size ∙ ap (λ (n : ℕ). step4 (base_for lgk) n (state_of s regs aux) (get_or cs i 0)) f.wide
        ∙ ap (λ (b : State). step4 (base_for lgk) (length aux₀) b (get_or cs i 0)) (holds_state f.rests.holds)

    pub feeding_more : (s' : Sketch) (regs' aux' : List ℕ) → Stepped (step4 (base_for s.lg_k) (length aux) (state_of s regs aux) (get_or cs i 0)) (Some s') s regs aux regs' aux' → Bytes regs' → length aux' ≡ length aux
        → Feeding lgk a₀ aux₀ cs (i + 1) s' regs' aux'
    feeding_more s' regs' aux' st by la =
        let q = stepped_went (step4 (base_for s.lg_k) (length aux) (state_of s regs aux) (get_or cs i 0)) s regs aux s' regs' aux' st in
        record {
          upto = omega arith;
          state = q.0;
          rests = subst (λ (k : ℕ). Rests k q.0 s' regs' aux') f.rests.holds.size q.2;
          bytes = by;
          wide = la ∙ f.wide;
          going = f.going ∙ ran_went State (step_of 4 lgk (length aux₀)) f.state q.0 cs i l (sym step_is ∙ q.1);
        }

    pub feeding_stop : (regs' aux' : List ℕ) → Stepped (step4 (base_for s.lg_k) (length aux) (state_of s regs aux) (get_or cs i 0)) None s regs aux regs' aux' → out 6 0 s i regs' aux' ≡ leaves lgk aux₀ (ran (step_of 4 lgk (length aux₀)) a₀ cs)
    feeding_stop regs' aux' st =
        let q = stepped_stopped (step4 (base_for s.lg_k) (length aux) (state_of s regs aux) (get_or cs i 0)) s regs aux regs' aux' st in
        ap₂ (λ (x y : List ℕ). out 6 0 s i x y) q.1.regs_are q.1.aux_is
        ∙ rests_kept f.rests f.bytes 6 i aux₀ f.wide
        ∙ ap (leaves lgk aux₀) (sym (f.going ∙ ran_stop State (step_of 4 lgk (length aux₀)) f.state cs i l (sym step_is ∙ q.0)))

  pub feeding_end : i ≡ length cs → out 0 0 s i regs aux ≡ leaves lgk aux₀ (ran (step_of 4 lgk (length aux₀)) a₀ cs)
  feeding_end e = rests_kept f.rests f.bytes 0 i aux₀ f.wide ∙ ap (leaves lgk aux₀) (sym (f.going ∙ ran_end State (step_of 4 lgk (length aux₀)) f.state cs i e))

-- which is the book's
pub feeding_is : (s : Sketch) (regs aux cs : List ℕ) → s.kind ≡ 4 → leaves s.lg_k aux (ran (step_of 4 s.lg_k (length aux)) (state_of s regs aux) cs) ≡ batch_of s regs aux cs
unfolding batch_of
feeding_is s regs aux cs e = ap (λ (kind : ℕ). let r = ran (step_of kind s.lg_k (length aux)) (state_of s regs aux) cs in kept_out r.no kind s.lg_k r.count r.state aux) (sym e)
