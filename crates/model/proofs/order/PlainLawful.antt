-- Kinds 6 and 8 owe nothing: all their laws together. Assumes nothing.
use mathlib.Core.Path.{◌≡◌, refl, sym, ◌∙◌, subst}
use mathlib.Core.Bool.{true}
use mathlib.Core.List.{List}
use Prim.Native.Nat.{ℕ, ◌^◌}
use native.Mathlib.Omega.{arith}
use borrow.Author.Tests.{ne_eqb}
use Rattle.model.specs.Coupon.{value, home}
use Rattle.model.specs.Registers.{raise}
use Rattle.model.specs.Steps.{went}
use Rattle.model.specs.Four.{State, state}
use Rattle.model.specs.Sketch.{is_kind, record_of, stored, area_of, table_in}
use Rattle.model.specs.Calls.{state_of, step_of}
use Rattle.model.proofs.registers.Raising.{length_raise, raise_small}
use Rattle.model.proofs.order.Sound.{Sound, Has, Lawful}
use Rattle.model.proofs.order.Plain.{plain_long, plain_kept, plain_tells}

module _ (kind : ℕ) (is : is_kind kind ≡ true) (not_4 : kind ≡ 4 → ⊥) where
  -- the next state
  abbrev next : ℕ → State → ℕ → State
  next lgk a c = state (raise a.regs (home (2 ^ lgk) c) (value c)) a.table

  steps : (lgk room : ℕ) (a : State) (c : ℕ) → step_of kind lgk room a c ≡ went (next lgk a c)
  unfolding step_of
  steps lgk room a c = rw (ne_eqb kind 4 not_4)

  pub plain_lawful : Lawful kind
  unfolding area_of state_of table_in
  plain_lawful = record {
    kept = λ lgk a aux lo hi h.
        rw (ne_eqb kind 4 not_4)
        (subst (λ (t : List ℕ). Has kind lgk (state a.regs t) (record_of kind lgk a.regs) (stored kind lgk a.regs) aux) (sym (h.none not_4))
        (plain_kept kind lgk a.regs aux is not_4 lo hi h.long h.small));
    sound = λ s regs aux e g. record {
      long = plain_long s regs aux (λ q. not_4 (sym e ∙ q));
      small = g.small;
      table = λ q. absurd (not_4 q);
      fits = λ q. absurd (not_4 q);
      none = λ q. rw (ne_eqb s.kind 4 (λ z. not_4 (sym e ∙ z)));
    };
    goes = λ lgk room a b c lo hi h e. let q : next lgk a c ≡ b = cc (steps lgk room a c) in
        subst (λ (x : State). Sound kind lgk room x × (x.regs ≡ raise a.regs (home (2 ^ lgk) c) (value c))) q (
          record {
            long = length_raise a.regs (home (2 ^ lgk) c) (value c) ∙ h.long;
            small = raise_small a.regs (home (2 ^ lgk) c) (value c) (omega arith) h.small;
            table = λ q. absurd (not_4 q);
            fits = λ q. absurd (not_4 q);
            none = h.none;
          },
          refl,
        );
    stops = λ lgk room a c lo hi h e. let z : ◌≡◌ {A = ℕ} 0 1 = cc (steps lgk room a c) in absurd (omega arith);
    stops_only = λ lgk room a c lo hi h e. absurd (not_4 e);
    tells = λ s regs aux e. plain_tells s regs aux (λ q. not_4 (sym e ∙ q));
  }
