-- A word in a window, by each way it can go. Assumes nothing.
use Rattle.std.specs.Prelude.{None, Some, Ok, Err}
use mathlib.Core.Path.{◌≡◌, refl, sym, ◌∙◌, ap}
use mathlib.Core.Bool.{Bool, true, false}
use mathlib.Core.List.{List}
use Prim.Native.Nat.{ℕ, ◌+◌, ◌/◌, ◌%◌, ◌≤◌, ◌<◌}
use native.Mathlib.Decide.{ℕ_discrete}
use native.Mathlib.Omega.{arith}
use lib.Dec.{eqb}
use borrow.Author.Tests.{le-leb, lt-leb, eq-eqb, ne_eqb}
use Rattle.model.specs.Pick.{pick}
use Rattle.model.specs.Coupon.{value, home, is_empty}
use Rattle.model.specs.Packed.{slot_at, Put}
use Rattle.model.specs.Faults.{lists}
use Rattle.model.proofs.packing.Packing.{put_same, put_other}
use Rattle.model.proofs.table.FirstLaws.{true_not_false}
use Rattle.image_header.specs.declared.Header.{Header}
use Rattle.image_faults.specs.declared.Fault.{Fault}
use Rattle.image_faults.specs.declared.Fault.TheVariants.{Empty, Twice, Low}
use Rattle.image_faults.specs.Windows.{slots, bit, no_of, fault_by, Turned}

module _ (h : Header) (b : ℕ) (g : ℕ → ℕ) (marks : List ℕ) (w : ℕ) where
  wrong : (e : Fault) → no_of (Some e) ≡ fault_by h b (bit marks (home (slots h) w % 524288)) w → (exit : List ℕ) → Turned h b g marks w (Err e) exit
  wrong e says exit = record { says = says; taken = tt }

  pub turn_empty : is_empty w ≡ true → h.compact ≡ true → (exit : List ℕ) → Turned h b g marks w (Err Empty) exit
  unfolding fault_by
  turn_empty e c = wrong Empty (rw (e, c) refl)

  pub turn_passed : is_empty w ≡ true → h.compact ≡ false → Turned h b g marks w (Ok None) marks
  unfolding fault_by lists
  turn_passed e c = record {
    says = rw (e, c) refl;
    taken = record { counted = rw e refl; even = λ y some. absurd (true_not_false e some); marked = λ s l. rw e refl };
  }

  module _ (some : is_empty w ≡ false) (at : ℕ) (is : at ≡ home (slots h) w) where
    not_listed : (s : ℕ) → (s ≡ at → ⊥) → lists (slots h) s w ≡ false
    unfolding lists
    not_listed s d = rw (some, ne_eqb (home (slots h) w) s (λ e. d (sym (is ∙ e)))) refl

    pub turn_other : (at / 524288 ≡ b → ⊥) → Turned h b g marks w (Ok (Some true)) marks
    unfolding fault_by
    turn_other d = record {
      says = rw (some, ← is, ne_eqb (at / 524288) b d) refl;
      taken = record {
        counted = rw some refl;
        even = λ y x e. absurd (d (ap (λ (n : ℕ). n / 524288) is ∙ e));
        marked = λ s l. sym (ap (λ (t : Bool). pick t true (bit marks (s % 524288))) (not_listed s (λ e. d (ap (λ (n : ℕ). n / 524288) (sym e) ∙ l))));
      };
    }

    module _ (here : at / 524288 ≡ b) where
      pub turn_twice : bit marks (at % 524288) ≡ true → (exit : List ℕ) → Turned h b g marks w (Err Twice) exit
      unfolding fault_by
      turn_twice e = wrong Twice (rw (some, ← is, eq-eqb (at / 524288) b here, e) refl)

      module _ (new : bit marks (at % 524288) ≡ false) where
        pub turn_low : value w < h.cur_min + 15 → (exit : List ℕ) → Turned h b g marks w (Err Low) exit
        unfolding fault_by
        turn_low l = wrong Low (rw (some, ← is, eq-eqb (at / 524288) b here, new, lt-leb (h.cur_min + 15) (value w) l) refl)

        pub turn_new : h.cur_min + 15 ≤ value w → (exit : List ℕ) → Put 1 marks (at % 524288) 1 exit → {t : Bool} → (t ≡ true → g at ≡ 15) → Turned h b g marks w (Ok (Some t)) exit
        unfolding fault_by lists
        turn_new l exit put full = record {
          says = rw (some, ← is, eq-eqb (at / 524288) b here, new, le-leb (h.cur_min + 15) (value w) l) refl;
          taken = record { counted = rw some refl; even = λ y x e. ap g (sym is) ∙ full y; marked = λ s e. go s e (ℕ_discrete s at) };
        }
          where
            go : (s : ℕ) → s / 524288 ≡ b → Dec (s ≡ at) → bit exit (s % 524288) ≡ pick (lists (slots h) s w) true (bit marks (s % 524288))
            go s e (yes q) =
                let z : slot_at 1 exit (s % 524288) ≡ 1 = ap (λ (n : ℕ). slot_at 1 exit (n % 524288)) q ∙ put_same put in
                eq-eqb (slot_at 1 exit (s % 524288)) 1 z ∙ rw (some, eq-eqb (home (slots h) w) s (sym (q ∙ is))) refl
            go s e (no q) =
                ap (λ (n : ℕ). eqb n 1) (put_other put (s % 524288) (λ d. q (omega arith)))
                ∙ sym (ap (λ (t : Bool). pick t true (bit marks (s % 524288))) (not_listed s q))
