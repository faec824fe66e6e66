-- What the batch asks, what each kind then asks, and what kinds 6 and 8 give. Assumes nothing.
use mathlib.Core.Path.{◌≡◌, refl, sym, ◌∙◌}
use mathlib.Core.List.{List, []}
use Prim.Native.Nat.{ℕ, ◌^◌}
use lib.ListN.{length}
use borrow.Author.Tests.{ne_eqb}
use Rattle.model.specs.Registers.{fed}
use Rattle.model.specs.Packed.{Bytes}
use Rattle.model.specs.Four.{state}
use Rattle.model.specs.Sketch.{area_of, registers, table_in, Good}
use Rattle.model.specs.Check.{scratch_fits, check_no}
use Rattle.model.specs.Calls.{out, kept_out, state_of, batch_of}
use Rattle.model.specs.declared.Sketch.{Sketch}
use Rattle.model.proofs.order.Tells.{tells_true}
use Rattle.model.proofs.order.Tests.{scratch_asks}
use Rattle.model.proofs.order.Lawful.{lawful}
use Rattle.model.proofs.order.Plain.{plain_cells}
use Rattle.model.proofs.calls.Ladder.{check_says}
use Rattle.model.proofs.calls.Rungs.{plain_area}
use Rattle.model.proofs.calls.Starting.{plain_ran}
use Rattle.model.proofs.calls.Has.{good_bytes, check_ok}
use Rattle.sketch_feed.specs.Asked.{Ready, Plain}
use Rattle.sketch_feed.specs.Given.{KeptAs}

-- a sketch that has passed its checks is ready
pub ready : (s : Sketch) (regs aux scratch : List ℕ) → check_no (scratch_fits s.kind (length aux) (length scratch)) s regs aux ≡ 0 → Bytes regs → Ready s regs aux scratch
ready s regs aux scratch e b = record { good = check_ok _ s regs aux b e; spare = scratch_asks _ _ _ ((check_says _ s regs aux).0 e).1.0 }

module _ (s : Sketch) (regs aux : List ℕ) (k : s.kind ≡ 4 → ⊥) where
  pub can_plain : Good s regs aux → Plain s regs
  can_plain g = record {
    not_4 = k;
    shaped = g.shaped;
    good = plain_area s regs [] aux k ∙ tells_true _ ((lawful s.kind g.shaped.kind_known).tells s regs aux refl g.shaped (good_bytes g)) g;
  }

  -- every coupon is taken
  pub all_taken : (cs : List ℕ) {r : Sketch} {after : List ℕ} → KeptAs s.kind s.lg_k (fed (2 ^ s.lg_k) (registers s regs []) cs) r after → out 0 0 r (length cs) after aux ≡ batch_of s regs aux cs
  unfolding batch_of kept_out state_of area_of
  all_taken cs q =
      let reads : registers s regs aux ≡ registers s regs [] = plain_cells s regs aux k ∙ sym (plain_cells s regs [] k) in
      rw (
        plain_ran s.kind s.lg_k (length aux) (state (registers s regs aux) (table_in s aux)) cs k,
        ne_eqb s.kind 4 k,
        reads,
        ← q.record_is,
        ← q.bytes_are,
      )
