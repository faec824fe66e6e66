-- start, then feed, into memory with room for any exceptions: neither is refused, and what they leave stands. Assumes nothing.
use mathlib.Core.Path.{◌≡◌, ap, ◌∙◌}
use mathlib.Core.List.{List, []}
use Prim.Native.Nat.{ℕ, ◌*◌, ◌^◌, ◌≤◌}
use native.Mathlib.Omega.{arith}
use lib.ListN.{length, replicate, length-replicate}
use Rattle.std.specs.Prelude.{Result, Ok, IsOk}
use Rattle.model.specs.Sketch.{Shaped}
use Rattle.model.specs.Calls.{Out, made_out, fed_out, start_of, feed_of}
use Rattle.model.specs.History.{Stands}
use Rattle.model.specs.Claims.{Scratch}
use Rattle.model.specs.declared.Sketch.{Sketch}
use Rattle.model.specs.declared.Refusal.{Refusal}
use Rattle.model.specs.declared.Fed.{Fed}
use Rattle.model.specs.declared.Stopped.{Stopped}
use Rattle.station_routes.specs.Routes.{Roomy}
use Rattle.station_routes.proofs.Given.{kept_ok, fed_ok}
use Rattle.station_routes.proofs.Histories.{start_goes, stands_start, feed_goes, stands_feed}

module _ {kind lgk n m : ℕ} (room : Roomy kind lgk n m) (made : Result Sketch Refusal) (regs aux : List ℕ)
    (e : made_out made regs aux ≡ start_of kind lgk (replicate n 7) (replicate m 9)) where
  shaped : Shaped kind lgk (length (replicate {A = ℕ} n 7))
  shaped = rw (length-replicate {A = ℕ} n 7) room.shaped

  pub starts : IsOk made
  starts = kept_ok _ made regs aux (ap (λ (o : Out). o.no) e ∙ start_goes _ _ _ _ e shaped)

  module _ (wide : length aux ≡ length (replicate {A = ℕ} m 9)) {s : Sketch} (is : made ≡ Ok s) (fed : Result Fed Stopped) (regs' aux' cs : List ℕ)
      (f : fed_out fed regs' aux' ≡ feed_of s regs aux (replicate m 5) cs) where
    empty : Stands kind lgk [] s regs aux
    empty = stands_start _ _ _ _ (rw is at e) shaped

    much : kind ≡ 4 → 2 * 2 ^ lgk ≤ length aux
    much q = omega (arith, room.room q, length-replicate {A = ℕ} m 9)

    lent : Scratch kind aux (replicate m 5)
    lent q = omega (arith, length-replicate {A = ℕ} m 9, length-replicate {A = ℕ} m 5)

    pub goes : IsOk fed
    goes = fed_ok fed regs' aux' (ap (λ (o : Out). o.no) f ∙ feed_goes _ _ f empty much lent)

    pub stands : {x : Fed} → fed ≡ Ok x → Stands kind lgk cs x.sketch regs' aux'
    stands q = stands_feed _ _ (rw q at f) empty much lent
