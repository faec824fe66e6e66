-- `station_routes::sent` meets its contract: write and open are the history's step `send`, and neither is refused. Assumes nothing.
use mathlib.Core.Path.{ap, ◌∙◌}
use native.Mathlib.Omega.{arith}
use Rattle.model.specs.Calls.{Out}
use Rattle.model.specs.Image.{Written}
use Rattle.station_routes.proofs.Given.{kept_some, wrote_some}
use Rattle.station_routes.proofs.Rooms.{room_four, room_image}
use Rattle.station_routes.proofs.Journeys.{write_goes, open_goes, stands_send}
use Rattle.station_routes.proofs.sent.Goals as goal

pub returns-in_err-write : goal.returns-in_err-write
returns-in_err-write c = λ got h.
    absurd (wrote_some _ _ c.in_err-write.was (ap (λ (w : Written). w.no) c.write.ensures ∙ write_goes _ h room_image))

pub returns-in_err-sketch : goal.returns-in_err-sketch
returns-in_err-sketch c = λ got h.
    absurd (kept_some _ _ _ _ c.in_err-sketch.was
    (ap (λ (o : Out). o.no) c.open.ensures ∙ open_goes _ h room_image _ _ _ (rw c.in_ok-write.was at c.write.ensures) room_four (λ q. omega arith)))

pub returns : goal.returns
returns c = λ got h.
    stands_send _ h room_image _ _ _ (rw c.in_ok-write.was at c.write.ensures) room_four (λ q. omega arith) (rw c.in_ok-sketch.was at c.open.ensures)
