-- `station_routes::image_of` meets its contract: the buffer is as long as the image. Assumes nothing.
use mathlib.Core.Path.{refl, ap, ◌∙◌}
use Rattle.std.specs.Prelude.{Ok}
use Rattle.model.specs.Image.{Written}
use Rattle.station_routes.proofs.Given.{wrote_some}
use Rattle.station_routes.proofs.Journeys.{image_goes, image_whole}
use Rattle.station_routes.proofs.image_of.Goals as goal

pub returns-in_err-write : goal.returns-in_err-write
returns-in_err-write c = λ got h. absurd (wrote_some _ _ c.in_err-write.was (ap (λ (w : Written). w.no) c.write.ensures ∙ image_goes _ h refl))

pub returns : goal.returns
returns c = λ got h. ap Ok (ap (λ (w : Written). w.out) (rw c.in_ok-write.was at c.write.ensures) ∙ image_whole _ h refl)
