-- Kind 4 owes nothing: all its laws together. Assumes nothing.
use mathlib.Core.Path.{refl}
use Rattle.model.specs.Calls.{step_of}
use Rattle.model.proofs.order.Sound.{Lawful}
use Rattle.model.proofs.four.Stepping.{four_step, four_no_room, four_stopped}
use Rattle.model.proofs.four.FourLaws.{four_kept, four_sound}
use Rattle.model.proofs.four.FourTells.{four_tells}

pub four_lawful : Lawful 4
unfolding step_of
four_lawful = record {
  kept = four_kept;
  sound = four_sound;
  goes = four_step;
  stops = λ lgk room a c lo hi h e. (refl, four_no_room lgk room a c lo hi h e);
  stops_only = λ lgk room a c lo hi h e n. four_stopped lgk room a c lo hi h n;
  tells = four_tells;
}
