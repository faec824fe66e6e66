-- `image_faults::Image::window_in` meets its contract. Assumes nothing.
use native.Mathlib.Omega.{arith}
use Rattle.image_faults.proofs.Leasts.{view_looks}
use Rattle.image_faults.proofs.Image.window_in.Goals as goal

pub returns : goal.returns
returns c = view_looks c.pass-walk.ensures _ (omega (arith, c.min-end.ensures, c.slots.ensures)) c.unlike-slot.ensures
