-- `image_header::read` meets its contract: what was decoded is of an image that passed. Assumes nothing.
use mathlib.Core.Path.{sym}
use Rattle.model.proofs.image.Opens.{header_says}
use Rattle.image_header.proofs.read.Goals as goal

pub header_in-header-requires : goal.header_in-header-requires
header_in-header-requires c = ((header_says _).0 (sym c.in_ok-check.ensures)).0

pub invariant_of-result : goal.invariant_of-result
invariant_of-result c = record { headed = record { passed = sym c.in_ok-check.ensures; is = c.header_in-header.ensures } }
