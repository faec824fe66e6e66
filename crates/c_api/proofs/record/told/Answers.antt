-- `c_api::record::told` meets its contract. Assumes nothing.
use mathlib.Core.Path.{sym, ap}
use Rattle.model.specs.Answers.{said_of}
use Rattle.c_api.proofs.record.told.Goals as goal

pub returns-in-Err : goal.returns-in-Err
returns-in-Err g c = rw (c.from.ensures, c.number.ensures, c.place.ensures) (ap said_of (sym c.in-Err.is))
