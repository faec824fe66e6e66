-- `packed::six::replaced` meets its contract: the exchange of a field, at 6 bits. Assumes nothing.
use native.Mathlib.Nat.{lt_of_le_of_lt, lt_of_lt_of_le}
use native.Mathlib.Omega.{arith}
use lib.Pow.{pow_mono, shl_lt}
use Rattle.model.proofs.packing.Packing.{old_le, exchange, exchange_lt}
use Rattle.packed.proofs.six.replaced.Goals as goal

pub raised-requires : goal.raised-requires
raised-requires c = (omega arith, rw (c.from-old.ensures, c.field.ensures) (lt_of_le_of_lt (old_le 6 _ _) c.ranges.window.fits))

pub overflow_sub-result : goal.overflow_sub-result
overflow_sub-result c = rw (c.raised.ensures, c.from-old.ensures, c.field.ensures) (old_le 6 _ _)

pub raised-requires-2 : goal.raised-requires-2
raised-requires-2 c =
    (omega arith, rw c.from.ensures (lt_of_lt_of_le (shl_lt 6 _ c.requires.1) (pow_mono {j = 16} (omega arith))))

pub overflow_add-result : goal.overflow_add-result
overflow_add-result c =
    record { fits = rw (c.raised-2.ensures, c.from.ensures, c.raised.ensures, c.from-old.ensures, c.field.ensures) (exchange_lt 6 _ 16 _ _ (omega arith) c.requires.1 c.ranges.window.fits) }

pub returns : goal.returns
returns c = rw (c.raised-2.ensures, c.from.ensures, c.raised.ensures, c.from-old.ensures, c.field.ensures) (exchange 6 _ 16 _ _)
