-- `image_put::header::put_sums` meets its contract: two puts, one behind the other. Assumes nothing.
use mathlib.Core.Path.{sym, ap, ◌∙◌}
use native.Mathlib.Omega.{arith}
use lib.Ieee.{binary64, to_bits}
use Rattle.model.specs.Packed.{digits}
use Rattle.model.proofs.packing.Digits.{length_digits}
use Rattle.image_put.specs.Parts.{sum_bytes}
use Rattle.image_put.proofs.Over.{next, over_pasted}
use Prim.Native.Nat.{◌+◌}
use Rattle.image_put.proofs.header.put_sums.Goals as goal

pub returns : goal.returns
unfolding sum_bytes
returns c =
    next c.args.out.now 16 24 (digits 256 8 (to_bits binary64 c.args.sums.kxq0)) (digits 256 8 (to_bits binary64 c.args.sums.kxq1))
    c.f64_bytes-low.ensures c.f64_bytes-high.ensures (c.put.ensures ∙ over_pasted _ _ _) (c.put-2.ensures ∙ over_pasted _ _ _) (ap (◌+◌ 16) (sym (length_digits 256 8 _))) (rw (length_digits 256 8 _) (omega (arith, c.requires.room)))
