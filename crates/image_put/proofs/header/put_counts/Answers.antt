-- `image_put::header::put_counts` meets its contract: two puts, one behind the other. Assumes nothing.
use mathlib.Core.Path.{sym, ap, ◌∙◌}
use native.Mathlib.Omega.{arith}
use Rattle.model.specs.Packed.{digits}
use Rattle.model.proofs.packing.Digits.{length_digits}
use Rattle.image_put.specs.Parts.{count_bytes}
use Rattle.image_put.proofs.Over.{next, over_pasted}
use Prim.Native.Nat.{◌+◌}
use Rattle.image_put.proofs.header.put_counts.Goals as goal

pub returns : goal.returns
unfolding count_bytes
returns c =
    next c.args.out.now 32 36 (digits 256 4 c.args.s.num_at_cur_min) (digits 256 4 c.args.s.aux_count)
    c.u32_bytes-num.ensures c.u32_bytes-count.ensures (c.put.ensures ∙ over_pasted _ _ _) (c.put-2.ensures ∙ over_pasted _ _ _) (ap (◌+◌ 32) (sym (length_digits 256 4 _))) (rw (length_digits 256 4 _) (omega (arith, c.requires)))
