-- `image_write::write` meets its contract: the checks, then OUT, then the image of a sketch in good order. Assumes nothing.
use mathlib.Core.Path.{◌≡◌, sym, ap, ◌∙◌}
use Prim.Native.Nat.{ℕ}
use native.Mathlib.Omega.{arith}
use lib.ListN.{length}
use Rattle.std.specs.Prelude.{Result}
use Rattle.model.specs.Sketch.{registers}
use Rattle.model.specs.Calls.{Summed}
use Rattle.model.specs.Image.{image_in, wrote_out}
use Rattle.model.specs.declared.Refusal.{Refusal}
use Rattle.model.proofs.calls.Refusals.{refusal_some, handed_on}
use Rattle.model.proofs.calls.Has.{checked_good}
use Rattle.sums.specs.Tally.{summed, sums_for}
use Rattle.block_counts.proofs.Turns.{good_few}
use Rattle.image_write.proofs.Outcomes.{write_no_lem, write_out, write_ok}
use Rattle.image_write.proofs.write.Goals as goal
use Rattle.image_write.proofs.write.Goals.{After-image_len-len}

-- the length, of the sketch as it came
long : (c : After-image_len-len) → let a = c.args in c.image_len-len.result ≡ length (image_in a.sketch a.regs.now a.aux.now)
long c = let is = c.in_ok-held.ensures.ok in rw (is.sketch_is, is.regs_are, is.aux_are) at c.image_len-len.ensures

pub returns-in_err-held : goal.returns-in_err-held
returns-in_err-held c =
    ap (λ (r : Result ℕ Refusal). wrote_out r c.args.out.now) (handed_on _ c.from_residual.ensures.1) ∙ write_no_lem _ _ _ _ c.in_err-held.ensures.answer (refusal_some _)

pub returns-then-out-len : goal.returns-then-out-len
returns-then-out-len c =
    let long = long (goal.at.returns-then-out-len c).After-image_len-len in write_out _ _ _ _ (sym c.in_ok-held.ensures.answer) (omega (arith, long))

pub from_counts-sums-requires : goal.from_counts-sums-requires
from_counts-sums-requires c = good_few _ _ _ (checked_good c.in_ok-held.held) c.counts.ensures

pub write_image-requires : goal.write_image-requires
write_image-requires c =
    let h = c.in_ok-held.held in
    let summed_is : summed c.from_counts-sums.result ≡ sums_for (registers h.sketch h.regs.now h.aux.now) =
    c.from_counts-sums.ensures _ c.counts.ensures in
    record {
      low = ap (λ (s : Summed). s.low) summed_is;
      high = ap (λ (s : Summed). s.high) summed_is;
      room = omega (arith, c.image_len-len.ensures);
    }

pub returns : goal.returns
returns c =
    let is = c.in_ok-held.ensures.ok in
    let len = long (goal.at.returns c).After-image_len-len in
    write_ok _ _ _ _ (sym c.in_ok-held.ensures.answer) (omega (arith, len)) len (rw (is.sketch_is, is.regs_are, is.aux_are) at c.write_image.ensures)
