-- `merge_job::read_front` meets its contract. Assumes nothing.
use Rattle.model.proofs.calls.Refusals.{handed_on}
use Rattle.merge_job.proofs.Filed.{front_long, front_header}
use Rattle.merge_job.proofs.read_front.Goals as goal

pub returns-then-image-gt-LONGEST-clause-answer : goal.returns-then-image-gt-LONGEST-clause-answer
returns-then-image-gt-LONGEST-clause-answer c = front_long _ c.if-image-gt-LONGEST.true

pub returns-in_err-read-clause-answer : goal.returns-in_err-read-clause-answer
returns-in_err-read-clause-answer c = rw (handed_on c.from_residual.result c.from_residual.ensures.1) (front_header _ c.if-image-gt-LONGEST.false c.in_err-read.ensures.answer)

pub returns-clause-answer : goal.returns-clause-answer
returns-clause-answer c = front_header _ c.if-image-gt-LONGEST.false c.in_ok-read.ensures.answer
