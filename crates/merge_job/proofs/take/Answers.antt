-- `merge_job::take` meets its contract. Assumes nothing.
use mathlib.Core.Path.{◌≡◌, sym, ◌∙◌, ap}
use Rattle.model.proofs.calls.Refusals.{handed_on}
use Rattle.merge_job.specs.Merge.{front_no, file_no, take_of}
use Rattle.merge_job.proofs.Faults.{fault_some}
use Rattle.merge_job.proofs.Filed.{Fits, file_front, file_large, file_says}
use Rattle.merge_job.proofs.Joining.{take_refused, take_joined, large_is, small_is, size_room, size_same, lent}
use Rattle.merge_job.proofs.take.Goals as goal
use Rattle.merge_job.proofs.take.Goals.{In_ok-check_large}

-- ---- what is known where both have passed
is_passed : (c : In_ok-check_large) → file_no c.in_ok-image.image.bytes.now ≡ 0
is_passed c =
    let i = c.in_ok-image.image in
    sym (file_large i.bytes.now (ap front_no c.in_ok-image.ensures.ok ∙ sym c.in_ok-image.ensures.answer) (large_is i c.in_ok-check_large.ensures))

fits : (c : In_ok-check_large) → Fits c.in_ok-image.image.bytes.now
fits c = (file_says _).0 (is_passed c)

pub returns-in_err-image : goal.returns-in_err-image
returns-in_err-image c =
    rw (handed_on c.from_residual.result c.from_residual.ensures.1) (take_refused _ _ _ _ (file_front _ c.in_err-image.ensures.answer (fault_some _)))

pub returns-in_err-check_large : goal.returns-in_err-check_large
returns-in_err-check_large c =
    let i = c.in_ok-image.image in
    let front = ap front_no c.in_ok-image.ensures.ok ∙ sym c.in_ok-image.ensures.answer in
    rw (handed_on c.from_residual-in_err-check_large.result c.from_residual-in_err-check_large.ensures.1)
    (take_refused _ _ _ _ (file_large i.bytes.now front (large_is i c.in_err-check_large.ensures) ∙ ap file_no c.in_ok-image.ensures.ok))

pub bytes_of-n-requires : goal.bytes_of-n-requires
bytes_of-n-requires c = small_is c.in_ok-image.image (fits (goal.at.bytes_of-n-requires c).In_ok-check_large)

pub slice_bounds-regs-end : goal.slice_bounds-regs-end
slice_bounds-regs-end c = size_room c.in_ok-image.image (fits (goal.at.slice_bounds-regs-end c).In_ok-check_large) _ c.bytes_of-n.ensures

pub slice_bounds-join-end : goal.slice_bounds-join-end
slice_bounds-join-end c = size_same c.in_ok-image.image (fits (goal.at.slice_bounds-join-end c).In_ok-check_large) _ c.bytes_of-n.ensures

pub join-requires : goal.join-requires
join-requires c = lent c.in_ok-image.image (fits (goal.at.join-requires c).In_ok-check_large) _ c.bytes_of-n.ensures

pub returns : goal.returns
returns c =
    c.join.ensures ∙ take_joined _ _ _ (is_passed (goal.at.returns c).In_ok-check_large) ∙ ap (take_of c.args.target c.args.tregs.now) c.in_ok-image.ensures.ok
