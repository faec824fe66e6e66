-- `job::lines_in` meets its contract: what is left behind `end` makes up what was there. Assumes nothing.
use mathlib.Core.Path.{◌≡◌}
use Prim.Native.Nat.{suc, ◌+◌, ◌-◌}
use native.Mathlib.Omega.{arith}
use Rattle.job.proofs.Walk.{line_room, one_more, bytes_more, ins_over, ins_full}
use Rattle.job.proofs.lines_in.Goals as goal
use Rattle.job.proofs.lines_in.Goals.{In-Some}

pub returns-in_default : goal.returns-in_default
returns-in_default c =
    let h = ins_over c.args.job.now (64 - c.loop-files.files) c.loop-files.end c.in_default.ensures in
    omega arith

pub overflow_add-end-in-loop-files : goal.overflow_add-end-in-loop-files
overflow_add-end-in-loop-files c =
    let p = c.in-Some.ensures in
    omega (arith, line_room c.args.job.now c.loop-files.end p)

pub loop-files-preserved : goal.loop-files-preserved
loop-files-preserved c =
    let p = c.in-Some.ensures in
    let f : 64 - c.loop-files.files ≡ suc (64 - (c.loop-files.files + 1)) = omega arith in
    let r = line_room c.args.job.now c.loop-files.end p in
    let a = one_more c.args.job.now c.loop-files.end p _ _ f in
    let b = bytes_more c.args.job.now c.loop-files.end p _ _ f in
    (omega arith, omega arith, omega arith)

pub returns : goal.returns
returns c =
    let h = ins_full c.args.job.now (64 - c.loop-files.files) c.loop-files.end (omega arith) in
    omega arith
