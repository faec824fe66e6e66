-- `job::parse` meets its contract: each return is an outcome. Assumes nothing.
use Rattle.std.proofs.Common.{arith}
use Rattle.job.proofs.Parsed.{Listing, too_long, no_size, first_room, no_ins, no_out, more_behind, found}
use Rattle.job.proofs.parse.Goals as goal
use Rattle.job.proofs.parse.Goals.{After-lines_in-listed, then-files-eq0-via-then-files-eq0, then-files-eq0-via-else-files-eq0+then-job-last}

-- once the `in=` lines are read
listing : (c : After-lines_in-listed) → let r = c.lines_in-listed.result in
    Listing c.args.job.now c.in_ok-lg_k.lg_k c.size_end-first.result r.files r.end
listing c =
    record { size = c.in_ok-lg_k.ensures; starts = c.size_end-first.ensures; listed = c.lines_in-listed.ensures }

pub returns-then-job-gt4096 : goal.returns-then-job-gt4096
returns-then-job-gt4096 c = too_long _ c.if-job-gt4096.true

pub returns-in_err-lg_k : goal.returns-in_err-lg_k
returns-in_err-lg_k c = rw c.from_residual.ensures (no_size _ c.in_err-lg_k.ensures)

pub lines_in-listed-requires : goal.lines_in-listed-requires
lines_in-listed-requires c = first_room _ c.in_ok-lg_k.ensures c.size_end-first.ensures

pub returns-in_err-path : goal.returns-in_err-path
returns-in_err-path c =
    rw c.from_residual-in_err-path.ensures (no_out (listing (goal.at.returns-in_err-path c).After-lines_in-listed) c.in_err-path.ensures)

pub returns-then-files-eq0 : goal.returns-then-files-eq0
returns-then-files-eq0 c =
    let p = listing (goal.at.returns-then-files-eq0 c).After-lines_in-listed in
    elim c.then-files-eq0.branch [
      | then-files-eq0-via-then-files-eq0 w ↦ no_ins p w.if-files-eq0.true
      | then-files-eq0-via-else-files-eq0+then-job-last w ↦ more_behind p c.in_ok-path.ensures w.if-job-last.true
    ]

pub returns : goal.returns
returns c =
    (found (listing (goal.at.returns c).After-lines_in-listed) c.in_ok-path.ensures c.if-job-gt4096.false c.if-files-eq0.false c.if-job-last.false, omega arith)
