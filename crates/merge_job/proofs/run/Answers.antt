-- `merge_job::run` meets its contract: what it tells is the report. Assumes nothing.
use Rattle.merge_job.proofs.run.Goals as goal

pub tell-requires : goal.tell-requires
tell-requires g c = rw c.as_slice-2.ensures.bytes c.run_job-report.ensures
