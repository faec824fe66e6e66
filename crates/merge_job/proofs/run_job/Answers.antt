-- `merge_job::run_job` meets its contract: the registers have room. Assumes nothing.
use native.Mathlib.Omega.{arith}
use Rattle.job.proofs.Parsed.{places_say}
use Rattle.merge_job.proofs.Ends.{registers_room, registers_same, asked, no_job_reported}
use Rattle.merge_job.proofs.run_job.Goals as goal

pub returns-in_default : goal.returns-in_default
returns-in_default g c = no_job_reported c.args.job.now c.in_default.ensures _ c.refused.ensures

pub bytes_of-k-requires : goal.bytes_of-k-requires
bytes_of-k-requires g c = let h = (places_say c.args.job.now _ c.in-Some.ensures.0 (λ z. let h = c.in-Some.ensures.1 in omega arith)).high in omega arith

pub slice_bounds-regs-end : goal.slice_bounds-regs-end
slice_bounds-regs-end g c = registers_room c.args.job.now _ c.in-Some.ensures.0 (λ z. let h = c.in-Some.ensures.1 in omega arith) _ c.bytes_of-k.ensures

pub slice_bounds-run_in-end : goal.slice_bounds-run_in-end
slice_bounds-run_in-end g c = registers_same c.args.job.now _ c.in-Some.ensures.0 (λ z. let h = c.in-Some.ensures.1 in omega arith) _ c.bytes_of-k.ensures

pub run_in-requires : goal.run_in-requires
run_in-requires g c = asked c.args.job.now _ c.in-Some.ensures.0 (λ z. let h = c.in-Some.ensures.1 in omega arith) _ c.bytes_of-k.ensures
