-- `merge_job::run_in` meets its contract: all files merged is what is written. Assumes nothing.
use Rattle.merge_job.proofs.Ends.{lists, start_ok, empty_out, all_whole, refused_reported, merged_reported}
use mathlib.Core.Path.{refl}
use Rattle.merge_job.proofs.Faults.{fault_some}
use Rattle.merge_job.proofs.run_in.Goals as goal

pub unwrap-empty-requires : goal.unwrap-empty-requires
unwrap-empty-requires g c = start_ok c.args.job.now c.args.places c.args.regs.now c.requires _ _ _ c.start.ensures

pub merge_all-requires : goal.merge_all-requires
merge_all-requires g c = lists c.args.job.now c.args.places _ c.requires

pub finish-requires : goal.finish-requires
finish-requires g c =
    let e = empty_out c.args.job.now c.args.places c.args.regs.now c.requires _ _ _ c.start.ensures _ c.unwrap-empty.ensures in
    (all_whole c.args.job.now c.args.places c.args.regs.now c.requires _ e _ c.in-Ok.ensures refl, c.requires.is)

pub returns-in-Ok : goal.returns-in-Ok
returns-in-Ok g c =
    let e = empty_out c.args.job.now c.args.places c.args.regs.now c.requires _ _ _ c.start.ensures _ c.unwrap-empty.ensures in
    merged_reported c.args.job.now c.args.places c.args.regs.now c.requires _ e _ c.in-Ok.ensures refl _ c.finish.ensures

pub returns-in-Err : goal.returns-in-Err
returns-in-Err g c =
    let e = empty_out c.args.job.now c.args.places c.args.regs.now c.requires _ _ _ c.start.ensures _ c.unwrap-empty.ensures in
    refused_reported c.args.job.now c.args.places c.args.regs.now c.requires _ e _ c.in-Err.ensures.1 (fault_some _) _ c.refused.ensures
