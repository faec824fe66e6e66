-- `merge_job::merge_all` meets its contract: each turn finds the line of its image, and what was read so far was merged. Assumes nothing.
use native.Mathlib.Omega.{arith}
use borrow.Author.Rules.{rules}
use Rattle.std.proofs.lemmas.Bool.{some_since}
use Rattle.std.proofs.lemmas.Option.{MatchOption-at_some}
use Rattle.merge_job.proofs.Turns.{found, within, named, one_less, none_yet, stopped, merged}
use Rattle.merge_job.proofs.merge_all.Goals as goal
use Rattle.merge_job.proofs.merge_all.Goals.{After-unwrap-path}

pub loop-i-init : goal.loop-i-init
loop-i-init g c = (search rules, c.requires.ins_are, none_yet _ _)

pub unwrap-path-requires : goal.unwrap-path-requires
unwrap-path-requires g c =
    let t = c.loop-i in some_since _ _ _ c.path_in.ensures (found c.args.job.now _ _ c.requires t.at t.i c.loop-i-test.true t.invariant.1)

pub take_file-requires : goal.take_file-requires
take_file-requires g c =
    let t = c.loop-i in named c.args.job.now _ _ c.requires t.at t.i c.loop-i-test.true t.invariant.1 (MatchOption-at_some _ _ _ c.unwrap-path.ensures c.path_in.ensures)

pub returns-in-Err : goal.returns-in-Err
returns-in-Err g c =
    let t = c.loop-i in (t.sketch, stopped c.args.target c.args.tregs.now t.i t.sketch t.tregs t.invariant.2 _ _ _ c.in-Err.ensures _ c.loop-i-test.true)

pub overflow_add-at-in-loop-i : goal.overflow_add-at-in-loop-i
overflow_add-at-in-loop-i g c =
    let t = c.loop-i in omega (arith, within c.args.job.now _ _ c.requires t.at t.i c.loop-i-test.true t.invariant.1 (MatchOption-at_some _ _ _ c.unwrap-path.ensures c.path_in.ensures))

pub loop-i-preserved : goal.loop-i-preserved
loop-i-preserved g c =
    let t = c.loop-i in (
      search rules,
      one_less c.args.job.now _ _ c.requires t.at t.i c.loop-i-test.true t.invariant.1 (MatchOption-at_some _ _ _ c.unwrap-path.ensures c.path_in.ensures),
      merged c.args.target c.args.tregs.now t.i t.sketch t.tregs t.invariant.2 _ _ _ c.in-Ok.ensures,
    )
