-- `job::size_in` meets its contract: no size before the one found is asked for. Assumes nothing.
use Rattle.std.proofs.Common.{sym, ◌∙◌, arith}
use Rattle.job.proofs.Texts.{size_found, size_missing}
use Rattle.job.proofs.size_in.Goals as goal

pub returns-then-asks_for : goal.returns-then-asks_for
returns-then-asks_for c =
    let e = size_found c.args.job.now c.loop-lg_k.lg_k (omega arith) (omega arith) (sym c.asks_for.ensures ∙ c.if-asks_for.true) c.loop-lg_k.invariant in
    (e, omega arith, omega arith)

pub returns : goal.returns
returns c = size_missing c.args.job.now (λ i h. c.loop-lg_k.invariant i (omega arith))
