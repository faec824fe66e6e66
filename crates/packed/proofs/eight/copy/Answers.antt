-- `packed::eight::copy` meets its contract: the values passed stand over the others. Assumes nothing.
use mathlib.Core.Path.{sym, ap, ◌∙◌}
use Prim.Native.Nat.{ℕ}
use native.Mathlib.Nat.{zero-add}
use native.Mathlib.Omega.{arith}
use lib.ListN.{get_or, set}
use lib.Seq.{paste}
use borrow.Author.Rules.{rules}
use Rattle.std.proofs.lemmas.List.Edits.{paste_more}
use Rattle.packed.proofs.eight.copy.Goals as goal

pub loop-i-preserved : goal.loop-i-preserved
loop-i-preserved g c =
    let i = c.loop-i.i in
    let d = c.args.to.now in
    let s = c.args.from.now in
    let v = c.index-from-i.result in
    let so_far = paste d 0 s i in (
      search rules,
      ap (λ x. set x i v) c.loop-i.invariant.1
          ∙ ap (set so_far i) c.index-from-i.is
          ∙ ap (λ (k : ℕ). set so_far k (get_or s i v)) (sym (zero-add i))
          ∙ paste_more d 0 s i v (omega arith) (omega arith),
    )
