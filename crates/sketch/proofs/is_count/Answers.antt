-- `sketch::is_count` meets its contract: no length is past 64 bits. Assumes nothing.
use mathlib.Core.Path.{sym, ◌∙◌}
use Prim.Native.Nat.{◌^◌, ◌≤◌}
use native.Mathlib.Omega.{arith}
use lib.Pow.{pow_mono}
use borrow.Author.Tests.{le-ltb, ne_eqb}
use Rattle.sketch.proofs.is_count.Goals as goal

pub returns-else-lg_k-lt64 : goal.returns-else-lg_k-lt64
returns-else-lg_k-lt64 c =
    let past : 2 ^ 64 ≤ 2 ^ c.args.lg_k = pow_mono c.if-lg_k-lt64.false in
    le-ltb _ _ c.if-lg_k-lt64.false ∙ sym (ne_eqb c.args.len (2 ^ c.args.lg_k) (λ e. omega arith))
