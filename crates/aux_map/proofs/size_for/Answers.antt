-- `aux_map::size_for` meets its contract: the size is the base doubled n times, for an n that the invariant holds, and no smaller doubling
-- is enough. Assumes nothing.
use mathlib.Core.Path.{sym, ◌∙◌, subst}
use Prim.Native.Nat.{ℕ, suc, ◌*◌, ◌^◌, ◌≤◌, ◌<◌}
use native.Mathlib.Numerals.{add-one}
use native.Mathlib.Omega.{arith}
use borrow.Author.Count.{below_more}
use Rattle.model.proofs.table.Inserted.{size_is, twice_size}
use Rattle.model.proofs.table.Inserts.{few_doublings}
use Rattle.aux_map.proofs.size_for.Goals as goal

pub loop-size-preserved : goal.loop-size-preserved
loop-size-preserved c =
    let l = c.loop-size in
    let (n, h, e, b, _, _) = l.invariant in
    let small : c.args.base * 2 ^ n < 2 ^ 28 = subst (λ (x : ℕ). x < 2 ^ 28) e (omega arith) in
    let more : 3 * (c.args.base * 2 ^ n) < 4 * c.args.count = subst (λ (x : ℕ). 3 * x < 4 * c.args.count) e c.loop-size-test.true in (
      suc n,
      few_doublings c.args.base n c.requires.based.four small,
      omega (arith, e, twice_size c.args.base n),
      (λ m k. below_more (λ (i : ℕ). 3 * (c.args.base * 2 ^ i) < 4 * c.args.count) n b more m (subst (λ (x : ℕ). m < x) (sym (add-one n)) k)),
      omega arith,
      omega arith,
    )

pub returns : goal.returns
returns c =
    let (n, h, e, b, _, _) = c.loop-size.invariant in
    e ∙ sym (size_is c.args.base c.args.count c.requires.few c.requires.based.four n h (subst (λ (x : ℕ). 4 * c.args.count ≤ 3 * x) e c.loop-size-test.false) b)
