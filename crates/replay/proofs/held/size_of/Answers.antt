-- `replay::held::size_of` meets its contract: with lg_k at most 10 there are at most 1024 registers. Assumes nothing.
use Rattle.std.proofs.Common.{ℕ, ◌*◌, ◌%◌, ◌^◌, ◌≤◌, arith}
use Rattle.std.proofs.Math.Pow.{pow_mono}
use Rattle.model.proofs.packing.Lengths.{power_shl}
use Rattle.replay.proofs.held.size_of.Goals as goal

few : (lgk : ℕ) → lgk ≤ 10 → 1 * 2 ^ lgk % 2 ^ 64 ≤ 1024
few lgk h = rw (power_shl lgk 64 (omega arith)) (pow_mono h)

pub returns-in-4 : goal.returns-in-4
returns-in-4 c = omega (arith, few c.args.lg_k (omega arith))

pub returns-in-6 : goal.returns-in-6
returns-in-6 c = omega (arith, few c.args.lg_k (omega arith))

pub returns-in_default : goal.returns-in_default
returns-in_default c = omega (arith, few c.args.lg_k (omega arith))
