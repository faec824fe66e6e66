-- `coupon::home` meets its contract: a mask is a remainder. Assumes nothing.
use native.Mathlib.Omega.{arith}
use lib.Pow.{pow_pos}
use Rattle.model.proofs.packing.Lengths.{power_shl}
use Rattle.coupon.proofs.Masks.{home_mask}
use Rattle.coupon.proofs.home.Goals as goal

pub overflow_sub-result : goal.overflow_sub-result
overflow_sub-result c = rw (power_shl c.args.lg_k 32 (omega arith)) (pow_pos c.args.lg_k)

pub returns : goal.returns
returns c = rw (power_shl c.args.lg_k 32 (omega arith)) (home_mask c.args.lg_k _ (omega arith))
