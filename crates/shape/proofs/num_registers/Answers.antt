-- `shape::num_registers` meets its contract. Assumes nothing.
use native.Mathlib.Omega.{arith}
use Rattle.model.proofs.packing.Lengths.{power_shl}
use Rattle.shape.proofs.num_registers.Goals as goal

pub returns : goal.returns
returns c = power_shl c.args.lg_k 64 (omega arith)
