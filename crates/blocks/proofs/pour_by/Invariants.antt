use mathlib.Core.Path.{◌≡◌}
use Prim.Native.Nat.{◌*◌}
use lib.ListN.{length, drop}
use Rattle.model.specs.Registers.{poured, joined}
use Rattle.model.specs.Sketch.{floors}
use Rattle.blocks.proofs.pour_by.Given as goal

abbrev pub invariant-loop-block : goal.invariant-loop-block
invariant-loop-block l =
    poured (length l.initial.target) l.target (l.block * l.n) (drop (l.block * l.n) (floors l.s l.regs)) ≡ joined (length l.initial.target) l.initial.target (floors l.s l.regs)
