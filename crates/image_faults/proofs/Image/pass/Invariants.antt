use mathlib.Core.Path.{◌≡◌}
use lib.ListN.{length}
use Rattle.model.specs.Packed.{slot_at}
use Rattle.image_faults.proofs.Passing.{Passing}
use Rattle.image_faults.proofs.Image.pass.Given as goal

abbrev pub invariant-loop-i : goal.invariant-loop-i
invariant-loop-i l = (length l.marks ≡ length l.initial.marks) × Passing l.self.header l.b (slot_at 32 l.self.words.now) (slot_at 4 l.self.nibbles.now) l.limit l.marks l.even l.entries l.i
