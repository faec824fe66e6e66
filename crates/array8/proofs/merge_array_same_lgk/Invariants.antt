use mathlib.Core.Path.{◌≡◌}
use lib.ListN.{length, drop}
use Rattle.model.specs.Registers.{poured, joined}
use Rattle.array8.proofs.merge_array_same_lgk.Given as goal

abbrev pub invariant-loop-slot : goal.invariant-loop-slot
invariant-loop-slot l = (length l.target ≡ length l.initial.target) × (poured (length l.initial.target) l.target l.slot (drop l.slot l.src) ≡ joined (length l.initial.target) l.initial.target l.src)
