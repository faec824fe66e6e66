use mathlib.Core.Path.{◌≡◌}
use Prim.Native.Nat.{◌≤◌}
use lib.ListN.{length}
use Rattle.model.specs.Packed.{unpacked}
use Rattle.image_words.proofs.Collecting.{Stands}
use Rattle.image_words.proofs.collect.Given as goal

abbrev pub invariant-loop-j : goal.invariant-loop-j
invariant-loop-j l = (l.j ≤ l.many) × (length l.into ≡ length l.initial.into) × Stands l.lg_k (unpacked 32 l.many l.words) l.into l.top l.j
