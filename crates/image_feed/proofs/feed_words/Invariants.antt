use mathlib.Core.Path.{◌≡◌}
use Prim.Native.Nat.{◌-◌}
use lib.ListN.{length}
use Rattle.model.specs.Packed.{unpacked}
use Rattle.image_feed.proofs.Feeding as feeding
use Rattle.image_feed.proofs.feed_words.Given as goal

abbrev pub invariant-loop-i : goal.invariant-loop-i
invariant-loop-i l = (length l.regs ≡ length l.initial.regs) × (length l.aux ≡ length l.initial.aux) × (length l.scratch ≡ length l.initial.scratch) × feeding.Feeding l.initial.fed l.initial.regs l.initial.aux (unpacked 32 l.many l.words) l.i l.fed l.regs l.aux

abbrev pub decreases-loop-i : goal.decreases-loop-i
decreases-loop-i l = l.many - l.i
