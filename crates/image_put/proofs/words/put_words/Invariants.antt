use mathlib.Core.Path.{◌≡◌}
use lib.ListN.{length}
use Rattle.image_put.specs.Parts.{over, word_bytes}
use Rattle.image_put.proofs.words.put_words.Given as goal

abbrev pub invariant-loop-n : goal.invariant-loop-n
invariant-loop-n l = (length l.out ≡ length l.initial.out) × (l.out ≡ over l.initial.out l.at (word_bytes (length l.yielded) l.words))
