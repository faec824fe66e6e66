use mathlib.Core.Path.{◌≡◌}
use lib.ListN.{length, drop}
use Rattle.model.specs.Registers.{fed}
use Rattle.array8.proofs.raise_words.Given as goal

abbrev pub invariant-loop-word : goal.invariant-loop-word
invariant-loop-word l = (length l.target ≡ length l.initial.target) × (fed (length l.initial.target) l.target (drop l.word-index l.words) ≡ fed (length l.initial.target) l.initial.target l.words)
