-- `sums::count_words` meets its contract. What is left are the words from this one on. Assumes nothing.
use native.Mathlib.Nat.{add-zero}
use native.Mathlib.Omega.{arith}
use Rattle.sums.proofs.Tallies.{word_skipped, word_counted, saying_asks, saying_turn, saying_end}
use Rattle.sums.proofs.count_words.Goals as goal
use Rattle.sums.proofs.count_words.Goals.{then-value-ne0, else-value-ne0}

pub count_in-requires : goal.count_in-requires
count_in-requires c = (omega (arith, c.value-value.ensures), saying_asks c.loop-word.invariant c.requires)

pub loop-word-preserved : goal.loop-word-preserved
loop-word-preserved c =
    elim c.if-value-ne0.branch [
      | then-value-ne0 w ↦ rw (w.counts-is, w.many-is) (saying_turn c.loop-word.invariant c.loop-word-test.true (word_counted _ c.value-value.ensures w.if-value-ne0.true w.count_in.ensures))
      | else-value-ne0 w ↦ rw (w.counts-is, w.many-is, ← add-zero c.loop-word.many) (saying_turn c.loop-word.invariant c.loop-word-test.true (word_skipped _ c.value-value.ensures w.if-value-ne0.false))
    ]

pub returns : goal.returns
returns c = saying_end c.loop-word.invariant c.loop-word-test.false
