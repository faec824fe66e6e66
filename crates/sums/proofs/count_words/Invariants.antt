use Rattle.sums.proofs.Tallies.{Saying}
use Rattle.sums.proofs.count_words.Given as goal

abbrev pub invariant-loop-word : goal.invariant-loop-word
invariant-loop-word l = Saying l.words l.initial.counts l.counts l.word-index l.many
