-- `array8::raise_words` meets its contract. What is left to do are the words from this one on. Assumes nothing.
use mathlib.Core.Path.{◌∙◌}
use native.Mathlib.Omega.{arith}
use Rattle.model.proofs.registers.Turns.{word_turn, fed_end}
use Rattle.array8.proofs.raise_words.Goals as goal

pub loop-word-preserved : goal.loop-word-preserved
loop-word-preserved c =
    let loop = c.loop-word in
    (c.raise.auto.target ∙ loop.invariant.0, word_turn _ loop.target _ _ _ loop.word-index _ _ loop.invariant.0 (omega arith) c.slot.ensures c.value.ensures c.raise.ensures loop.invariant.1)

pub returns : goal.returns
returns c = fed_end _ c.loop-word.target _ _ c.loop-word.word-index c.loop-word-test.false c.loop-word.invariant.1
