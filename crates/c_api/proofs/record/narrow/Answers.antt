-- `c_api::record::narrow` meets its contract. Assumes nothing.
use borrow.Author.Tests.{lt-ltb, le-ltb}
use Rattle.c_api.specs.Words.{narrowed}
use Rattle.c_api.proofs.record.narrow.Goals as goal

pub returns-then-word-lt256 : goal.returns-then-word-lt256
unfolding narrowed
returns-then-word-lt256 c = simp (lt-ltb _ _ c.if-word-lt256.true)

pub returns-else-word-lt256 : goal.returns-else-word-lt256
unfolding narrowed
returns-else-word-lt256 c = simp (le-ltb _ _ c.if-word-lt256.false)
