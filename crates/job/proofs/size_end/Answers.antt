-- `job::size_end` meets its contract. Assumes nothing.
use mathlib.Core.Path.{sym, ◌∙◌}
use borrow.Author.Tests.{lt-ltb, le-ltb}
use Rattle.job.proofs.Texts.{size_long}
use Rattle.job.proofs.size_end.Goals as goal

pub returns-then-lg_k-lt10 : goal.returns-then-lg_k-lt10
returns-then-lg_k-lt10 c = sym (size_long _ c.requires.0 c.requires.1 ∙ simp (lt-ltb _ _ c.if-lg_k-lt10.true))

pub returns-else-lg_k-lt10 : goal.returns-else-lg_k-lt10
returns-else-lg_k-lt10 c = sym (size_long _ c.requires.0 c.requires.1 ∙ simp (le-ltb _ _ c.if-lg_k-lt10.false))
