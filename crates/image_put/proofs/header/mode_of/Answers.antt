-- `image_put::header::mode_of` meets its contract: each arm by its pattern. Assumes nothing.
use borrow.Author.Tests.{eq-eqb, ne_eqb}
use native.Mathlib.Omega.{arith}
use Rattle.image_put.proofs.header.mode_of.Goals as goal

pub returns-in-8 : goal.returns-in-8
returns-in-8 c = simp (eq-eqb _ _ c.in-8.is)

pub returns-in-6 : goal.returns-in-6
returns-in-6 c = simp (ne_eqb c.args.kind 8 (λ e. omega (arith, c.in-6.is)), eq-eqb _ _ c.in-6.is)

pub returns-in_default : goal.returns-in_default
returns-in_default c = simp (ne_eqb c.args.kind 8 (λ e. omega arith), ne_eqb c.args.kind 6 (λ e. omega arith))
