-- `text::stands` meets its contract: what `get` lends is the bytes from the place on. Assumes nothing.
use mathlib.Core.Path.{sym, ap, ◌∙◌}
use native.Mathlib.Omega.{arith}
use Rattle.text.specs.Text.{stands_at}
use Rattle.text.proofs.Standing.{stands_past, stands_starts, rest_of}
use Rattle.text.proofs.stands.Goals as goal

pub returns-in-Some : goal.returns-in-Some
returns-in-Some c =
    let p = c.args.p.now in
    c.starts_with.ensures.value ∙ stands_starts p _ ∙ ap (stands_at p) (c.in-Some.ensures.lookup.0.2 ∙ rest_of c.args.s.now c.args.at)

pub returns-in-None : goal.returns-in-None
returns-in-None c = c.is_empty.ensures ∙ sym (stands_past _ _ c.args.at (omega (arith, c.in-None.ensures.lookup.0)))
