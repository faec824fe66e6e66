-- `text::Text::push_decimal` meets its contract: what io spells is the number's text. Assumes nothing.
use mathlib.Core.Path.{◌∙◌}
use borrow.Author.Rules.{rules}
use Rattle.text.proofs.Decimal.{digits_decimal}
use Rattle.text.proofs.Text.push_decimal.Goals as goal

pub push-requires : goal.push-requires
push-requires g c =
    let d = c.decimal-k in
    let e = d.ensures.digits ∙ digits_decimal _ _ d.ensures.len in
    rw e (search rules)

pub returns : goal.returns
returns g c =
    let d = c.decimal-k in
    let e = d.ensures.digits ∙ digits_decimal _ _ d.ensures.len in
    rw e at c.push.ensures
