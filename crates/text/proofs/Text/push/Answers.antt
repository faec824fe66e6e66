-- `text::Text::push` meets its contract. Assumes nothing.
use native.Mathlib.Omega.{arith}
use Rattle.text.proofs.Writing.{take_pasted}
use Rattle.text.proofs.Text.push.Goals as goal

pub returns : goal.returns
returns g c =
    let t = c.self.inside in
    rw (c.put.ensures, ← c.self.view_is) (take_pasted t.bytes c.args.s.now t.len (omega (arith, c.self.invariant)))
