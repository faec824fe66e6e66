-- Each of the three kinds owes nothing. Assumes nothing.
use mathlib.Core.Path.{◌≡◌, sym, subst}
use mathlib.Core.Bool.{true}
use Prim.Native.Nat.{ℕ}
use native.Mathlib.Decide.{ℕ_discrete}
use Rattle.model.specs.Sketch.{is_kind}
use Rattle.model.proofs.order.Sound.{Lawful}
use Rattle.model.proofs.four.FourLawful.{four_lawful}
use Rattle.model.proofs.order.PlainLawful.{plain_lawful}

pub lawful : (kind : ℕ) → is_kind kind ≡ true → Lawful kind
lawful kind is = go (ℕ_discrete kind 4)
  where
    go : Dec (kind ≡ 4) → Lawful kind
    go (yes e) = subst Lawful (sym e) four_lawful
    go (no e) = plain_lawful kind is e
