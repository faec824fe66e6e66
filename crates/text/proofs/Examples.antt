-- Small examples, by computation. Assumes nothing.
use mathlib.Core.Path.{◌≡◌, refl}
use mathlib.Core.Bool.{true, false}
use mathlib.Core.List.{[], ◌∷◌}
use Rattle.text.specs.Text.{text, decimal, spelt, stands_at}

pub a_text : text "OK\n" ≡ 79 ∷ 75 ∷ 10 ∷ []
a_text = refl

pub nought : decimal 0 ≡ text "0"
unfolding spelt
nought = refl

pub ten : decimal 10 ≡ text "10"
unfolding spelt
ten = refl

-- the largest u64
pub most : decimal 18446744073709551615 ≡ text "18446744073709551615"
unfolding spelt
most = refl

pub a_key : stands_at (text "in=") (text "in=a\n") ≡ true
unfolding stands_at
a_key = refl

pub a_part : stands_at (text "in=") (text "in") ≡ false
unfolding stands_at
a_part = refl
