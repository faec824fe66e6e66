-- How long a line is, and where it ends; and when a place is told. Assumes nothing.
use mathlib.Core.Path.{◌≡◌, ap}
use mathlib.Core.List.{List, [], ◌++◌}
use Prim.Native.Nat.{ℕ, suc, ◌+◌, ◌^◌, ◌≤◌, ◌<◌}
use native.Mathlib.Omega.{arith}
use lib.ListN.{length, length-append}
use borrow.Author.Tests.{le-leb, lt-leb}
use Rattle.text.proofs.Decimal.{decimal_few}
use Rattle.report.specs.Report.{name_of, place_text}
use Rattle.text.specs.Text.{decimal, line, text}
use Rattle.text.proofs.Writing.{pushed_long}
use Rattle.report.proofs.Names.{name_few}

pub line_long : (key value : List ℕ) → length (line key value) ≡ length key + (length value + 1)
unfolding line
line_long key value = simp length-append (omega arith)

-- where a line ends whose number has at most k + 1 digits
pub line_ends : (old key : List ℕ) (n k : ℕ) {new : List ℕ} → new ≡ old ++ line key (decimal n) → n < 10 ^ suc k → length new ≤ length old + (length key + (k + 2))
line_ends old key n k p h = omega (arith, pushed_long old _ p, line_long key (decimal n), decimal_few n k h)

-- and where the first line ends
pub answer_ends : (code : ℕ) {new : List ℕ} → new ≡ line (text "answer=") (name_of code) → length new ≤ 17
answer_ends code p = omega (arith, ap length p, line_long (text "answer=") (name_of code), name_few code)

-- so a line fits
pub line_fits : {size : ℕ} (at : ℕ) (key : List ℕ) (n k : ℕ) → n < 10 ^ suc k → at + (length key + (k + 2)) ≤ size → at + length (line key (decimal n)) ≤ size
line_fits at key n k h room = omega (arith, line_long key (decimal n), decimal_few n k h)

-- 21 to 25 have a line for the place, no other number has
module _ (code place : ℕ) where
  pub place_below : code < 21 → place_text code place ≡ []
  unfolding place_text
  place_below h = rw (lt-leb 21 code h)

  pub place_above : 25 < code → place_text code place ≡ []
  unfolding place_text
  place_above h = rw (le-leb 21 code (omega arith), lt-leb code 25 h)

  pub place_told : 21 ≤ code → code ≤ 25 → place_text code place ≡ line (text "place=") (decimal place)
  unfolding place_text
  place_told l h = rw (le-leb 21 code l, le-leb code 25 h)
