-- The laws of names: which numbers have none, and that none is longer than 9 bytes. Assumes nothing.
use mathlib.Core.Path.{◌≡◌, refl}
use mathlib.Core.Bool.{Bool, true, ◌&&◌, and-eq-true_iff}
use mathlib.Core.List.{List, [], ◌∷◌}
use Prim.Native.Nat.{ℕ, zero, suc, ◌≤◌, ◌<◌, zero-le}
use native.Mathlib.Decide.{dec_lt}
use native.Mathlib.Omega.{arith}
use lib.Dec.{leb}
use lib.ListN.{length, get_or, get_or-eq_default}
use borrow.Author.Tests.{leb-true}
use Rattle.report.specs.Report.{names, name_of}

-- 13 and the numbers past the last have none
pub no_name : (code : ℕ) → (code < 26 → code ≡ 13) → name_of code ≡ []
unfolding name_of
no_name code h = go (dec_lt code 26)
  where
    go : Dec (code < 26) → get_or names code [] ≡ []
    go (yes k) = rw (h k) refl
    go (no k) = let h : 26 ≤ code = omega arith in get_or-eq_default names [] h

-- no name is longer than 9 bytes
all_short : List (List ℕ) → Bool
all_short [] = true
all_short (s ∷ l) = leb (length s) 9 && all_short l

each_short : (l : List (List ℕ)) → all_short l ≡ true → (i : ℕ) → length (get_or l i []) ≤ 9
unfolding all_short
each_short [] t i = zero-le
each_short (s ∷ l) t zero = leb-true (length s) 9 ((and-eq-true_iff (leb (length s) 9) (all_short l)).0 t).0
each_short (s ∷ l) t (suc i) = each_short l ((and-eq-true_iff (leb (length s) 9) (all_short l)).0 t).1 i

pub name_few : (code : ℕ) → length (name_of code) ≤ 9
unfolding name_of all_short
name_few code = each_short names refl code
