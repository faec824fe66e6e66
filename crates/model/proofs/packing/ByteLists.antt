-- Which lists are lists of bytes: parts of one, and one behind another; a list from a place on; and how many bytes packed cells have. Assumes nothing.
use mathlib.Core.Path.{◌≡◌}
use mathlib.Core.List.{List, [], ◌∷◌, ◌++◌}
use Prim.Native.Nat.{ℕ, zero, suc, ◌+◌, ◌-◌, ◌^◌, ◌<◌}
use native.Mathlib.Decide.{dec_lt}
use native.Mathlib.Omega.{arith}
use lib.Dec.{lit<}
use lib.ListN.{length, get_or, take, drop, length-take, length-drop, get_or-eq_default}
use lib.Seq.{get_or-take, get_or-drop, take_all}
use Rattle.model.specs.Packed.{Bytes, number, packed}
use Rattle.model.proofs.packing.Digits.{length_digits}

-- a bound on the places of a list holds at every place, where past its end 0 is read
pub at_all : {c : ℕ} (l : List ℕ) → 0 < c → ((i : ℕ) → i < length l → get_or l i 0 < c) → (i : ℕ) → get_or l i 0 < c
at_all {c} l p h i = go (dec_lt i (length l))
  where
    go : Dec (i < length l) → get_or l i 0 < c
    go (yes d) = h i d
    go (no d) = rw (get_or-eq_default l 0 {n = i} (omega arith)) p

-- a list from a place on, as the code cuts it out
pub from_on : (n : ℕ) (l : List ℕ) → take (length l - n) (drop n l) ≡ drop n l
from_on n l = take_all (length l - n) (drop n l) (omega (arith, length-drop n l))

pub bytes_drop : (n : ℕ) (l : List ℕ) → Bytes l → Bytes (drop n l)
bytes_drop n l h i = rw get_or-drop (h (n + i))

pub bytes_take : (n : ℕ) (l : List ℕ) → Bytes l → Bytes (take n l)
bytes_take n l h =
    at_all (take n l) (lit< tt) (λ i d. let d' : i < n = omega (arith, length-take n l) in rw get_or-take (h i))

pub bytes_append : (xs ys : List ℕ) → Bytes xs → Bytes ys → Bytes (xs ++ ys)
bytes_append [] ys hx hy i = hy i
bytes_append (x ∷ xs) ys hx hy zero = hx 0
bytes_append (x ∷ xs) ys hx hy (suc i) = bytes_append xs ys (λ j. hx (suc j)) hy i

pub length_packed : (w n : ℕ) (vs : List ℕ) → length (packed w n vs) ≡ n
unfolding packed
length_packed w n vs = length_digits 256 n (number (2 ^ w) vs)
