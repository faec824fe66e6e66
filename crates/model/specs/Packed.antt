-- Cells of w bits in bytes, at any width. The bytes are one number, lowest byte first; the cells are its digits to the base 2 ^ w,
-- lowest first. So the cell of slot s starts at bit w * s, low bits first.
use Rattle.std.specs.Prelude.{◌≡◌, List, [], ◌∷◌, ℕ, zero, suc, ◌+◌, ◌*◌, ◌/◌, ◌%◌, ◌^◌, ◌<◌, length, get_or, set}

-- a list of bytes
abbrev pub Bytes : List ℕ → Type 0
Bytes bs = (i : ℕ) → get_or bs i 0 < 256

-- the number whose digits to the base c are ds, lowest first
unfoldable pub number : ℕ → List ℕ → ℕ
number c [] = 0
number c (d ∷ ds) = number c ds * c + d

-- the k lowest digits of n to the base c, lowest first
unfoldable pub digits : ℕ → ℕ → ℕ → List ℕ
digits c zero n = []
digits c (suc k) n = n % c ∷ digits c k (n / c)

-- the cell of slot s, of width w
unfoldable pub slot_at : ℕ → List ℕ → ℕ → ℕ
slot_at w bytes s = number 256 bytes / 2 ^ (w * s) % 2 ^ w

-- the first k cells of width w
unfoldable pub unpacked : ℕ → ℕ → List ℕ → List ℕ
unpacked w k bytes = digits (2 ^ w) k (number 256 bytes)

-- the n bytes that hold these cells of width w; bits past the last cell are zero
unfoldable pub packed : ℕ → ℕ → List ℕ → List ℕ
packed w n vs = digits 256 n (number (2 ^ w) vs)

-- the bytes after are those before with v in slot s: as many, and of any number of cells that one alone differs, so that the bits past the last cell are fixed too
pub record Put (w : ℕ) (before : List ℕ) (s v : ℕ) (after : List ℕ) : Type 0 where
  pub long : length after ≡ length before
  pub slots : (k : ℕ) → unpacked w k after ≡ set (unpacked w k before) s v
