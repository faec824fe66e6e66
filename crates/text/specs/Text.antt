-- Texts as bytes: a literal, a number's decimal digits, and a text at the front of bytes.
use Prim.Native.Char.{code}
use Prim.Native.String.{String, [] as none, ◌∷◌ as ◌then◌}
use Rattle.std.specs.Prelude.{ℕ, zero, suc, ◌+◌, ◌/◌, ◌%◌, Bool, true, false, ◌&&◌, List, [], ◌∷◌, ◌++◌, eqb, ltb}

-- a literal's bytes
abbrev pub text : String → List ℕ
text none = []
text (c then s) = code c ∷ text s

-- n's digits: below 10 there is one, else they are those of n / 10 and the last. The first argument, at least n, has the definition end
unfoldable pub spelt : ℕ → Bool → ℕ → List ℕ
spelt zero small n = (48 + n) ∷ []
spelt (suc m) true n = (48 + n) ∷ []
spelt (suc m) false n = spelt m (ltb (n / 10) 10) (n / 10) ++ ((48 + n % 10) ∷ [])

-- a number as text: its decimal digits, with no 0 in front
abbrev pub decimal : ℕ → List ℕ
decimal n = spelt n (ltb n 10) n

-- one line of a job or a report; the key ends with =
unfoldable pub line : List ℕ → List ℕ → List ℕ
line key value = key ++ value ++ text "\n"

-- the text p stands at the front of l
unfoldable pub stands_at : List ℕ → List ℕ → Bool
stands_at [] l = true
stands_at (c ∷ p) [] = false
stands_at (c ∷ p) (x ∷ l) = eqb x c && stands_at p l
