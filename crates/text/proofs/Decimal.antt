-- The laws of `decimal`: digits with no 0 in front, which read back as the number; how many there are; and that `io::decimal` writes them.
-- Assumes nothing.
use mathlib.Core.Path.{◌≡◌, refl, ap, ap₂, ◌∙◌}
use mathlib.Core.List.{List, [], ◌∷◌, ◌++◌}
use Prim.Native.Nat.{ℕ, zero, suc, ◌+◌, ◌-◌, ◌*◌, ◌/◌, ◌%◌, ◌^◌, ◌≤◌, ◌<◌}
use native.Mathlib.Nat.{pow-suc, mod-eq_of_lt, one-le-pow}
use native.Mathlib.Decide.{dec_lt}
use native.Mathlib.Omega.{arith}
use lib.Dec.{ltb, lit<}
use lib.ListN.{length, get_or, length-append, get_or-append}
use borrow.Author.Tests.{lt-ltb, le-ltb}
use Rattle.io.specs.Digits.{last_digits, hex_digit_ascii, IsDigitCount}
use Rattle.text.specs.Text.{decimal, spelt}

-- what holds of one digit, and of one more behind those of n / 10, holds of each number's digits
module _ (P : ℕ → List ℕ → Type 0) (one : (n : ℕ) → n < 10 → P n ((48 + n) ∷ [])) (more : (n : ℕ) (l : List ℕ) → 10 ≤ n → P (n / 10) l → P n (l ++ ((48 + n % 10) ∷ []))) where
  spelt_by : (m n : ℕ) → n ≤ m → P n (spelt m (ltb n 10) n)
  unfolding spelt
  spelt_by zero n h = one n (omega arith)
  spelt_by (suc m) n h = at (dec_lt n 10) (spelt_by m (n / 10))
    where
      at : Dec (n < 10) → (n / 10 ≤ m → P (n / 10) (spelt m (ltb (n / 10) 10) (n / 10))) → P n (spelt (suc m) (ltb n 10) n)
      at (yes l) rest = rw (lt-ltb n 10 l) (one n l)
      at (no l) rest = rw (le-ltb n 10 (omega arith)) (more n _ (omega arith) (rest (omega arith)))

  by_digits : (n : ℕ) → P n (decimal n)
  by_digits n = spelt_by n n (omega arith)

-- digits read as a number, behind one that was read
unfoldable pub read : ℕ → List ℕ → ℕ
read a [] = a
read a (d ∷ l) = read (a * 10 + (d - 48)) l

-- all are 0 to 9
unfoldable pub Digits : List ℕ → Type 0
Digits [] = Unit {0}
Digits (d ∷ l) = (48 ≤ d) × (d ≤ 57) × Digits l

read_snoc : (a d : ℕ) (l : List ℕ) → read a (l ++ (d ∷ [])) ≡ read a l * 10 + (d - 48)
unfolding read
read_snoc a d [] = refl
read_snoc a d (x ∷ l) = read_snoc (a * 10 + (x - 48)) d l

digits_snoc : (d : ℕ) (l : List ℕ) → Digits l → d < 10 → Digits (l ++ ((48 + d) ∷ []))
unfolding Digits
digits_snoc d [] g h = (omega arith, omega arith, tt)
digits_snoc d (x ∷ l) g h = (g.0, g.1, digits_snoc d l g.2 h)

pub decimal_reads : (n : ℕ) → read 0 (decimal n) ≡ n
unfolding read
decimal_reads = by_digits (λ n l. read 0 l ≡ n) (λ n h. omega arith) (λ n l h e. read_snoc 0 (48 + n % 10) l ∙ omega arith)

pub decimal_front : (n : ℕ) → (0 < length (decimal n)) × (0 < n → 48 < get_or (decimal n) 0 0)
decimal_front = by_digits (λ n l. (0 < length l) × (0 < n → 48 < get_or l 0 0)) (λ n h. (omega arith, λ p. omega arith))
    (λ n l h e. (rw length-append (omega arith), λ p. rw (get_or-append l ((48 + n % 10) ∷ []) 0 0 e.0) (e.1 (omega arith))))

pub decimal_digits : (n : ℕ) → Digits (decimal n)
unfolding Digits
decimal_digits = by_digits (λ n l. Digits l) (λ n h. (omega arith, omega arith, tt)) (λ n l h g. digits_snoc (n % 10) l g (omega arith))

-- a number below a power of 10 takes no more digits than the exponent
pub decimal_few : (n k : ℕ) → n < 10 ^ suc k → length (decimal n) ≤ suc k
decimal_few = by_digits (λ n l. (k : ℕ) → n < 10 ^ suc k → length l ≤ suc k) (λ n h k p. omega arith) few
  where
    few : (n : ℕ) (l : List ℕ) → 10 ≤ n → ((k : ℕ) → n / 10 < 10 ^ suc k → length l ≤ suc k) → (k : ℕ) → n < 10 ^ suc k → length (l ++ ((48 + n % 10) ∷ [])) ≤ suc k
    few n l h e zero p = absurd (omega arith)
    few n l h e (suc k) p = rw length-append (omega (arith, e k (omega (arith, pow-suc 10 (suc k)))))

-- ---- as io writes it

glyph_digit : (d : ℕ) → d < 10 → hex_digit_ascii d ≡ 48 + d
glyph_digit d h = rw (lt-ltb d 10 h)

-- a number of two digits or more is at least 10, and n / 10 takes one digit fewer
module _ (n k : ℕ) (f : IsDigitCount 10 1 n (suc (suc k))) where
  low : 10 ^ k * 10 ≤ n
  low = let e : suc (suc k) - 1 ≡ suc k = omega arith in rw (e, pow-suc) at (f.2 (omega arith))

  two_digits : 10 ≤ n
  two_digits = omega (arith, low, one-le-pow k 10 (lit< tt))

  fewer : IsDigitCount 10 1 (n / 10) (suc k)
  fewer = (omega arith, omega (arith, f.1, pow-suc 10 (suc k)), λ h. let e : suc k - 1 ≡ k = omega arith in rw e (omega (arith, low)))

pub digits_decimal : (n r : ℕ) → IsDigitCount 10 1 n r → last_digits 10 r n ≡ decimal n
digits_decimal = by_digits (λ n l. (r : ℕ) → IsDigitCount 10 1 n r → last_digits 10 r n ≡ l) one more
  where
    one : (n : ℕ) → n < 10 → (r : ℕ) → IsDigitCount 10 1 n r → last_digits 10 r n ≡ (48 + n) ∷ []
    one n h zero f = absurd (omega (arith, f.0))
    one n h (suc zero) f = ap (λ (d : ℕ). d ∷ []) (ap hex_digit_ascii (mod-eq_of_lt h) ∙ glyph_digit n h)
    one n h (suc (suc k)) f = absurd (omega (arith, two_digits n k f))

    more : (n : ℕ) (l : List ℕ) → 10 ≤ n → ((r : ℕ) → IsDigitCount 10 1 (n / 10) r → last_digits 10 r (n / 10) ≡ l) → (r : ℕ) → IsDigitCount 10 1 n r → last_digits 10 r n ≡ l ++ ((48 + n % 10) ∷ [])
    more n l h e zero f = absurd (omega (arith, f.0))
    more n l h e (suc zero) f = absurd (omega (arith, f.1))
    more n l h e (suc (suc k)) f = ap₂ (λ (x : List ℕ) (d : ℕ). x ++ (d ∷ [])) (e (suc k) (fewer n k f)) (glyph_digit (n % 10) (omega arith))
