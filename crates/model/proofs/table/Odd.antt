-- An odd step visits every place of a table whose size is a power of two exactly once in size steps: `covers` and `apart`.
-- Both go by induction on the exponent, from the size M to 2 * M, and by the two digits, of which the high one is a parity.
-- Assumes nothing.
use mathlib.Core.Path.{◌≡◌, refl, sym, ◌∙◌, ap, ap₂, subst}
use Prim.Native.Nat.{ℕ, zero, suc, ◌+◌, ◌*◌, ◌/◌, ◌%◌, ◌^◌, ◌<◌}
use native.Mathlib.Nat.{pow-succ', mod-one, mod-lt, div-add-mod', add-mul-div_right, add-mul-mod_self_right, add-mul, add_assoc, mul_comm, mul_assoc, div-lt_iff_lt-mul}
use native.Mathlib.Omega.{arith}
use native.Mathlib.Decide.{ℕ_discrete}
use lib.Arith.{mod-mul, digits_div, digits_mod}
use lib.Pow.{pow_pos}

module _ (M a s : ℕ) (pos : 0 < M) where
  -- k rounds of M steps more: the place in the table of size M stays, and the digit above it moves by k * s
  shift : (n k : ℕ) → a + (n + k * M) * s ≡ (a + n * s) + (k * s) * M
  shift n k =
      ap (λ (x : ℕ). a + x) (add-mul n (k * M) s ∙ ap (λ (x : ℕ). n * s + x) (mul_assoc k M s ∙ ap (λ (x : ℕ). k * x) (mul_comm M s) ∙ sym (mul_assoc k s M)))
      ∙ sym (add_assoc a (n * s) ((k * s) * M))

  low : (n k : ℕ) → (a + (n + k * M) * s) % M ≡ (a + n * s) % M
  low n k = ap (λ (x : ℕ). x % M) (shift n k) ∙ add-mul-mod_self_right (a + n * s) (k * s) M

  high : (n k : ℕ) → (a + (n + k * M) * s) / M ≡ (a + n * s) / M + k * s
  high n k = ap (λ (x : ℕ). x / M) (shift n k) ∙ add-mul-div_right (a + n * s) (k * s) pos

  twice : (x : ℕ) → x % (2 * M) ≡ (x / M % 2) * M + x % M
  twice x = mod-mul x (omega arith) pos

  double : (p n : ℕ) → s % 2 ≡ 1 → p < 2 * M → n < M → (a + n * s) % M ≡ p % M → (k : ℕ) × (k < 2 * M) × ((a + k * s) % (2 * M) ≡ p)
  double p n o h l e = go (ℕ_discrete ((a + n * s) / M % 2) (p / M))
    where
      p_high : p / M < 2
      p_high = (div-lt_iff_lt-mul pos).1 h

      go : Dec ((a + n * s) / M % 2 ≡ p / M) → (k : ℕ) × (k < 2 * M) × ((a + k * s) % (2 * M) ≡ p)
      go (yes q) = (n, omega arith, twice (a + n * s) ∙ ap₂ (λ (u v : ℕ). u * M + v) q e ∙ div-add-mod' p M)
      go (no q) = (
        n + 1 * M,
        omega arith,
        twice (a + (n + 1 * M) * s)
            ∙ ap₂ (λ (u v : ℕ). u * M + v) (ap (λ (x : ℕ). x % 2) (high n 1) ∙ omega (arith, p_high)) (low n 1 ∙ e)
            ∙ div-add-mod' p M,
      )

  -- one place in the table of size 2 * M: one in that of size M, and one digit above it
  low_same : (x y : ℕ) → x % (2 * M) ≡ y % (2 * M) → x % M ≡ y % M
  low_same x y e =
      sym (digits_mod (x / M % 2) (mod-lt x pos)) ∙ ap (λ (z : ℕ). z % M) (sym (twice x) ∙ e ∙ twice y) ∙ digits_mod (y / M % 2) (mod-lt y pos)

  high_same : (x y : ℕ) → x % (2 * M) ≡ y % (2 * M) → x / M % 2 ≡ y / M % 2
  high_same x y e =
      sym (digits_div (x / M % 2) (mod-lt x pos)) ∙ ap (λ (z : ℕ). z / M) (sym (twice x) ∙ e ∙ twice y) ∙ digits_div (y / M % 2) (mod-lt y pos)

  parity : (x u v : ℕ) → s % 2 ≡ 1 → u < 2 → v < 2 → (x + u * s) % 2 ≡ (x + v * s) % 2 → u ≡ v
  parity x zero zero o hu hv e = refl
  parity x zero (suc zero) o hu hv e = absurd (omega arith)
  parity x (suc zero) zero o hu hv e = absurd (omega arith)
  parity x (suc zero) (suc zero) o hu hv e = refl
  parity x zero (suc (suc v)) o hu hv e = absurd (omega arith)
  parity x (suc zero) (suc (suc v)) o hu hv e = absurd (omega arith)
  parity x (suc (suc u)) v o hu hv e = absurd (omega arith)

  halve : (m n : ℕ) → s % 2 ≡ 1 → m < 2 * M → n < 2 * M
      → ((a + m % M * s) % M ≡ (a + n % M * s) % M → m % M ≡ n % M)
      → (a + m * s) % (2 * M) ≡ (a + n * s) % (2 * M) → m ≡ n
  halve m n o hm hn ih e = parts m ∙ ap₂ (λ (u v : ℕ). u + v * M) lows highs ∙ sym (parts n)
    where
      parts : (x : ℕ) → x ≡ x % M + x / M * M
      parts x = omega (arith, div-add-mod' x M)

      place_of : (x : ℕ) → a + x * s ≡ a + (x % M + x / M * M) * s
      place_of x = ap (λ (z : ℕ). a + z * s) (parts x)

      e' : (a + (m % M + m / M * M) * s) % (2 * M) ≡ (a + (n % M + n / M * M) * s) % (2 * M)
      e' = ap (λ (z : ℕ). z % (2 * M)) (sym (place_of m)) ∙ e ∙ ap (λ (z : ℕ). z % (2 * M)) (place_of n)

      lows : m % M ≡ n % M
      lows = ih (sym (low (m % M) (m / M)) ∙ low_same _ _ e' ∙ low (n % M) (n / M))

      highs : m / M ≡ n / M
      highs =
          parity ((a + m % M * s) / M) (m / M) (n / M) o ((div-lt_iff_lt-mul pos).1 hm) ((div-lt_iff_lt-mul pos).1 hn)
          (ap (λ (z : ℕ). z % 2) (sym (high (m % M) (m / M)))
          ∙ high_same _ _ e'
          ∙ ap (λ (z : ℕ). z % 2) (high (n % M) (n / M))
          ∙ ap (λ (z : ℕ). ((a + z * s) / M + n / M * s) % 2) (sym lows))

-- for every place p, some n below the size goes there
pub covers : (L a s p : ℕ) → s % 2 ≡ 1 → p < 2 ^ L → (n : ℕ) × (n < 2 ^ L) × ((a + n * s) % 2 ^ L ≡ p)
covers zero a s p o h = (0, (omega arith), mod-one _ ∙ omega arith)
covers (suc L) a s p o h =
    subst (λ (N : ℕ). (n : ℕ) × (n < N) × ((a + n * s) % N ≡ p)) (sym (pow-succ' 2 L))
    (let (n, l, e) = covers L a s (p % 2 ^ L) o (mod-lt p (pow_pos L)) in
    double (2 ^ L) a s (pow_pos L) p n o (subst (λ (N : ℕ). p < N) (pow-succ' 2 L) h) l e)

-- two numbers of steps below the size that go to one place are equal
pub apart : (L a s m n : ℕ) → s % 2 ≡ 1 → m < 2 ^ L → n < 2 ^ L → (a + m * s) % 2 ^ L ≡ (a + n * s) % 2 ^ L → m ≡ n
apart zero a s m n o hm hn e = omega arith
apart (suc L) a s m n o hm hn e =
    halve (2 ^ L) a s (pow_pos L) m n o (rw (pow-succ' 2 L) at hm) (rw (pow-succ' 2 L) at hn)
    (apart L a s (m % 2 ^ L) (n % 2 ^ L) o (mod-lt m (pow_pos L)) (mod-lt n (pow_pos L)))
    (rw (pow-succ' 2 L) at e)
