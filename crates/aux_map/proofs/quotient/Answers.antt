-- `aux_map::quotient` meets its contract: a power of two has as many zeros at its end as its exponent says. Assumes nothing.
use mathlib.Core.Path.{◌≡◌, refl, sym, ◌∙◌, ap}
use Prim.Native.Nat.{ℕ, zero, suc, ◌/◌, ◌%◌, ◌^◌, ◌≤◌, ◌<◌}
use native.Mathlib.Nat.{pow-suc, not-suc-le-zero, le_of_suc-le-suc}
use native.Mathlib.Omega.{arith}
use native.Mathlib.Decide.{dec_lt}
use borrow.Author.Rules.{rules}
use lib.Count.{count_trailing_zeros, under}
use lib.Pow.{pow_mono}
use Rattle.aux_map.specs.Sizes.{Power}
use Rattle.aux_map.proofs.quotient.Goals as goal

trailing_power : (d i : ℕ) → i < d → count_trailing_zeros d (2 ^ i) ≡ i
unfolding count_trailing_zeros
trailing_power zero i h = absurd (not-suc-le-zero h)
trailing_power (suc d) zero h = refl
trailing_power (suc d) (suc i) h =
    let e : 2 ^ suc i % 2 ≡ 0 = rw (pow-suc 2 i) (omega arith) in
    let f : 2 ^ suc i / 2 ≡ 2 ^ i = rw (pow-suc 2 i) (omega arith) in
    ap (λ (r : ℕ). under r (count_trailing_zeros d (2 ^ suc i / 2))) e ∙ ap (λ (x : ℕ). suc (count_trailing_zeros d x)) f ∙ ap suc (trailing_power d i (le_of_suc-le-suc h))

-- the exponent of a word of 64 bits

small : (n : ℕ) (p : Power n) → n < 2 ^ 64 → p.lg < 64
small n p h = go (dec_lt p.lg 64)
  where
    go : Dec (p.lg < 64) → p.lg < 64
    go (yes l) = l
    go (no l) = let m : 64 ≤ p.lg = omega arith in absurd (omega (arith, pow_mono m, p.power))

zeros : (n : ℕ) (p : Power n) → n < 2 ^ 64 → count_trailing_zeros 64 n ≡ p.lg
zeros n p h = ap (count_trailing_zeros 64) p.power ∙ trailing_power 64 p.lg (small n p h)

pub returns : goal.returns
returns c = ap (λ (e : ℕ). c.args.x / 2 ^ e) (zeros _ c.requires (search rules)) ∙ ap (λ (n : ℕ). c.args.x / n) (sym c.requires.power)
