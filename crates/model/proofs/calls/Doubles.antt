-- The double n / 2 ^ k is exact, and so are the two sums; +0 for none. Assumes nothing.
use mathlib.Core.Path.{◌≡◌, refl, sym, ap, ◌∙◌, subst}
use Prim.Native.Nat.{ℕ, zero-le, ◌+◌, ◌-◌, ◌*◌, ◌^◌, ◌≤◌, ◌<◌}
use native.Mathlib.Nat.{mul_assoc, mul-one, zero-mul, lt_of_lt_of_le, eq-or-lt_of_le}
use native.Mathlib.Omega.{arith}
use mathlib.Core.Bool.{Bool, true, false}
use mathlib.Core.List.{List, [], ◌∷◌}
use mathlib.Core.Logic.{⊎_elim}
use lib.IntN.{pos}
use lib.Dec.{leb, ltb, lit<}
use lib.ListN.{length}
use lib.Pow.{pow-add, pow_pos, pow_mono, shl_lt}
use lib.Ieee.{fin, binary64, round}
use lib.Ieee.Exact.{HasValue, round_exact}
use lib.Ieee.Scale.{round_same}
use borrow.Author.Tests.{leb-true, ne_eqb}
use Rattle.model.specs.Pick.{pick, both}
use Rattle.model.specs.Sketch.{registers}
use Rattle.model.specs.Check.{check_no}
use Rattle.model.specs.Sums.{share, scaled, ratio}
use Rattle.model.specs.Calls.{sums_of}
use Rattle.model.specs.Claims.{ExactSums}
use Rattle.model.proofs.calls.Has.{ok_check, registers_long}

-- q of at most 53 digits, times a power of two, over 2 ^ k: the last digit counts 2 ^ -1074 at least
exact_at : (k q s : ℕ) → k ≤ 1074 → s ≤ 53 → q < 2 ^ 53 → HasValue (ratio k (q * 2 ^ s)) false (q * 2 ^ s) (2 ^ k)
unfolding ratio
exact_at k q s h f l =
    let whole : q * 2 ^ s * 2 ^ 1074 ≡ q * 2 ^ (s + (1074 - k)) * 2 ^ k =
    mul_assoc q (2 ^ s) (2 ^ 1074) ∙ ap (λ (z : ℕ). q * z) (sym (pow-add 2 s 1074) ∙ ap (λ (z : ℕ). 2 ^ z) (omega arith) ∙ pow-add 2 (s + (1074 - k)) k) ∙ sym (mul_assoc q (2 ^ (s + (1074 - k))) (2 ^ k)) in
    round_exact binary64 false (q * 2 ^ s) (2 ^ k) q (s + (1074 - k)) (pow_pos k) l
    (lt_of_lt_of_le (shl_lt 53 (s + (1074 - k)) l) (pow_mono {j = 2098} (omega arith)))
    whole

pub ratio_exact : (k n : ℕ) → k ≤ 1074 → n ≤ 2 ^ 53 → HasValue (ratio k n) false n (2 ^ k)
ratio_exact k n h l =
    ⊎_elim
    (λ (e : n ≡ 2 ^ 53). subst (λ (z : ℕ). HasValue (ratio k z) false z (2 ^ k)) (sym e) (exact_at k 1 53 h (omega arith) (lit< tt)))
    (λ (m : n < 2 ^ 53). subst (λ (z : ℕ). HasValue (ratio k z) false z (2 ^ k)) (mul-one n) (exact_at k n 0 h (omega arith) m))
    (eq-or-lt_of_le l)

-- +0 for none
at_one : round binary64 false 0 1 ≡ fin false 0 (pos 0)
unfolding round
at_one = refl

pub ratio_zero : (k : ℕ) → ratio k 0 ≡ fin false 0 (pos 0)
unfolding ratio
ratio_zero k = round_same binary64 false 0 (2 ^ k) 0 1 (pow_pos k) (lit< tt) (sym (zero-mul (2 ^ k))) ∙ at_one

-- ---- the sums
-- a register adds at most 2 ^ 31
share_le : (from v : ℕ) → share from v ≤ 2147483648
unfolding share
share_le from v = go (leb from v) (ltb v (from + 32)) (leb-true from v)
  where
    go : (s t : Bool) → (s ≡ true → from ≤ v) → pick (both s t) (2 ^ (from + 31 - v)) 0 ≤ 2147483648
    go true true a = pow_mono {j = 31} (omega (arith, a refl))
    go true false a = zero-le
    go false t a = zero-le

scaled_each : (from : ℕ) (R : List ℕ) → scaled from R ≤ 2147483648 * length R
unfolding scaled
scaled_each from [] = zero-le
scaled_each from (v ∷ vs) = omega (arith, share_le from v, scaled_each from vs)

pub scaled_le : (from : ℕ) (R : List ℕ) → length R ≤ 2 ^ 21 → scaled from R ≤ 2 ^ 52
scaled_le from R h = omega (arith, scaled_each from R)

pub exact_sums : ExactSums
unfolding sums_of scaled
exact_sums = record {
  exact = λ s regs aux g.
      let R = registers s regs aux in
      let few : length R ≤ 2 ^ 21 = rw (registers_long s regs aux g) (pow_mono g.shaped.high) in
      let a = scaled_le 0 R few in
      let b = scaled_le 32 R few in
      rw (ok_check true s regs aux refl g) (refl, (ratio_exact 31 (scaled 0 R) (omega arith) (omega arith), (ratio_exact 63 (scaled 32 R) (omega arith) (omega arith), (a, b))));
  none = λ s regs aux n. rw (ne_eqb (check_no true s regs aux) 0 n) (ratio_zero 31, ratio_zero 63);
}
