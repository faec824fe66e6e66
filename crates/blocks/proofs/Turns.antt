-- A list gone over in blocks, whatever it holds: where a block ends, what stands in it, what was gone over and what is left. Assumes nothing.
use mathlib.Core.Path.{◌≡◌, sym, ap, ◌∙◌, subst}
use mathlib.Core.List.{List, ◌++◌}
use Prim.Native.Nat.{ℕ, ◌+◌, ◌-◌, ◌*◌, ◌/◌, ◌%◌, ◌^◌, ◌≤◌, ◌<◌}
use native.Mathlib.Nat.{sub-add_cancel, suc-mul, mul-le-mul_right, mod-lt, zero-mod, zero-add, mod_self, div-add-mod', add-mul-mod_self_right}
use native.Mathlib.Numerals.{add-one}
use native.Mathlib.Omega.{arith}
use lib.ListN.{length, get_or, take, drop, length-drop, take-append-drop}
use lib.Pow.{pow-add, pow_pos, shr_lt, mod-mod-pow, split}
use lib.Seq.{get_or-take, get_or-drop, length-take-le, take-add, drop-drop}

-- ---- a block's place: blocks of 2 ^ r among 2 ^ lg slots
module _ {r lg : ℕ} (le : r ≤ lg) where
  sum : lg - r + r ≡ lg
  sum = sub-add_cancel le

  -- its end
  pub past : (from : ℕ) → from % 2 ^ r ≡ 0 → from < 2 ^ lg → from + 2 ^ r ≤ 2 ^ lg
  past from start inside =
      let q : from / 2 ^ r < 2 ^ (lg - r) = shr_lt (lg - r) r (subst (λ (n : ℕ). from < 2 ^ n) (sym sum) inside) in
      let all : 2 ^ (lg - r) * 2 ^ r ≡ 2 ^ lg = sym (pow-add 2 (lg - r) r) ∙ ap (λ (n : ℕ). 2 ^ n) sum in
      omega (arith, mul-le-mul_right (2 ^ r) q, suc-mul (from / 2 ^ r) (2 ^ r), split from r, all)

  -- and its place in a target of 2 ^ lg registers
  pub past_mod : (from : ℕ) → from % 2 ^ r ≡ 0 → from % 2 ^ lg + 2 ^ r ≤ 2 ^ lg
  past_mod from start = past (from % 2 ^ lg) (subst (λ (n : ℕ). from % 2 ^ n % 2 ^ r ≡ 0) sum (mod-mod-pow from (lg - r) r ∙ start)) (mod-lt from (pow_pos lg))

  -- a coarser measure
  pub start_mod : (from : ℕ) → from % 2 ^ lg ≡ 0 → from % 2 ^ r ≡ 0
  start_mod from start = sym (subst (λ (n : ℕ). from % 2 ^ n % 2 ^ r ≡ from % 2 ^ r) sum (mod-mod-pow from (lg - r) r)) ∙ ap (λ (n : ℕ). n % 2 ^ r) start ∙ zero-mod (2 ^ r)

-- the b-th block of m, as a loop counts them
pub block_start : (b m : ℕ) → b * m % m ≡ 0
block_start b m = ap (λ (n : ℕ). n % m) (sym (zero-add (b * m))) ∙ add-mul-mod_self_right 0 b m ∙ zero-mod m

pub block_inside : (b m k : ℕ) → 0 < m → b < k / m → b * m < k
block_inside b m k some l = omega (arith, mul-le-mul_right m l, suc-mul b m, div-add-mod' k m)

pub block_next : (b m : ℕ) {u : ℕ} → u ≡ m → b * m + u ≡ (b + 1) * m
block_next b m e = omega (arith, e, ap (λ (n : ℕ). n * m) (add-one b), suc-mul b m)

pub blocks_end : {r lg : ℕ} → r ≤ lg → (b k m : ℕ) → m ≡ 2 ^ r → k ≡ 2 ^ lg → k / m ≤ b → k ≤ b * m
blocks_end {r} {lg} le b k m e q h = omega (arith, mul-le-mul_right m h, div-add-mod' k m, whole)
  where
    whole : k % m ≡ 0
    whole = rw (q, e) (start_mod le (2 ^ lg) (mod_self (2 ^ lg)))

-- ---- a block of n
module _ (L : List ℕ) (from n : ℕ) (end : from + n ≤ length L) {out : List ℕ} (read : out ≡ take n (drop from L)) where
  pub turn_long : length out ≡ n
  turn_long = ap length read ∙ length-take-le n (drop from L) (rw (length-drop from L) (omega arith))

  pub turn_at : (i : ℕ) → i < n → get_or out i 0 ≡ get_or L (from + i) 0
  turn_at i l = ap (λ (x : List ℕ). get_or x i 0) read ∙ get_or-take n (drop from L) i 0 l ∙ get_or-drop from L i 0

  -- what was gone over
  pub turn_taken : take from L ++ out ≡ take (from + n) L
  turn_taken = ap (λ (x : List ℕ). take from L ++ x) read ∙ sym (take-add from n L)

  -- what is left
  pub turn_left : drop from L ≡ out ++ drop (from + n) L
  turn_left = sym (ap (λ (x : List ℕ). x ++ drop (from + n) L) read ∙ ap (λ (x : List ℕ). take n (drop from L) ++ x) (sym (drop-drop n from L)) ∙ take-append-drop n (drop from L))
