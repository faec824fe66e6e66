-- Every nibble lowered, by bytes: what `lower_byte` and the loop of `lower` leave. Assumes nothing.
use mathlib.Core.Path.{◌≡◌, refl, sym, ◌∙◌, ap, subst}
use mathlib.Core.Bool.{Bool, true, false}
use mathlib.Core.List.{List}
use mir.Val.{bool_byte}
use Prim.Native.Nat.{ℕ, suc, ◌+◌, ◌-◌, ◌*◌, ◌/◌, ◌%◌, ◌≤◌, ◌<◌}
use native.Mathlib.Nat.{not-suc-le-zero, le_refl}
use native.Mathlib.Omega.{arith}
use native.Mathlib.Decide.{ℕ_discrete, dec_lt}
use lib.Dec.{eqb, ltb}
use lib.ListN.{length, get_or, set, length-set}
use lib.Seq.{get_or-set_same, get_or-set_other}
use Rattle.model.specs.Pick.{pick}
use Rattle.model.specs.Registers.{count_of}
use Rattle.model.specs.Packed.{Bytes, slot_at, unpacked}
use Rattle.model.proofs.packing.Packing.{length_unpacked, get_or_unpacked}
use Rattle.model.proofs.table.Counting.{marks, marks_le, marks_same, count_marks}
use Rattle.packed.proofs.Cells.{get_one}
use Rattle.array4.specs.Rise.{lowered, lowered_byte, Above, Lowerable, Lowered}

-- ---- the two nibbles of a byte
module _ (bs : List ℕ) (h : Bytes bs) (j : ℕ) where
  even_nibble : slot_at 4 bs (2 * j) ≡ get_or bs j 0 % 16
  even_nibble = omega (arith, get_one 4 (2 * j) j 0 bs h (omega arith) (omega arith))

  odd_nibble : slot_at 4 bs (2 * j + 1) ≡ get_or bs j 0 / 16
  odd_nibble = omega (arith, h j, get_one 4 (2 * j + 1) j 4 bs h (omega arith) (omega arith))

lowered_lt : (n : ℕ) → n < 16 → lowered n < 16
lowered_lt n h = go (ltb n 15)
  where
    go : (b : Bool) → pick b (n - 1) n < 16
    go true = omega arith
    go false = h

module _ (b : ℕ) (h : b < 256) where
  low_half : lowered_byte b % 16 ≡ lowered (b % 16)
  low_half = let k = lowered_lt (b % 16) (omega arith) in omega arith

  high_half : lowered_byte b / 16 ≡ lowered (b / 16)
  high_half = let k = lowered_lt (b % 16) (omega arith) in omega arith

  lowered_byte_lem : lowered_byte b < 256
  lowered_byte_lem = let k = lowered_lt (b % 16) (omega arith) in let m = lowered_lt (b / 16) (omega arith) in omega arith

-- a test as a number
pub picked : (b : Bool) → bool_byte b ≡ pick b 1 0
picked true = refl
picked false = refl

-- ---- the loop: the first bytes are done, and n of their nibbles are zero
pub record Lowering (before now : List ℕ) (n at : ℕ) : Type 0 where
  pub bytes : Bytes before
  pub long : length now ≡ length before
  pub upto : at ≤ length before
  pub done : (i : ℕ) → i < at → get_or now i 0 ≡ lowered_byte (get_or before i 0)
  pub rest : (i : ℕ) → at ≤ i → get_or now i 0 ≡ get_or before i 0
  pub tally : n ≡ marks (λ s. eqb (lowered (slot_at 4 before s)) 0) (2 * at)

pub lowering_none : (before : List ℕ) → Bytes before → Lowering before before 0 0
unfolding marks
lowering_none before by = record {
  bytes = by;
  long = refl;
  upto = omega arith;
  done = λ i h. absurd (not-suc-le-zero h);
  rest = λ i h. refl;
  tally = refl;
}

module _ {before now : List ℕ} {n at : ℕ} (l : Lowering before now n at) where
  by : Bytes before
  by = l.bytes

  pub lowering_few : n ≤ 2 * at
  lowering_few = omega (arith, l.tally, marks_le (λ s. eqb (lowered (slot_at 4 before s)) 0) (2 * at))

  module _ (h : at < length before) where
    here : get_or now at 0 ≡ get_or before at 0
    here = l.rest at (le_refl at)

    pub lowering_above : Lowerable before → Above (get_or now at 0)
    lowering_above can = record {
      even = omega (arith, here, even_nibble before by at, can.above (2 * at) (omega arith));
      odd = omega (arith, here, odd_nibble before by at, can.above (2 * at + 1) (omega arith));
    }

    pub lowering_more : (b even odd : ℕ) → b ≡ lowered_byte (get_or now at 0) → even ≡ pick (eqb (b % 16) 0) 1 0 → odd ≡ pick (eqb (b / 16) 0) 1 0
        → Lowering before (set now at b) (n + (even + odd)) (at + 1)
    unfolding marks
    lowering_more b even odd eb ee eo = record {
      bytes = by;
      long = length-set now at b ∙ l.long;
      upto = omega arith;
      done = λ i k. done i k (ℕ_discrete i at);
      rest = λ i k. get_or-set_other now at i b 0 (omega arith) ∙ l.rest i (omega arith);
      tally = subst (λ (m : ℕ). n + (even + odd) ≡ marks p m) (let z : suc (suc (2 * at)) ≡ 2 * (at + 1) = omega arith in z)
          (two (p (2 * at)) (p (suc (2 * at))) (ee ∙ ap (λ (x : ℕ). pick (eqb x 0) 1 0) even_is) (eo ∙ ap (λ (x : ℕ). pick (eqb x 0) 1 0) odd_is));
    }
      where
        p : ℕ → Bool
        p s = eqb (lowered (slot_at 4 before s)) 0

        is : b ≡ lowered_byte (get_or before at 0)
        is = eb ∙ ap lowered_byte here

        even_is : b % 16 ≡ lowered (slot_at 4 before (2 * at))
        even_is = ap (λ (x : ℕ). x % 16) is ∙ low_half (get_or before at 0) (by at) ∙ ap lowered (sym (even_nibble before by at))

        odd_is : b / 16 ≡ lowered (slot_at 4 before (suc (2 * at)))
        odd_is =
            ap (λ (x : ℕ). x / 16) is ∙ high_half (get_or before at 0) (by at)
            ∙ ap lowered (sym (odd_nibble before by at) ∙ ap (slot_at 4 before) (let z : 2 * at + 1 ≡ suc (2 * at) = omega arith in z))

        done : (i : ℕ) → i < at + 1 → Dec (i ≡ at) → get_or (set now at b) i 0 ≡ lowered_byte (get_or before i 0)
        done i k (yes e) = subst (λ (j : ℕ). get_or (set now at b) j 0 ≡ lowered_byte (get_or before j 0)) (sym e) (get_or-set_same now at b 0 (omega (arith, l.long)) ∙ is)
        done i k (no e) = get_or-set_other now at i b 0 e ∙ l.done i (omega arith)

        two : (x y : Bool) → even ≡ pick x 1 0 → odd ≡ pick y 1 0 → n + (even + odd) ≡ pick y (suc (pick x (suc (marks p (2 * at))) (marks p (2 * at)))) (pick x (suc (marks p (2 * at))) (marks p (2 * at)))
        two true true f g = omega (arith, l.tally)
        two true false f g = omega (arith, l.tally)
        two false true f g = omega (arith, l.tally)
        two false false f g = omega (arith, l.tally)

  pub lowering_all : at ≡ length before → Lowered before now n
  lowering_all e = record { long = l.long; slots = slots; tally = tally }
    where
      new : Bytes now
      new i = go (dec_lt i at)
        where
          go : Dec (i < at) → get_or now i 0 < 256
          go (yes h) = omega (arith, l.done i h, lowered_byte_lem (get_or before i 0) (by i))
          go (no h) = omega (arith, l.rest i (omega arith), by i)

      slots : (s : ℕ) → s < 2 * length before → slot_at 4 now s ≡ lowered (slot_at 4 before s)
      slots s h = go (ℕ_discrete (s % 2) 0)
        where
          go : Dec (s % 2 ≡ 0) → slot_at 4 now s ≡ lowered (slot_at 4 before s)
          go (yes z) =
              subst (λ (i : ℕ). slot_at 4 now i ≡ lowered (slot_at 4 before i)) (let q : 2 * (s / 2) ≡ s = omega arith in q)
              (even_nibble now new (s / 2) ∙ ap (λ (x : ℕ). x % 16) (l.done (s / 2) (omega arith)) ∙ low_half (get_or before (s / 2) 0) (by (s / 2)) ∙ ap lowered (sym (even_nibble before by (s / 2))))
          go (no z) =
              subst (λ (i : ℕ). slot_at 4 now i ≡ lowered (slot_at 4 before i)) (let q : 2 * (s / 2) + 1 ≡ s = omega arith in q)
              (odd_nibble now new (s / 2) ∙ ap (λ (x : ℕ). x / 16) (l.done (s / 2) (omega arith)) ∙ high_half (get_or before (s / 2) 0) (by (s / 2)) ∙ ap lowered (sym (odd_nibble before by (s / 2))))

      tally : n ≡ count_of 0 (unpacked 4 (2 * length before) now)
      tally =
          l.tally ∙ ap (λ (m : ℕ). marks (λ s. eqb (lowered (slot_at 4 before s)) 0) (2 * m)) e
          ∙ sym (count_marks 0 (unpacked 4 (2 * length before) now) ∙ ap (marks (λ s. eqb (get_or (unpacked 4 (2 * length before) now) s 0) 0)) (length_unpacked 4 (2 * length before) now)
          ∙ marks_same _ _ (2 * length before) (λ s h. ap (λ (x : ℕ). eqb x 0) (get_or_unpacked 4 (2 * length before) now s h ∙ slots s h)))
