-- What start leaves, by its bytes: an empty sketch is all zeros but for its number of zeros. And what a batch leaves of kinds 6 and 8. Assumes nothing.
use mathlib.Core.Path.{◌≡◌, refl, ap, ◌∙◌}
use mathlib.Core.Bool.{Bool, true, false}
use mathlib.Core.List.{List, [], ◌∷◌, map}
use Prim.Native.Nat.{ℕ, zero, suc, ◌+◌, ◌-◌, ◌/◌, ◌^◌, ◌<◌}
use native.Mathlib.Omega.{arith}
use lib.Dec.{eqb}
use lib.ListN.{length, replicate, length-replicate}
use lib.Pow.{pow_pos}
use borrow.Author.Tests.{eq-eqb, ne_eqb, eqb-true, lt-leb}
use Rattle.model.specs.Pick.{pick}
use Rattle.model.specs.Coupon.{value, home}
use Rattle.model.specs.Registers.{raise, fed, least, count_of, above}
use Rattle.model.specs.Packed.{number, digits, packed}
use Rattle.model.specs.Table.{laid}
use Rattle.model.specs.Steps.{Ran, ran}
use Rattle.model.specs.Four.{State, state, nibble, stored_at}
use Rattle.model.specs.Sketch.{sketch_of, bytes_of, low_of, record_of, stored, area_of}
use Rattle.model.specs.Calls.{step_of}
use Rattle.model.proofs.packing.Lengths.{if_four}
use Rattle.model.proofs.packing.Digits.{digits_zero}

-- ---- registers that are all zero
least_zeros : (k : ℕ) → 0 < k → least (replicate k 0) ≡ 0
unfolding least
least_zeros zero h = absurd (omega arith)
least_zeros (suc k) h = omega arith

count_zeros : (k : ℕ) → count_of 0 (replicate k 0) ≡ k
unfolding count_of
count_zeros zero = refl
count_zeros (suc k) = ap suc (count_zeros k)

above_zeros : (n k : ℕ) → 0 < n → above n (replicate k 0) ≡ 0
unfolding above
above_zeros n zero h = refl
above_zeros n (suc k) h = rw (lt-leb n 0 h) (above_zeros n k h)

number_zeros : (c k : ℕ) → number c (replicate k 0) ≡ 0
unfolding number
number_zeros c zero = refl
number_zeros c (suc k) = rw (number_zeros c k) (omega arith)

map_zeros : (k : ℕ) → map (nibble 0) (replicate k 0) ≡ replicate k 0
map_zeros zero = refl
map_zeros (suc k) = ap (λ (l : List ℕ). 0 ∷ l) (map_zeros k)

packed_zeros : (w n k : ℕ) → packed w n (replicate k 0) ≡ replicate n 0
unfolding packed
packed_zeros w n k = ap (digits 256 n) (number_zeros (2 ^ w) k) ∙ digits_zero 256 n

pub record_zeros : (kind lgk : ℕ) → record_of kind lgk (replicate (2 ^ lgk) 0) ≡ sketch_of kind lgk 0 (2 ^ lgk) 0
unfolding record_of low_of
record_zeros kind lgk = go (eqb kind 4)
  where
    z : List ℕ
    z = replicate (2 ^ lgk) 0

    low : least (replicate (2 ^ lgk) 0) ≡ 0
    low = least_zeros (2 ^ lgk) (pow_pos lgk)

    go : (b : Bool) → sketch_of kind lgk (pick b (least (replicate (2 ^ lgk) 0)) 0) (count_of (pick b (least (replicate (2 ^ lgk) 0)) 0) (replicate (2 ^ lgk) 0)) (pick b (above (least (replicate (2 ^ lgk) 0) + 15) (replicate (2 ^ lgk) 0)) 0) ≡ sketch_of kind lgk 0 (2 ^ lgk) 0
    go true = rw (low, count_zeros (2 ^ lgk), above_zeros 15 (2 ^ lgk) (omega arith))
    go false = rw (count_zeros (2 ^ lgk))

pub stored_zeros : (kind lgk : ℕ) → stored kind lgk (replicate (2 ^ lgk) 0) ≡ replicate (bytes_of kind lgk) 0
unfolding stored stored_at
stored_zeros kind lgk = go (eqb kind 4) refl
  where
    go : (b : Bool) → eqb kind 4 ≡ b
        → pick b (packed 4 (length (replicate {A = ℕ} (2 ^ lgk) 0) / 2) (map (nibble (least (replicate (2 ^ lgk) 0))) (replicate (2 ^ lgk) 0))) (packed kind (bytes_of kind lgk) (replicate (2 ^ lgk) 0)) ≡ replicate (bytes_of kind lgk) 0
    go true q = rw (least_zeros (2 ^ lgk) (pow_pos lgk), map_zeros (2 ^ lgk), length-replicate {A = ℕ} (2 ^ lgk) 0, packed_zeros 4 (2 ^ lgk / 2) (2 ^ lgk)) (rw (if_four lgk (eqb-true kind 4 q)))
    go false q = packed_zeros kind (bytes_of kind lgk) (2 ^ lgk)

pub area_zeros : (kind : ℕ) (aux : List ℕ) → kind ≡ 4 → area_of kind [] aux ≡ replicate (length aux) 0
unfolding area_of laid
area_zeros kind aux e = rw (eq-eqb kind 4 e) (ap (λ (n : ℕ). replicate n 0) (let z : length aux - 0 ≡ length aux = omega arith in z))

-- ---- kinds 6 and 8 take every coupon
pub plain_ran : (kind lgk room : ℕ) (a : State) (cs : List ℕ) → (kind ≡ 4 → ⊥) → ran (step_of kind lgk room) a cs ≡ record { state = state (fed (2 ^ lgk) a.regs cs) a.table; count = length cs; no = 0 }
unfolding ran fed step_of
plain_ran kind lgk room a [] n = refl
plain_ran kind lgk room a (c ∷ cs) n =
    rw (ne_eqb kind 4 n)
    (ap (λ (r : Ran State). record { state = r.state; count = suc r.count; no = r.no }) (plain_ran kind lgk room (state (raise a.regs (home (2 ^ lgk) c) (value c)) a.table) cs n))
