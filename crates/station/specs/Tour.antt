-- What the tour must see: everything that its calls give back, in numbers.
use Rattle.std.specs.Prelude.{[], ◌∷◌, ℕ}
use Rattle.model.specs.Coupon.{word}
use Rattle.model.specs.Sketch.{sketch_of}
use Rattle.station.specs.declared.Eight.{Eight}
use Rattle.station.specs.declared.Four.{Four}
use Rattle.station.specs.declared.Joined.{Joined}
use Rattle.station.specs.declared.Refused.{Refused}
use Rattle.station.specs.declared.Totals.{Totals}
use Rattle.station.specs.declared.Flat.{Flat}

-- the two coupons
abbrev pub three_at_five : ℕ
three_at_five = word 3 5

abbrev pub zero_at_fifteen : ℕ
zero_at_fifteen = word 0 15

-- kind 8, lg_k 4: register 3 at 5
abbrev pub eight : Eight
eight = record { taken = 1; sketch = sketch_of 8 4 0 15 0; regs = 0 ∷ 0 ∷ 0 ∷ 5 ∷ 0 ∷ 0 ∷ 0 ∷ 0 ∷ 0 ∷ 0 ∷ 0 ∷ 0 ∷ 0 ∷ 0 ∷ 0 ∷ 0 ∷ [] }

-- kind 4, lg_k 4: register 0 at 15 is an exception, its nibble 15 and its word first in the area
abbrev pub four : Four
four = record { taken = 1; sketch = sketch_of 4 4 0 15 1; regs = 15 ∷ 0 ∷ 0 ∷ 0 ∷ 0 ∷ 0 ∷ 0 ∷ 0 ∷ []; aux = zero_at_fifteen ∷ 0 ∷ 0 ∷ 0 ∷ 0 ∷ 0 ∷ 0 ∷ 0 ∷ [] }

-- both: of sixteen registers fourteen are still zero
abbrev pub joined : Joined
joined = record { sketch = sketch_of 8 4 0 14 0; regs = 15 ∷ 0 ∷ 0 ∷ 5 ∷ 0 ∷ 0 ∷ 0 ∷ 0 ∷ 0 ∷ 0 ∷ 0 ∷ 0 ∷ 0 ∷ 0 ∷ 0 ∷ 0 ∷ [] }

-- there is no kind 5: KIND, no coupon taken, and the registers as they were
abbrev pub refused : Refused
refused = record { answer = 1; taken = 0; regs = joined.regs }

-- kxq0 is 14 + 2^-5 + 2^-15 and kxq1 is +0, as the bits of their doubles
abbrev pub totals : Totals
totals = record { answer = 0; low = 0x402c100400000000; high = 0 }

-- the kind 4 sketch's image: a header of 40 bytes with kxq0 = 15 + 2^-15, 8 register bytes, one exception word
abbrev pub flat : Flat
flat = record {
  len = 52;
  bytes =
      10 ∷ 1 ∷ 7 ∷ 4 ∷ 0 ∷ 24 ∷ 0 ∷ 2
      ∷ 0 ∷ 0 ∷ 0 ∷ 0 ∷ 0 ∷ 0 ∷ 0 ∷ 0
      ∷ 0 ∷ 0 ∷ 0 ∷ 0 ∷ 4 ∷ 0 ∷ 46 ∷ 64
      ∷ 0 ∷ 0 ∷ 0 ∷ 0 ∷ 0 ∷ 0 ∷ 0 ∷ 0
      ∷ 15 ∷ 0 ∷ 0 ∷ 0 ∷ 1 ∷ 0 ∷ 0 ∷ 0
      ∷ 15 ∷ 0 ∷ 0 ∷ 0 ∷ 0 ∷ 0 ∷ 0 ∷ 0
      ∷ 0 ∷ 0 ∷ 0 ∷ 60 ∷ [];
}
