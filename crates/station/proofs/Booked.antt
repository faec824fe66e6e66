-- What the book says of the tour's calls: one table, proved by computing under one unfolding. Assumes nothing.
use mathlib.Core.Path.{◌≡◌, refl}
use mathlib.Core.Bool.{not}
use mathlib.Core.List.{List, [], ◌∷◌}
use Prim.Native.Nat.{ℕ}
use lib.Dec.{T}
use lib.Ieee.{is_nan, binary64, to_bits}
use lib.ListN.{replicate}
use Rattle.model.specs.Sketch.{sketch_of}
use Rattle.model.specs.Calls.{Out, out, start_of, feed_of, merge_of, Summed, sums_of}
use Rattle.model.specs.Image.{wrote, write_of}
use Rattle.model.specs.declared.Sketch.{Sketch}
use Rattle.model.proofs.Computing.{book}
use Rattle.station.specs.declared.Totals.{Totals}
use Rattle.station.specs.Tour.{three_at_five, zero_at_fifteen, eight, four, joined, totals, flat}

-- a feed of what a call gave back
abbrev pub fed_to : Out → List ℕ → ℕ → Out
fed_to o scratch coupon = feed_of o.sketch o.regs o.aux scratch (coupon ∷ [])

-- the memory that each sketch is started in
abbrev pub start8 : Out
start8 = start_of 8 4 (replicate 16 7) (replicate 1 9)

abbrev pub start4 : Out
start4 = start_of 4 4 (replicate 8 7) (replicate 8 9)

-- the record that is refused
abbrev pub odd : Sketch
odd = sketch_of 5 4 0 14 0

-- the joined sketch's sums, and their bits
abbrev pub sums : Summed
sums = sums_of joined.sketch joined.regs (replicate 1 9)

abbrev pub totals_from : Summed → Totals
totals_from s = record { answer = s.no; low = to_bits binary64 s.low; high = to_bits binary64 s.high }

-- the table
pub record Booked : Type 0 where
  pub starts_8 : start8 ≡ out 0 0 (sketch_of 8 4 0 16 0) 0 (replicate 16 0) (replicate 1 9)
  pub feeds_8 : fed_to start8 (replicate 1 5) three_at_five ≡ out 0 0 eight.sketch 1 eight.regs (replicate 1 9)
  pub starts_4 : start4 ≡ out 0 0 (sketch_of 4 4 0 16 0) 0 (replicate 8 0) (replicate 8 0)
  pub feeds_4 : fed_to start4 (replicate 8 5) zero_at_fifteen ≡ out 0 0 four.sketch 1 four.regs four.aux
  pub merges : merge_of eight.sketch eight.regs four.sketch four.regs four.aux ≡ out 0 0 joined.sketch 0 joined.regs []
  pub refuses : feed_of odd joined.regs (replicate 1 9) (replicate 1 5) (three_at_five ∷ []) ≡ out 1 0 odd 0 joined.regs (replicate 1 9)
  pub low : T (not (is_nan sums.low))
  pub high : T (not (is_nan sums.high))
  pub bits : totals_from sums ≡ totals
  pub writes : write_of four.sketch four.regs four.aux (replicate 52 3) ≡ wrote 0 52 flat.bytes

pub booked : Booked
unfolding book is_nan
booked = record { starts_8 = refl; feeds_8 = refl; starts_4 = refl; feeds_4 = refl; merges = refl; refuses = refl; low = tt; high = tt; bits = refl; writes = refl }
