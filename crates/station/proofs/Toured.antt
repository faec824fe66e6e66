-- What the tour's functions return, from the equations that are their calls' contracts: each is led to the book's table. Assumes nothing.
use mathlib.Core.Path.{◌≡◌, refl, ap, ◌∙◌}
use mathlib.Core.Bool.{not}
use mathlib.Core.List.{List, [], ◌∷◌}
use Prim.Native.Nat.{ℕ}
use native.Mathlib.Omega.{arith}
use lib.Dec.{T}
use lib.Ieee.{is_nan, binary64, to_bits}
use lib.ListN.{replicate}
use Rattle.std.specs.Prelude.{Result, Ok, Err, IsOk, IsErr}
use Rattle.model.specs.Answers.{refusal_no}
use Rattle.model.specs.Calls.{Out, out, kept_or, made_out, fed_out, feed_of, merge_of, Summed, sums_of}
use Rattle.model.specs.Image.{Written, wrote, wrote_out, write_of}
use Rattle.model.specs.declared.Sketch.{Sketch}
use Rattle.model.specs.declared.Refusal.{Refusal}
use Rattle.model.specs.declared.Fed.{Fed}
use Rattle.model.specs.declared.Stopped.{Stopped}
use Rattle.model.proofs.calls.Refusals.{refusal_some}
use Rattle.sums.specs.declared.Sums.{Sums}
use Rattle.sums.specs.Tally.{summed}
use Rattle.station_routes.proofs.Given.{kept_ok, fed_ok}
use Rattle.station.specs.declared.Eight.{Eight}
use Rattle.station.specs.declared.Four.{Four}
use Rattle.station.specs.declared.Joined.{Joined}
use Rattle.station.specs.declared.Refused.{Refused}
use Rattle.station.specs.declared.Totals.{Totals}
use Rattle.station.specs.declared.Flat.{Flat}
use Rattle.station.specs.Tour.{three_at_five, eight, four, joined, refused, totals, flat}
use Rattle.station.proofs.Booked.{fed_to, odd, sums, totals_from, booked}

-- ---- which part of an answer each field is
abbrev pub eight_from : Out → Eight
eight_from o = record { taken = o.count; sketch = o.sketch; regs = o.regs }

abbrev pub four_from : Out → Four
four_from o = record { taken = o.count; sketch = o.sketch; regs = o.regs; aux = o.aux }

abbrev joined_from : Out → Joined
joined_from o = record { sketch = o.sketch; regs = o.regs }

abbrev refused_from : Out → Refused
refused_from o = record { answer = o.no; taken = o.count; regs = o.regs }

abbrev flat_from : Written → Flat
flat_from w = record { len = w.len; bytes = w.out }

-- ---- start, then feed: neither is refused, and what is made of the second answer
module _ {start : Out} (made : Result Sketch Refusal) (regs aux : List ℕ) (e : made_out made regs aux ≡ start) where
  pub starts : {o : Out} → start ≡ o → o.no ≡ 0 → IsOk made
  starts b n = kept_ok _ made regs aux (ap (λ (q : Out). q.no) (e ∙ b) ∙ n)

  module _ {s : Sketch} (is : made ≡ Ok s) (scratch : List ℕ) (coupon : ℕ) (fed : Result Fed Stopped) (regs' aux' : List ℕ) {p : Out}
      (f : fed_out fed regs' aux' ≡ feed_of s regs aux scratch (coupon ∷ [])) (g : fed_to start scratch coupon ≡ p) where
    fed_is : fed_out fed regs' aux' ≡ p
    fed_is = f ∙ ap (λ (o : Out). fed_to o scratch coupon) (rw is at e) ∙ g

    pub feeds : p.no ≡ 0 → IsOk fed
    feeds n = fed_ok fed regs' aux' (ap (λ (q : Out). q.no) fed_is ∙ n)

    pub filled : {A : Type 0} (from : Out → A) {x : Fed} → fed ≡ Ok x → from (out 0 0 x.sketch x.taken regs' aux') ≡ from p
    filled from q = ap from (rw q at fed_is)

-- ---- merge
module _ {e : Eight} {f : Four} (p : e ≡ eight) (q : f ≡ four) (made : Result Sketch Refusal) (regs : List ℕ)
    (m : kept_or e.sketch made regs [] ≡ merge_of e.sketch e.regs f.sketch f.regs f.aux) where
  merged_is : kept_or e.sketch made regs [] ≡ out 0 0 joined.sketch 0 joined.regs []
  merged_is =
      m ∙ ap (λ (z : Eight). merge_of z.sketch z.regs f.sketch f.regs f.aux) p ∙ ap (λ (z : Four). merge_of eight.sketch eight.regs z.sketch z.regs z.aux) q ∙ booked.merges

  pub merges : IsOk made
  merges = kept_ok _ made regs [] (ap (λ (o : Out). o.no) merged_is)

  pub joins : {t : Sketch} → made ≡ Ok t → ◌≡◌ {A = Joined} (record { sketch = t; regs = regs }) joined
  joins r = ap joined_from (rw r at merged_is)

-- ---- the refused feed
fed_err : (r : Result Fed Stopped) (regs aux : List ℕ) → (fed_out r regs aux).no ≡ 1 → IsErr r
fed_err (Ok f) regs aux h = absurd (omega arith)
fed_err (Err s) regs aux h = refl

module _ {j : Joined} (p : j ≡ joined) (fed : Result Fed Stopped) (regs aux : List ℕ)
    (f : fed_out fed regs aux ≡ feed_of odd j.regs (replicate 1 9) (replicate 1 5) (three_at_five ∷ [])) where
  stopped_is : fed_out fed regs aux ≡ out 1 0 odd 0 joined.regs (replicate 1 9)
  stopped_is = f ∙ ap (λ (z : Joined). feed_of odd z.regs (replicate 1 9) (replicate 1 5) (three_at_five ∷ [])) p ∙ booked.refuses

  pub stops : IsErr fed
  stops = fed_err fed regs aux (ap (λ (o : Out). o.no) stopped_is)

  pub refusals : {s : Stopped} {n : ℕ} → fed ≡ Err s → n ≡ refusal_no s.why → ◌≡◌ {A = Refused} (record { answer = n; taken = s.fed.taken; regs = regs }) refused
  refusals q r = rw r (ap refused_from (rw q at stopped_is))

-- ---- sums
module _ {j : Joined} {s : Sums} (p : j ≡ joined) (e : summed s ≡ sums_of j.sketch j.regs (replicate 1 9)) where
  is_booked : summed s ≡ sums
  is_booked = e ∙ ap (λ (z : Joined). sums_of z.sketch z.regs (replicate 1 9)) p

  pub low_is : T (not (is_nan s.kxq0))
  low_is = rw (ap (λ (z : Summed). z.low) is_booked) booked.low

  pub high_is : T (not (is_nan s.kxq1))
  high_is = rw (ap (λ (z : Summed). z.high) is_booked) booked.high

  pub totalled : ◌≡◌ {A = Totals} (record { answer = s.answer; low = to_bits binary64 s.kxq0; high = to_bits binary64 s.kxq1 }) totals
  totalled = ap totals_from is_booked ∙ booked.bits

-- ---- write
wrote_ok : (r : Result ℕ Refusal) (l : List ℕ) → (wrote_out r l).no ≡ 0 → IsOk r
wrote_ok (Ok n) l h = refl
wrote_ok (Err e) l h = absurd (refusal_some e h)

module _ {f : Four} (p : f ≡ four) (written : Result ℕ Refusal) (bytes : List ℕ) (w : wrote_out written bytes ≡ write_of f.sketch f.regs f.aux (replicate 52 3)) where
  written_is : wrote_out written bytes ≡ wrote 0 52 flat.bytes
  written_is = w ∙ ap (λ (z : Four). write_of z.sketch z.regs z.aux (replicate 52 3)) p ∙ booked.writes

  pub writes : IsOk written
  writes = wrote_ok written bytes (ap (λ (w : Written). w.no) written_is)

  pub flats : {len : ℕ} → written ≡ Ok len → ◌≡◌ {A = Flat} (record { len = len; bytes = bytes }) flat
  flats r = ap flat_from (rw r at written_is)
