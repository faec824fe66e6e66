-- What the survey of the register bytes, which the code cuts out of the image, says of them. Assumes nothing.
use mathlib.Core.Path.{◌≡◌, sym, ◌∙◌, ap, subst}
use mathlib.Core.List.{List}
use Prim.Native.Nat.{ℕ, ◌+◌, ◌-◌}
use native.Mathlib.Omega.{arith}
use lib.ListN.{take, drop}
use Rattle.model.specs.Sketch.{bytes_of}
use Rattle.model.specs.Image.{sketch_in, regs_in}
use Rattle.model.specs.declared.Sketch.{Sketch}
use Rattle.survey.specs.Survey.{Surveyable, Surveyed}
use Rattle.survey.specs.declared.Seen.{Seen}
use Rattle.image_header.specs.Header.{record_in}
use Rattle.image_header.specs.declared.Image.{Image}
use Rattle.image_check.specs.Passed.{Sound, Full}
use Rattle.image_check.proofs.Passing.{formed, is_in, counts_here, payload_here}
use Rattle.image_check.proofs.Payload.{regs_part, regs_long}

module _ {i : Image} (ok : Sound i) (n : ℕ) (e : n ≡ bytes_of i.header.kind i.header.lg_k) where
  pub surveyable : Surveyable (record_in i.header) (take (40 + n - 40) (drop 40 i.bytes.now))
  surveyable =
      let f = formed ok.formed in
      let long = regs_long i.bytes.now (record_in i.header) (is_in ok.formed) n e (omega (arith, payload_here ok)) in
      record { shaped = record { kind_known = f.0; low = f.1.0; high = f.1.1; long = long ∙ e }; counts = counts_here ok }

  pub surveyed : {seen : Seen} → Surveyed (record_in i.header) (take (40 + n - 40) (drop 40 i.bytes.now)) seen → Surveyed (sketch_in i.bytes.now) (regs_in i.bytes.now) seen
  surveyed {seen} told =
      subst (λ (s : Sketch). Surveyed s (regs_in i.bytes.now) seen) (is_in ok.formed)
      (subst (λ (regs : List ℕ). Surveyed (record_in i.header) regs seen) (regs_part i.bytes.now (record_in i.header) (is_in ok.formed) n e) told)

  pub full : {seen : Seen} → Surveyed (record_in i.header) (take (40 + n - 40) (drop 40 i.bytes.now)) seen → Full i seen.tokens
  full told = record { sound = ok; counted = λ four. (surveyed told).tokens (ap (λ (s : Sketch). s.kind) (sym (is_in ok.formed)) ∙ four) }
