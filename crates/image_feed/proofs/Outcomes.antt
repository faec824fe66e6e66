-- What comes before a word is fed: each refusal is the call's, and where none is made the coupons are fed. Assumes nothing.
use mathlib.Core.Path.{◌≡◌, sym, ap, ◌∙◌}
use mathlib.Core.List.{List}
use Prim.Native.Nat.{ℕ}
use native.Mathlib.Omega.{arith}
use lib.ListN.{length}
use borrow.Author.Tests.{ne_eqb}
use Rattle.std.specs.Prelude.{Err}
use Rattle.model.specs.Answers.{refusal_no, refusal_place, Said, said}
use Rattle.model.specs.Check.{scratch_fits, check_no}
use Rattle.model.specs.Calls.{fed_out, refused_at, refused_fed}
use Rattle.model.specs.Lists.{preamble_no, coupons_no, feed_image_no, empty_place, feed_image_of}
use Rattle.model.specs.declared.Sketch.{Sketch}
use Rattle.model.specs.declared.Refusal.{Refusal}
use Rattle.model.specs.declared.Stopped.{Stopped}
use Rattle.model.proofs.calls.Places.{check_low, check_place}
use Rattle.model.proofs.calls.Refusals.{refusal_some}
use Rattle.model.proofs.image.ListRungs.{image_sketch, image_preamble, image_coupons}
use Rattle.model.proofs.image.Lists.{feed_image_says, preamble_either, empty_none}
use Rattle.image_feed.specs.Judged.{Judged}

module _ (s : Sketch) (regs aux scratch l : List ℕ) where
  abbrev mine : ℕ
  mine = check_no (scratch_fits s.kind (length aux) (length scratch)) s regs aux

  abbrev Refused : Refusal → Type 0
  Refused e = Judged s regs aux scratch l (Err e)

  -- the sketch's checks refuse
  pub by_sketch : (e : Refusal) → refusal_no e ≡ mine → Refused e
  by_sketch e q =
      let fits = scratch_fits s.kind (length aux) (length scratch) in
      (image_sketch s regs aux scratch l (refusal_no e) q (refusal_some e), check_place e fits s regs aux q ∙ sym (empty_none l (refusal_no e) (λ z. let low = check_low fits s regs aux in omega arith)))

  module _ (good : mine ≡ 0) where
    -- what stands before the words does
    pub by_preamble : (e : Refusal) → said (refusal_no e) (refusal_place e) ≡ said (preamble_no l) 0 → Refused e
    by_preamble e q =
        let n = ap (λ (x : Said). x.no) q in
        let other = preamble_either (λ n. n ≡ 27 → ⊥) l (λ z. omega arith) (λ z. omega arith) (λ z. omega arith) (λ z. omega arith) (λ z. omega arith) (λ z. omega arith) in
        (image_preamble s regs aux scratch l good (refusal_no e) n (refusal_some e), ap (λ (x : Said). x.place) q ∙ sym (empty_none l (refusal_no e) (λ z. other (sym n ∙ z))))

    module _ (begun : preamble_no l ≡ 0) where
      -- the words do, or their lg_k
      pub by_coupons : (e : Refusal) → said (refusal_no e) (refusal_place e) ≡ said (coupons_no s.lg_k l) (empty_place l (coupons_no s.lg_k l)) → Refused e
      by_coupons e q =
          let n = ap (λ (x : Said). x.no) q in
          (image_coupons s regs aux scratch l good begun (refusal_no e) n, ap (λ (x : Said). x.place) q ∙ ap (empty_place l) (sym n))

      pub all_pass : coupons_no s.lg_k l ≡ 0 → feed_image_no s regs aux scratch l ≡ 0
      all_pass e = (feed_image_says s regs aux scratch l).1 (good, (begun, e))

  -- a refusal, and nothing fed
  pub refused_by : (e : Refusal) {t : Stopped} → t ≡ refused_fed e s → Refused e → fed_out (Err t) regs aux ≡ feed_image_of s regs aux scratch l
  unfolding feed_image_of
  refused_by e q r =
      let n = feed_image_no s regs aux scratch l in
      ap (λ (t : Stopped). fed_out (Err t) regs aux) q
      ∙ (λ i. refused_at (r.0 i) ((r.1 ∙ ap (empty_place l) r.0) i) s regs aux)
      ∙ rw (ne_eqb n 0 (λ z. refusal_some e (r.0 ∙ z)))
