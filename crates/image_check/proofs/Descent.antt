-- The ladder behind the header's own refusals, by what the header says. Assumes nothing.
use mathlib.Core.Path.{◌≡◌, refl, sym, ◌∙◌, ap}
use mathlib.Core.List.{List}
use Prim.Native.Nat.{ℕ, ◌<◌}
use Rattle.std.specs.Prelude.{Err, ⊤}
use Rattle.model.specs.Answers.{refusal_no, refusal_place, Said, said}
use Rattle.model.specs.Image.{sketch_in, form_no, memory_no, counts_no, room_no, body_no, said_in, open_no}
use Rattle.model.specs.declared.Sketch.{Sketch}
use Rattle.model.specs.declared.Refusal.{Refusal}
use Rattle.model.proofs.calls.Places.{form_low, memory_low, counts_low, room_low}
use Rattle.model.proofs.calls.Refusals.{refusal_some}
use Rattle.model.proofs.calls.Rungs.{open_form, open_memory, open_counts, open_room, open_body}
use Rattle.model.proofs.image.SaidIn.{answer_in}
use Rattle.image_header.specs.Header.{record_in, Headed}
use Rattle.image_header.specs.declared.Header.{Header}
use Rattle.image_header.proofs.Headers.{record_is}

module _ {l : List ℕ} {h : Header} (ok : Headed l h) (regs aux scratch : ℕ) where
  is : record_in h ≡ sketch_in l
  is = record_is l h ok

  form_is : form_no h.kind h.lg_k ≡ form_no (sketch_in l).kind (sketch_in l).lg_k
  form_is = ap (λ (s : Sketch). form_no s.kind s.lg_k) is

  memory_is : memory_no h.kind h.lg_k regs aux scratch ≡ memory_no (sketch_in l).kind (sketch_in l).lg_k regs aux scratch
  memory_is = ap (λ (s : Sketch). memory_no s.kind s.lg_k regs aux scratch) is

  room_is : room_no h.lg_k h.aux_count aux ≡ room_no (sketch_in l).lg_k (sketch_in l).aux_count aux
  room_is = ap (λ (s : Sketch). room_no s.lg_k s.aux_count aux) is

  -- what a refusal says, where it is the call's
  abbrev Told : Refusal → Type 0
  Told f = said (refusal_no f) (refusal_place f) ≡ said_in l (open_no l regs aux scratch)

  -- one that names no place
  low : (f : Refusal) {n : ℕ} → refusal_no f ≡ n → n < 21 → refusal_no f ≡ open_no l regs aux scratch → Told f
  low f e d o = answer_in l {A = ⊤} (Err f) o (rw (← o, e) d)

  pub at_form : (f : Refusal) → refusal_no f ≡ form_no h.kind h.lg_k → Told f
  at_form f e = low f e (form_low _ _) (open_form l regs aux scratch ok.passed _ (e ∙ form_is) (refusal_some f))

  module _ (form : form_no h.kind h.lg_k ≡ 0) where
    pub at_memory : (f : Refusal) → refusal_no f ≡ memory_no h.kind h.lg_k regs aux scratch → Told f
    at_memory f e = low f e (memory_low _ _ _ _ _) (open_memory l regs aux scratch ok.passed (sym form_is ∙ form) _ (e ∙ memory_is) (refusal_some f))

    module _ (memory : memory_no h.kind h.lg_k regs aux scratch ≡ 0) where
      pub at_counts : (f : Refusal) → refusal_no f ≡ counts_no l → Told f
      at_counts f e = low f e (counts_low l) (open_counts l regs aux scratch ok.passed (sym form_is ∙ form) (sym memory_is ∙ memory) _ e (refusal_some f))

      module _ (counts : counts_no l ≡ 0) where
        pub at_room : (f : Refusal) → refusal_no f ≡ room_no h.lg_k h.aux_count aux → Told f
        at_room f e = low f e (room_low _ _ _) (open_room l regs aux scratch ok.passed (sym form_is ∙ form) (sym memory_is ∙ memory) counts _ (e ∙ room_is) (refusal_some f))

        pub at_body : (f : Said) → room_no h.lg_k h.aux_count aux ≡ 0 → f ≡ said_in l (body_no l) → f ≡ said_in l (open_no l regs aux scratch)
        at_body f room e = e ∙ ap (λ (n : ℕ). said_in l n) (open_body l regs aux scratch ok.passed (sym form_is ∙ form) (sym memory_is ∙ memory) counts _ (sym room_is ∙ room) refl)
