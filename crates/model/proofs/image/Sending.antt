-- What was written and is then opened is the same sketch, in good order, with no more asked of the memory than that open accepts it. Assumes nothing.
use mathlib.Core.Path.{◌≡◌, refl, sym, ap, ◌∙◌, subst}
use mathlib.Core.List.{List, ◌++◌, append-nil}
use Prim.Native.Nat.{ℕ}
use native.Mathlib.Nat.{le_refl}
use lib.ListN.{replicate, length-replicate, length}
use lib.Seq.{drop-length}
use Rattle.model.specs.Table.{base_for, table_size}
use Rattle.model.specs.Packed.{Bytes}
use Rattle.model.specs.Sketch.{bytes_of, Good}
use Rattle.model.specs.Calls.{Out}
use Rattle.model.specs.Image.{image_in, Written, write_of, sketch_in, open_of}
use Rattle.model.specs.Claims.{Again}
use Rattle.model.specs.declared.Sketch.{Sketch}
use Rattle.model.proofs.order.Tests.{scratch_tells}
use Rattle.model.proofs.image.Opens.{Opens, open_says}
use Rattle.model.proofs.image.Opening.{open_no_lem, opens_to, open_good_of}
use Rattle.model.proofs.image.WriteOpen.{write_open}
use Rattle.model.proofs.calls.Has.{good_bytes}
use Rattle.model.proofs.image.Room.{image_written}

-- an image is what write leaves in a buffer of its length
pub image_wrote : (s : Sketch) (regs aux : List ℕ) → Good s regs aux → let w = write_of s regs aux (image_in s regs aux) in (w.no ≡ 0) × (w.out ≡ image_in s regs aux)
image_wrote s regs aux g =
    let l = image_in s regs aux in
    let e = image_written s regs aux g l (le_refl _) in
    (ap (λ (w : Written). w.no) e, ap (λ (w : Written). w.out) e ∙ ap (λ (r : List ℕ). l ++ r) (drop-length l) ∙ append-nil l)

module _ (s : Sketch) (regs aux buf : List ℕ) (g : Good s regs aux) (wrote : (write_of s regs aux buf).no ≡ 0) where
  abbrev l : List ℕ
  l = (write_of s regs aux buf).out

  -- the record that is read, as some memory shows into which it opens
  pub record_back : sketch_in (write_of s regs aux buf).out ≡ s
  record_back =
      let room = replicate {A = ℕ} (table_size (base_for s.lg_k) s.aux_count) 0 in
      let a = write_open s regs aux buf regs room room g wrote refl (λ four. le_refl _) (λ four. rw (length-replicate {A = ℕ} (table_size (base_for s.lg_k) s.aux_count) 0) (le_refl _)) in
      ap (λ (o : Out). o.sketch) (sym (opens_to l regs room room (sym (open_no_lem l regs room room) ∙ a.opens))) ∙ a.same_sketch

  module _ (regs' aux' scratch' : List ℕ) (opened : (open_of l regs' aux' scratch').no ≡ 0) where
    passed : Opens l (length regs') (length aux') (length scratch')
    passed = (open_says l _ _ _).0 (sym (open_no_lem l regs' aux' scratch') ∙ opened)

    pub sent_again : Again s regs aux (open_of (write_of s regs aux buf).out regs' aux' scratch')
    sent_again =
        let p = passed in
        write_open s regs aux buf regs' aux' scratch' g wrote
        (p.lent ∙ ap (λ (r : Sketch). bytes_of r.kind r.lg_k) record_back ∙ sym g.shaped.long)
        ((scratch_tells s.kind aux' scratch').0 (rw record_back at p.scratched))
        (λ four. rw record_back at p.room)

    pub sent_good : let o = open_of (write_of s regs aux buf).out regs' aux' scratch' in Good o.sketch o.regs o.aux
    sent_good =
        let e = ap (λ (o : Out). o.regs) (sym (opens_to l regs' aux' scratch' (sym (open_no_lem l regs' aux' scratch') ∙ opened))) ∙ sent_again.same_regs in
        open_good_of l regs' aux' scratch' (subst Bytes (sym e) (good_bytes g)) opened
