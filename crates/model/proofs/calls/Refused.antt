-- A refused call gives back what it got. Assumes nothing.
use mathlib.Core.Path.{◌≡◌, refl, sym, ap, ◌∙◌}
use mathlib.Core.List.{List, []}
use mathlib.Core.Logic.{⊎_elim}
use Prim.Native.Nat.{ℕ, ◌^◌}
use lib.Dec.{eqb}
use lib.ListN.{length}
use borrow.Author.Tests.{ne_eqb}
use Rattle.model.specs.Pick.{pick}
use Rattle.model.specs.Check.{shape_no, scratch_fits, check_no}
use Rattle.model.specs.Calls.{Out, refused_at, refused_out, nothing, kept_out, start_of, feed_of, unpack_of, merge_no, merge_of}
use Rattle.model.specs.Image.{Written, wrote, write_no, write_of, open_no, place_in, open_of}
use Rattle.model.specs.Lists.{coupons_in, feed_image_no, empty_place, feed_image_of}
use Rattle.model.specs.Claims.{Unchanged}
use Rattle.model.specs.declared.Sketch.{Sketch}
use Rattle.model.proofs.calls.Picked.{picked_back}
use Rattle.model.proofs.calls.Batches.{batch_no}

-- a refusal with a place that goes by its number
placed_back : (place : ℕ → ℕ) (s : Sketch) (regs aux : List ℕ) (n : ℕ) (done : Out) → let o = pick (eqb n 0) done (refused_at n (place n) s regs aux) in
    (o.no ≡ done.no → ⊥) → o ≡ refused_at o.no o.place s regs aux
placed_back place s regs aux n done h =
    let o = pick (eqb n 0) done (refused_at n (place n) s regs aux) in
    let e : o ≡ refused_at o.no (place o.no) s regs aux = picked_back (λ (r : Out). r.no) (λ m. refused_at m (place m) s regs aux) (λ m. refl) n done h in
    e ∙ ap (λ (p : ℕ). refused_at o.no p s regs aux) (sym (ap (λ (r : Out). r.place) e))

pub unchanged : Unchanged
unfolding start_of feed_of feed_image_of unpack_of merge_of write_of open_of kept_out
unchanged = record {
  start_same = λ kind lgk regs aux. picked_back (λ (o : Out). o.no) (λ m. refused_out m nothing regs aux) (λ m. refl) (shape_no kind lgk (length regs)) _;
  feed_same = λ s regs aux scratch cs h k.
      picked_back (λ (o : Out). o.no) (λ m. refused_out m s regs aux) (λ m. refl) (check_no (scratch_fits s.kind (length aux) (length scratch)) s regs aux) _
      (λ e. ⊎_elim (λ z. h (e ∙ z)) (λ z. k (e ∙ z)) (batch_no s regs aux cs));
  feed_image_same = λ s regs aux scratch l h k.
      placed_back (empty_place l) s regs aux (feed_image_no s regs aux scratch l) _ (λ e. ⊎_elim (λ z. h (e ∙ z)) (λ z. k (e ∙ z)) (batch_no s regs aux (coupons_in l)));
  unpack_same = λ s regs aux buf h. rw (ne_eqb (check_no (eqb (length buf) (2 ^ s.lg_k)) s regs aux) 0 h);
  merge_same = λ t tregs s sregs saux. picked_back (λ (o : Out). o.no) (λ m. refused_out m t tregs []) (λ m. refl) (merge_no t tregs s sregs saux) _;
  write_same = λ s regs aux buf. picked_back (λ (o : Written). o.no) (λ m. wrote m 0 buf) (λ m. refl) (write_no s regs aux buf) _;
  open_same = λ l regs aux scratch h. placed_back (place_in l) nothing regs aux (open_no l (length regs) (length aux) (length scratch)) _ h;
}
