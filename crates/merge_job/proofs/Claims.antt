-- The claims of specs/Claims.antt, with their proofs. Assumes nothing.
use mathlib.Core.Path.{◌≡◌, refl, sym, ap, ap₂, ◌∙◌, subst}
use mathlib.Core.List.{List, [], ◌∷◌, ◌++◌, append-nil, append_assoc}
use Prim.Native.Nat.{ℕ, suc, ◌^◌, ◌≤◌}
use native.Mathlib.Nat.{le_refl}
use native.Mathlib.Omega.{arith}
use lib.Dec.{eqb}
use lib.ListN.{length, take, replicate, length-replicate}
use lib.Pow.{pow_mono}
use lib.Seq.{take_at}
use borrow.Author.Tests.{ne_eqb}
use Rattle.model.specs.Pick.{pick}
use Rattle.model.specs.Packed.{Bytes}
use Rattle.model.proofs.table.Sifted.{sifted_none}
use Rattle.model.specs.Sketch.{bytes_of, stored, table_in, registers, Good}
use Rattle.model.specs.Calls.{Out, start_of, merge_of}
use Rattle.model.specs.Image.{image_of, image_in, Written, sketch_in, open_of}
use Rattle.model.specs.History.{start, step, after}
use Rattle.model.specs.Claims.{Again}
use Rattle.model.specs.declared.Sketch.{Sketch}
use Rattle.model.proofs.calls.Ladder.{shape_says}
use Rattle.model.proofs.image.Opens.{header_says, open_says}
use Rattle.model.proofs.image.Opening.{open_no_lem}
use Rattle.model.proofs.image.Writing.{image_long, write_no_lem, writes}
use Rattle.model.proofs.image.Room.{few_exceptions, few_words}
use Rattle.model.proofs.calls.Has.{start_has, eight_aux}
use Rattle.model.proofs.image.Sending.{image_wrote, record_back}
use Rattle.model.proofs.histories.Demands.{Holding, Holds, merged_to, holds_merged, holds_run, holds_stands}
use Rattle.model.proofs.histories.Demand3.{same_as, eight_shaped}
use Rattle.model.proofs.Claims.{opens_good, reopens, feed_keeps, merge_keeps}
use Rattle.job.specs.Job.{job_of}
use Rattle.job.proofs.Texts as texts
use Rattle.merge_job.specs.Merge.{file_no, opened_of, join_of, take_of, File, unread, came, Merging, merging, merge_all, merged_of, report_of}
use Rattle.merge_job.specs.Promised.{Target}
use Rattle.merge_job.specs.Claims.{JobText, TextJob, FileAnswers, NeverNoRoom, PlaceOnly, AllKeep, Sent, AllSent, EndToEnd, PutsThat}
use Rattle.merge_job.proofs.Filed.{file_says}
use Rattle.merge_job.proofs.Joining.{bytes_room}
use Rattle.merge_job.proofs.Answers as numbers
use Rattle.merge_job.proofs.Answers.{room}
use Rattle.merge_job.proofs.Keeps as keeps
use Rattle.merge_job.proofs.Ends.{job_started}
use Rattle.model.proofs.packing.Lengths.{bytes_eight}

-- ---- one image of a sketch that is not LARGE
module _ (s : Sketch) (regs aux : List ℕ) (g : Good s regs aux) (small : s.lg_k ≤ 12) where
  abbrev l : List ℕ
  l = image_in s regs aux

  short : length (image_in s regs aux) ≤ 40000
  short =
      let most : 2 ^ s.lg_k ≤ 2 ^ 12 = pow_mono small in
      omega (arith, image_long s regs aux g, bytes_room s.kind s.lg_k small, few_words s regs aux g)

  back : sketch_in l ≡ s
  back = let w = image_wrote s regs aux g in subst (λ (l : List ℕ). sketch_in l ≡ s) w.1 (record_back s regs aux l g w.0)

  pub opened_again : Again s regs aux (opened_of (image_in s regs aux))
  unfolding opened_of
  opened_again =
      let w = image_wrote s regs aux g in
      let zeros = replicate {A = ℕ} 8192 0 in
      let mem = replicate {A = ℕ} (bytes_of (sketch_in l).kind (sketch_in l).lg_k) 0 in
      subst (λ (x : List ℕ). Again s regs aux (open_of x mem zeros zeros)) w.1
      (reopens s regs aux l mem zeros zeros g w.0
      (length-replicate _ 0 ∙ ap (λ (r : Sketch). bytes_of r.kind r.lg_k) back ∙ sym g.shaped.long)
      (λ four. le_refl _)
      (λ four. rw (length-replicate {A = ℕ} 8192 0) (room s.lg_k s.aux_count g.shaped.low small (few_exceptions s regs aux g))))

  pub file_taken : file_no (image_in s regs aux) ≡ 0
  unfolding opened_of
  file_taken =
      let o = (open_says l _ _ _).0 (sym (open_no_lem l _ _ _) ∙ opened_again.opens) in
      (file_says l).1 (record { short = short; header = (header_says l).1 (o.long, o.begins); known = o.known; low = o.sized.0; small = rw back small })

-- ---- one file
-- a call is not refused, and leaves a target that these coupons have reached
abbrev Gives : ℕ → List ℕ → Out → Type 0
Gives lgk got o = (o.no ≡ 0) × Target lgk o.sketch o.regs × Holding o.sketch o.regs [] got

module _ (lgk : ℕ) (t : Sketch) (tregs done : List ℕ) (g : Target lgk t tregs) (h : Holding t tregs [] done) where
  module _ (s : Sketch) (regs aux one : List ℕ) (j : Holding s regs aux one) (small : s.lg_k ≤ 12) (le : lgk ≤ s.lg_k) (b : Bytes (image_in s regs aux)) where
    abbrev o : Out
    o = opened_of (image_in s regs aux)

    again : Again s regs aux o
    again = opened_again s regs aux j.good small

    reached : Holding o.sketch o.regs o.aux one
    unfolding opened_of
    reached = record { good = opens_good (image_in s regs aux) _ _ _ b again.opens; each = rw (again.same_registers, again.same_sketch) j.each }

    joins : take_of t tregs (image_in s regs aux) ≡ merge_of t tregs o.sketch o.regs o.aux
    unfolding take_of join_of
    joins = rw (file_taken s regs aux j.good small, again.opens)

    image_gives : Gives lgk (done ++ one) (take_of t tregs (image_in s regs aux))
    image_gives =
        let m = merge_keeps t tregs o.sketch o.regs o.aux g.good reached.good g.eight (rw (g.size, again.same_sketch) le) in
        let all : Holds (merged_to (merge_of t tregs o.sketch o.regs o.aux) [] done one) = holds_merged t tregs [] done o.sketch o.regs o.aux one h reached in
        subst (Gives lgk (done ++ one)) (sym joins)
        (m.0, record { eight = m.1.same_kind; size = m.1.same_size ∙ g.size; good = m.1.good }, rw m.0 at all)

  sent_gives : (l one : List ℕ) → Bytes l → Sent lgk l one → Gives lgk (done ++ one) (take_of t tregs l)
  sent_gives l one b s =
      let image = image_in s.sketch s.regs s.aux in
      let w = writes s.sketch s.regs s.aux s.buf (sym (write_no_lem s.sketch s.regs s.aux s.buf) ∙ s.accepted) in
      let is : l ≡ image = s.image ∙ ap (λ (w : Written). take w.len w.out) w ∙ take_at image _ (length image) refl in
      subst (λ (x : List ℕ). Gives lgk (done ++ one) (take_of t tregs x)) (sym is)
      (image_gives s.sketch s.regs s.aux one (holds_stands s.stands) (rw s.stands.same_size s.small) (rw s.stands.same_size s.no_coarser) (subst Bytes is b))

-- ---- all of them
abbrev Ends : ℕ → List ℕ → Merging → Type 0
Ends lgk got m = (m.no ≡ 0) × Target lgk m.sketch m.regs × Holding m.sketch m.regs [] got

next : (lgk i : ℕ) (done one more got : List ℕ) (fs : List File) (o : Out) → got ≡ one ++ more → Gives lgk (done ++ one) o → Ends lgk ((done ++ one) ++ more) (merge_all (suc i) o.sketch o.regs fs)
    → Ends lgk (done ++ got) (pick (eqb o.no 0) (merge_all (suc i) o.sketch o.regs fs) (merging o.no o.place (suc i) o.sketch o.regs))
next lgk i done one more got fs o e r m = rw (r.0, e, ← append_assoc done one more) m

all_sent : (lgk i : ℕ) (t : Sketch) (tregs done : List ℕ) (fs : List File) (got : List ℕ) → Target lgk t tregs → Holding t tregs [] done → AllSent lgk fs got → Ends lgk (done ++ got) (merge_all i t tregs fs)
unfolding merge_all AllSent
all_sent lgk i t tregs done [] got g h e = (refl, g, rw (e, append-nil) h)
all_sent lgk i t tregs done (unread ∷ fs) got g h a = absurd a
all_sent lgk i t tregs done (came x b ∷ fs) got g h a = go (take_of t tregs x) (sent_gives lgk t tregs done g h x a.0 b a.2) (λ u uregs k n. all_sent lgk (suc i) u uregs (done ++ a.0) fs a.1 k n a.3)
  where
    go : (o : Out) → Gives lgk (done ++ a.0) o
        → ((u : Sketch) (uregs : List ℕ) → Target lgk u uregs → Holding u uregs [] (done ++ a.0) → Ends lgk ((done ++ a.0) ++ a.1) (merge_all (suc i) u uregs fs))
        → Ends lgk (done ++ got) (pick (eqb o.no 0) (merge_all (suc i) o.sketch o.regs fs) (merging o.no o.place (suc i) o.sketch o.regs))
    go o r ih = next lgk i done a.0 a.1 got fs o a.4 r (ih o.sketch o.regs r.1 r.2)

-- ---- a run
-- nothing has reached an empty target
empty : (lgk : ℕ) (regs : List ℕ) → let o = start_of 8 lgk regs [] in o.no ≡ 0 → Target lgk o.sketch o.regs → Holding o.sketch o.regs [] []
unfolding after step
empty lgk regs e g =
    let o = start_of 8 lgk regs [] in
    let h = holds_run (start 0 8 lgk regs [] ∷ []) 0 o.sketch o.regs o.aux [] (rw e) in
    record { good = g.good; each = rw (eight_aux o.sketch o.regs [] o.aux g.eight) h.each }

-- two kind 8 sketches of one size with the same registers have the same bytes
same_bytes : (lgk : ℕ) (s u : Sketch) (regs aux regs' aux' : List ℕ) → Good s regs aux → Good u regs' aux' → s.kind ≡ 8 → u.kind ≡ 8 → s.lg_k ≡ lgk → u.lg_k ≡ lgk
    → registers s regs aux ≡ registers u regs' aux' → regs ≡ regs'
same_bytes lgk s u regs aux regs' aux' g h k k' z z' e =
    g.bytes_are ∙ ap₂ (λ (x y : ℕ). stored x y (registers s regs aux)) (k ∙ sym k') (z ∙ sym z') ∙ ap (stored u.kind u.lg_k) e ∙ sym h.bytes_are

-- and their image is that of the registers: it has no words
image_eight : (lgk : ℕ) (R : List ℕ) (s : Sketch) (regs aux : List ℕ) → s.kind ≡ 8 → s.lg_k ≡ lgk → registers s regs aux ≡ R → image_in s regs aux ≡ image_of 8 lgk R []
unfolding image_in table_in
image_eight lgk R s regs aux k z e = rw (e, k, z, sifted_none)

pub end_to_end : EndToEnd
unfolding merged_of report_of
end_to_end l fs got some all mem cs long set =
    let t = (texts.job_text l some).1 in
    let lgk = (job_of l).lgk in
    let zeros = replicate {A = ℕ} (bytes_of 8 lgk) 0 in
    let o = start_of 8 lgk zeros [] in
    let g = job_started l some in
    let e = (start_has 8 lgk zeros [] ((shape_says 8 lgk (length zeros)).1 (eight_shaped lgk (length zeros) t.lgk_low (omega (arith, t.lgk_high)) (length-replicate _ 0 ∙ bytes_eight lgk)))).0 in
    let r = all_sent lgk 0 o.sketch o.regs [] fs got g (empty lgk zeros e g) all in
    let shaped = eight_shaped lgk (length mem) t.lgk_low (omega (arith, t.lgk_high)) long in
    let same = same_as lgk mem cs shaped _ _ [] got r.2 r.1.eight r.1.size set in
    let b = (start_has 8 lgk mem [] ((shape_says 8 lgk (length mem)).1 shaped)).1 in
    let f = feed_keeps _ _ _ [] cs b.good in
    let k = f.same_kind ∙ b.same_kind in
    let bytes = same_bytes lgk _ _ _ _ _ _ r.1.good f.good r.1.eight k r.1.size (f.same_size ∙ b.same_size) same.registers_same in
    record {
      accepted = r.0;
      image_same = image_eight lgk _ _ _ [] r.1.eight r.1.size same.registers_same ∙ sym (image_eight lgk _ _ _ _ k (f.same_size ∙ b.same_size) refl);
      report_same = rw (ne_eqb lgk 0 some, r.0, bytes);
    }

pub puts_that : PutsThat
puts_that l path image p got all mem cs long set =
    let w = p.whole in
    let d = end_to_end l w.read got w.some all mem cs long set in
    (p.path_is, p.image_is ∙ ap₂ (λ (s : Sketch) (r : List ℕ). image_in s r []) w.sketch_is w.regs_are ∙ d.image_same)

-- ---- the job and the files
pub job_text : JobText
job_text = texts.job_text

pub text_job : TextJob
text_job = texts.text_job

pub file_answers : FileAnswers
file_answers = numbers.file_answers

pub never_no_room : NeverNoRoom
never_no_room = numbers.never_no_room

pub place_only : PlaceOnly
place_only = numbers.place_only

pub all_keep : AllKeep
all_keep = keeps.all_keep
