-- How a run starts and ends: an empty target, and the image of all, which is never refused. Assumes nothing.
use mathlib.Core.Path.{◌≡◌, refl, sym, ap, ◌∙◌, subst}
use mathlib.Core.Bool.{Bool, false}
use mathlib.Core.List.{List, []}
use Prim.Native.Nat.{ℕ, ◌≤◌, zero-le}
use native.Mathlib.Omega.{arith}
use lib.Dec.{eqb}
use lib.ListN.{length, take, drop, replicate, length-replicate}
use lib.Seq.{take_at}
use borrow.Author.Tests.{eq-eqb, ne_eqb}
use Rattle.model.specs.Pick.{pick}
use Rattle.model.specs.Packed.{Bytes}
use Rattle.model.specs.Sketch.{bytes_of, area_of, Good}
use Rattle.std.specs.Prelude.{Result, Ok, Err, IsOk}
use Rattle.model.specs.Calls.{Out, out, made_out, nothing, kept_out, start_of}
use Rattle.model.specs.Image.{image_in, Written, wrote, wrote_out, write_of}
use Rattle.model.specs.declared.Refusal.{Refusal}
use Rattle.model.proofs.calls.Refusals.{refusal_some}
use Rattle.model.specs.declared.Sketch.{Sketch}
use Rattle.model.proofs.calls.Ladder.{shape_says}
use Rattle.model.proofs.calls.Has.{start_has}
use Rattle.model.proofs.image.Writing.{image_long}
use Rattle.model.proofs.image.Room.{no_words, image_written}
use Rattle.sums.specs.Tally.{Registers}
use Rattle.sketch_sums.proofs.Outcomes.{eight_registers}
use Rattle.text.specs.Text.{text}
use Rattle.job.specs.Job.{path_in, job_of, places_of, PathIn}
use Rattle.job.specs.declared.Places.{Places}
use Rattle.job.proofs.Parsed.{Says, places_say, places_are, places_none}
use Rattle.job.proofs.Texts.{job_text}
use Rattle.report.specs.Report.{refused_text, merged_text}
use Rattle.merge_job.specs.Merge.{Merging, merge_all, merged_of, report_of}
use Rattle.merge_job.specs.Promised.{Target, Lists, Merged, Asked, Whole, Puts, Finished, Reported}
use Rattle.merge_job.proofs.Faults.{accepted}
use Rattle.merge_job.proofs.Joining.{bytes_room, zeros_front}
use Rattle.merge_job.proofs.Keeps.{all_keep}
use Rattle.model.proofs.packing.Lengths.{is_eight}

-- ---- the end
-- what is written is a target of a size that may be asked for
abbrev Small : Sketch → List ℕ → Type 0
Small t tregs = (lgk : ℕ) × (lgk ≤ 12) × Target lgk t tregs

module _ (s : Sketch) (regs : List ℕ) (small : Small s regs) where
  abbrev g : Target small.0 s regs
  g = small.2

  -- the image has 40 bytes and one for each register
  image_small : length (image_in s regs []) ≤ 4136
  image_small =
      let e = image_long s regs [] g.good in
      let b = bytes_room s.kind s.lg_k (rw g.size small.1) in
      let n = no_words s regs [] g.good (λ q. let k = g.eight in omega arith) in
      omega arith

  -- and is written whole
  written_small : (buf : List ℕ) (w : Written) → w ≡ write_of s regs [] buf → length buf ≡ 4136 → (take w.len w.out ≡ image_in s regs []) × (w.len ≤ 4136)
  written_small buf w e b =
      let i = image_small in
      let z = e ∙ image_written s regs [] g.good buf (omega arith) in
      let l : w.len ≡ length (image_in s regs []) = ap (λ (w : Written). w.len) z in
      (ap (λ (w : Written). take w.len w.out) z ∙ take_at (image_in s regs []) _ _ refl, omega arith)

  accepted_small : (buf : List ℕ) → length buf ≡ 4136 → (write_of s regs [] buf).no ≡ 0
  accepted_small buf b = let i = image_small in ap (λ (w : Written). w.no) (image_written s regs [] g.good buf (omega arith))

-- ---- the start
pub started : (lgk : ℕ) (regs : List ℕ) (o : Out) → 4 ≤ lgk → lgk ≤ 12 → length regs ≡ bytes_of 8 lgk → o ≡ start_of 8 lgk regs [] → Target lgk o.sketch o.regs
unfolding start_of kept_out area_of
started lgk regs o a b e q =
    let n = (shape_says 8 lgk (length regs)).1 (record { kind_known = is_eight; low = a; high = omega arith; long = e }) in
    let h = (start_has 8 lgk regs [] n).1 in
    let x : (start_of 8 lgk regs []).aux ≡ [] = rw n in
    subst (λ (o : Out). Target lgk o.sketch o.regs) (sym q)
    (record { eight = h.same_kind; size = h.same_size; good = subst (λ (aux : List ℕ). Good (start_of 8 lgk regs []).sketch (start_of 8 lgk regs []).regs aux) x h.good })

pub start_passes : (lgk : ℕ) (regs : List ℕ) → 4 ≤ lgk → lgk ≤ 12 → length regs ≡ bytes_of 8 lgk → (start_of 8 lgk regs []).no ≡ 0
unfolding start_of kept_out
start_passes lgk regs a b e =
    let n = (shape_says 8 lgk (length regs)).1 (record { kind_known = is_eight; low = a; high = omega arith; long = e }) in
    rw n refl

-- ---- all files merged
-- an empty target of a job's size
pub job_started : (l : List ℕ) → ((job_of l).lgk ≡ 0 → ⊥) → let o = start_of 8 (job_of l).lgk (replicate (bytes_of 8 (job_of l).lgk) 0) [] in Target (job_of l).lgk o.sketch o.regs
job_started l some = let f = (job_text l some).1 in started (job_of l).lgk _ _ f.lgk_low f.lgk_high (length-replicate _ 0) refl

module _ (l : List ℕ) (s : Sketch) (regs : List ℕ) (w : Whole l s regs) where
  small : Small s regs
  unfolding merged_of
  small =
      let k = (all_keep (job_of l).lgk 0 _ _ w.read (job_started l w.some) w.passed).0 in
      ((job_of l).lgk, (job_text l w.some).1.lgk_high, rw (w.sketch_is, w.regs_are) k)

  pub write_ok : (buf new : List ℕ) (r : Result ℕ Refusal) → wrote_out r new ≡ write_of s regs [] buf → length buf ≡ 4136 → IsOk r
  write_ok buf new (Ok len) e b = refl
  write_ok buf new (Err f) e b = absurd (refusal_some f (ap (λ (w : Written). w.no) e ∙ accepted_small s regs small buf b))

  pub written : (buf : List ℕ) (w : Written) → w ≡ write_of s regs [] buf → length buf ≡ 4136 → (take w.len w.out ≡ image_in s regs []) × (w.len ≤ 4136)
  written buf w e b = written_small s regs small buf w e b

  -- the same of what the call gave, which is a length
  pub written_len : (buf new : List ℕ) (r : Result ℕ Refusal) (len : ℕ) → wrote_out r new ≡ write_of s regs [] buf → r ≡ Ok len → length buf ≡ 4136 → (take len new ≡ image_in s regs []) × (len ≤ 4136)
  written_len buf new r len e q = written buf (wrote 0 len new) (ap (λ (r : Result ℕ Refusal). wrote_out r new) (sym q) ∙ e)

  pub tellable : Bytes regs → Registers regs
  tellable b = eight_registers s regs [] small.2.eight b small.2.good

  -- where it is put
  module _ (p : Places) (is : p ≡ places_of (job_of l)) where
    says : Says l (job_of l) p
    says = places_say l p is (λ z. w.some (places_none (job_of l) p is z))

    pub out_found : path_in (text "out=") (drop p.last l) ≡ 0 → ⊥
    out_found z = let n = says.names in omega arith

    pub puts : (path : List ℕ) → PathIn (text "out=") (drop p.last l) path → (image : List ℕ) → image ≡ image_in s regs [] → Puts l path image
    puts path there image e = record { sketch = s; regs = regs; whole = w; path_is = there.bytes ∙ sym says.out_is; image_is = e }

-- as many registers as are asked for
module _ (l : List ℕ) (p : Places) (is : p ≡ places_of (job_of l)) (some : p.lg_k ≡ 0 → ⊥) (k : ℕ) (size : k ≡ bytes_of 8 p.lg_k) where
  pub registers_room : k ≤ 4096
  registers_room = let b = bytes_room 8 p.lg_k (places_say l p is some).high in omega arith

  pub registers_same : k ≡ length {A = ℕ} (take k (replicate 4096 0))
  registers_same = sym (ap length (zeros_front k 4096 registers_room) ∙ length-replicate k 0)

  pub asked : Asked l p (take k (replicate 4096 0))
  asked = record { is = is; some = some; zeros = zeros_front k 4096 registers_room ∙ ap (λ (n : ℕ). replicate n 0) size }

-- ---- the report
pub no_job_reported : (l : List ℕ) → (job_of l).lgk ≡ 0 → (said : List ℕ) → said ≡ refused_text 18 0 0 → Reported l said
unfolding report_of
no_job_reported l e said h =
    record { read = []; put = false; most = zero-le; whole = λ n y. absurd (n e); holds = rw (eq-eqb (job_of l).lgk 0 e) h }

pub lists : (l : List ℕ) (p : Places) (regs : List ℕ) → Asked l p regs → Lists l p.first p.files
lists l p regs a = record { ins_are = (places_say l p a.is a.some).ins_are; many = (places_are (job_of l) p a.is a.some).1 }

-- an empty target is made
module _ (l : List ℕ) (p : Places) (regs : List ℕ) (a : Asked l p regs) (r : Result Sketch Refusal) (new aux : List ℕ) (start : made_out r new aux ≡ start_of 8 p.lg_k regs []) where
  pub start_ok : IsOk r
  start_ok =
      let s = places_say l p a.is a.some in
      accepted nothing r new aux start (start_passes p.lg_k regs s.low s.high (ap length a.zeros ∙ length-replicate _ 0))

  pub empty_out : (s : Sketch) → r ≡ Ok s → out 0 0 s 0 new aux ≡ start_of 8 p.lg_k regs []
  empty_out s q = ap (λ (r : Result Sketch Refusal). made_out r new aux) (sym q) ∙ start

module _ (l : List ℕ) (p : Places) (regs : List ℕ) (a : Asked l p regs) (o : Out) (start : o ≡ start_of 8 p.lg_k regs []) (m : Merging) (merged : Merged p.files o.sketch o.regs m) where
  same_size : p.lg_k ≡ (job_of l).lgk
  same_size = (places_are (job_of l) p a.is a.some).0

  same_files : p.files ≡ length (job_of l).ins
  same_files = (places_are (job_of l) p a.is a.some).1

  same_merging : m ≡ merged_of (job_of l) merged.read
  unfolding merged_of
  same_merging =
      merged.is
      ∙ ap (λ (o : Out). merge_all 0 o.sketch o.regs merged.read) (start ∙ ap (λ (r : List ℕ). start_of 8 p.lg_k r []) a.zeros)
      ∙ ap (λ (n : ℕ). let o = start_of 8 n (replicate (bytes_of 8 n) 0) [] in merge_all 0 o.sketch o.regs merged.read) same_size

  pub target : Target p.lg_k o.sketch o.regs
  target = let s = places_say l p a.is a.some in started p.lg_k regs o s.low s.high (ap length a.zeros ∙ length-replicate _ 0) start

  abbrev said : Bool → ℕ → ℕ → Merging → List ℕ
  said put files lgk m = pick (eqb m.no 0) (pick put (merged_text files lgk m.regs) (refused_text 19 0 0)) (refused_text m.no m.place m.file)

  pub all_whole : m.no ≡ 0 → Whole l m.sketch m.regs
  all_whole z = record {
    some = λ e. a.some (same_size ∙ e);
    read = merged.read;
    all = merged.whole z ∙ same_files;
    passed = ap (λ (m : Merging). m.no) (sym same_merging) ∙ z;
    sketch_is = ap (λ (m : Merging). m.sketch) same_merging;
    regs_are = ap (λ (m : Merging). m.regs) same_merging;
  }

  reports : (put : Bool) → said put p.files p.lg_k m ≡ report_of l merged.read put
  unfolding report_of
  reports put =
      ap (λ (n : ℕ). said put n p.lg_k m) same_files
      ∙ ap (λ (n : ℕ). said put (length (job_of l).ins) n m) same_size
      ∙ ap (λ (m : Merging). said put (length (job_of l).ins) (job_of l).lgk m) same_merging
      ∙ ap (λ (b : Bool). pick b (refused_text 18 0 0) (said put (length (job_of l).ins) (job_of l).lgk (merged_of (job_of l) merged.read))) (sym (ne_eqb (job_of l).lgk 0 (λ z. a.some (same_size ∙ z))))

  reported : (put : Bool) (t : List ℕ) → t ≡ said put p.files p.lg_k m → Reported l t
  reported put t h =
      let f = same_files in
      let k = merged.most in
      record {
        read = merged.read;
        put = put;
        most = omega arith;
        whole = λ n z. merged.whole (ap (λ (m : Merging). m.no) same_merging ∙ z) ∙ f;
        holds = h ∙ reports put;
      }

  pub refused_reported : (m.no ≡ 0 → ⊥) → (t : List ℕ) → t ≡ refused_text m.no m.place m.file → Reported l t
  refused_reported n t h = reported false t (rw (ne_eqb m.no 0 n) h)

  pub merged_reported : m.no ≡ 0 → (t : List ℕ) → Finished p.files p.lg_k m.regs t → Reported l t
  merged_reported z t f = reported f.0 t (rw (eq-eqb m.no 0 z) f.1)
