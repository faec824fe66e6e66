-- The turns of the loop over the files. Assumes nothing.
use mathlib.Core.Path.{◌≡◌, refl, sym, ap, ◌∙◌}
use mathlib.Core.Bool.{Bool, true, false}
use mathlib.Core.List.{List, [], ◌∷◌, ◌++◌}
use Prim.Native.Nat.{ℕ, suc, ◌+◌, ◌-◌, ◌≤◌, ◌<◌}
use native.Mathlib.Omega.{arith}
use native.Mathlib.Numerals.{add-one}
use lib.Dec.{eqb}
use lib.ListN.{length, get_or, drop, length-drop, length-append}
use lib.Seq.{drop-drop, get_or-drop}
use borrow.Author.Tests.{eqb-false, eq-eqb, ne_eqb}
use Rattle.model.specs.Pick.{pick}
use Rattle.model.specs.Calls.{Out, out}
use Rattle.model.specs.declared.Sketch.{Sketch}
use Rattle.text.specs.Text.{text}
use Rattle.job.specs.Job.{path_in, ins_in, job_of, PathIn}
use Rattle.job.proofs.Walk.{left, line_room, next, ins_over}
use Rattle.job.proofs.Texts.{ins_text}
use Rattle.merge_job.specs.Merge.{File, unread, came, file_of, Merging, merging, merge_all}
use Rattle.std.specs.Prelude.{Result, Ok, Err, ⊤}
use Rattle.merge_job.specs.declared.Fault.{Fault}
use Rattle.merge_job.specs.Promised.{fault_no, fault_place, taken_out, Took, TookSome, Merged, Lists}
use Rattle.merge_job.proofs.Faults.{fault_some}

-- ---- the lines
-- the paths of the images that are still to come stand at a place
abbrev pub ToCome : List ℕ → ℕ → ℕ → Type 0
ToCome l done at = drop done (job_of l).ins ≡ ins_in (64 - done) (drop at l)

-- a turn that is due finds the line of its image, and leaves those behind it
module _ (l : List ℕ) (first files : ℕ) (lists : Lists l first files) (at done : ℕ) (due : done < files) (there : ToCome l done at) where
  few : length (job_of l).ins ≤ 64
  few = rw lists.ins_are (ins_text 64 (drop first l)).few

  pub found : path_in (text "in=") (drop at l) ≡ 0 → ⊥
  found z =
      let o = (ins_over l (64 - done) at z).0 in
      let e : length (drop done (job_of l).ins) ≡ left l (64 - done) at = ap length there in
      let d = length-drop done (job_of l).ins in
      let m = lists.many in
      omega arith

  module _ {path : List ℕ} (is : PathIn (text "in=") (drop at l) path) where
    pub within : at + (length path + 4) ≤ length l
    within = let r = line_room l at is in omega arith

    to_come : drop done (job_of l).ins ≡ path ∷ ins_in (64 - (done + 1)) (drop (at + (length path + 4)) l)
    to_come =
        let f : 64 - done ≡ suc (64 - (done + 1)) = (let m = lists.many in let w = few in omega arith) in
        there ∙ next l at is (64 - done) (64 - (done + 1)) f

    pub named : path ≡ get_or (job_of l).ins done []
    named =
        let none : done + 0 ≡ done = omega arith in
        ap (λ (ps : List (List ℕ)). get_or ps 0 []) (sym to_come) ∙ get_or-drop done (job_of l).ins 0 [] ∙ ap (λ (i : ℕ). get_or (job_of l).ins i []) none

    pub one_less : ToCome l (done + 1) (at + (length path + 4))
    one_less = sym (drop-drop 1 done (job_of l).ins) ∙ ap (drop 1) to_come

-- ---- the files
-- what a file came to is what some contents of it come to
abbrev Came : Sketch → List ℕ → Out → Type 0
Came t tregs o = (f : File) × (o ≡ file_of t tregs f)

took_file : (t : Sketch) (tregs image : List ℕ) (o : Out) → TookSome t tregs image o → Came t tregs o
took_file t tregs image o k = go k.0 k.1
  where
    go : (g : Result ℕ ⊤) → Took t tregs g image o → Came t tregs o
    go (Ok n) h = (came _ h.0, h.1)
    go (Err e) h = (unread, h)

-- whatever kind of error the reader gives
pub some_word : {E : Type 0} (t : Sketch) (tregs image : List ℕ) (o : Out) (g : Result ℕ E) → Took t tregs g image o → TookSome t tregs image o
some_word t tregs image o (Ok n) h = (Ok n, h)
some_word t tregs image o (Err e) h = (Err tt, h)

-- all that were read so far were merged
pub record SoFar (t : Sketch) (tregs : List ℕ) (done : ℕ) (s : Sketch) (regs : List ℕ) : Type 0 where
  pub read : List File
  pub is : merging 0 0 done s regs ≡ merge_all 0 t tregs read
  pub long : length read ≡ done

pub none_yet : (t : Sketch) (tregs : List ℕ) → SoFar t tregs 0 t tregs
unfolding merge_all
none_yet t tregs = record { read = []; is = refl; long = refl }

-- what comes of one more
more : (i : ℕ) (t : Sketch) (tregs : List ℕ) (fs : List File) (f : File) (j : ℕ) (s : Sketch) (regs : List ℕ) → merging 0 0 j s regs ≡ merge_all i t tregs fs → merge_all i t tregs (fs ++ (f ∷ [])) ≡ merge_all j s regs (f ∷ [])
unfolding merge_all
more i t tregs [] f j s regs e = ap (λ (m : Merging). merge_all m.file m.sketch m.regs (f ∷ [])) (sym e)
more i t tregs (g ∷ fs) f j s regs e = go (file_of t tregs g) (λ o. more (suc i) o.sketch o.regs fs f j s regs) (eqb (file_of t tregs g).no 0) refl e
  where
    go : (o : Out) → ((o : Out) → merging 0 0 j s regs ≡ merge_all (suc i) o.sketch o.regs fs → merge_all (suc i) o.sketch o.regs (fs ++ (f ∷ [])) ≡ merge_all j s regs (f ∷ [])) → (b : Bool) → eqb o.no 0 ≡ b
        → merging 0 0 j s regs ≡ pick b (merge_all (suc i) o.sketch o.regs fs) (merging o.no o.place (suc i) o.sketch o.regs)
        → pick b (merge_all (suc i) o.sketch o.regs (fs ++ (f ∷ []))) (merging o.no o.place (suc i) o.sketch o.regs) ≡ merge_all j s regs (f ∷ [])
    go o ih true q e = ih o e
    go o ih false q e = absurd (eqb-false o.no 0 q (ap (λ (m : Merging). m.no) (sym e)))

module _ (t : Sketch) (tregs : List ℕ) (done : ℕ) (s : Sketch) (regs : List ℕ) (so : SoFar t tregs done s regs) (n p : ℕ) (u : Sketch) (q image : List ℕ) (some : TookSome s regs image (out n p u 0 q [])) where
  took : Came s regs (out n p u 0 q [])
  took = took_file s regs image (out n p u 0 q []) some

  all : List File
  all = so.read ++ (took.0 ∷ [])

  all_long : length all ≡ done + 1
  unfolding all
  all_long = length-append so.read (took.0 ∷ []) ∙ (let e = so.long in omega arith)

  one : merge_all 0 t tregs all ≡ pick (eqb n 0) (merging 0 0 (done + 1) u q) (merging n p (done + 1) u q)
  unfolding all merge_all
  one =
      more 0 t tregs so.read took.0 done s regs so.is
      ∙ ap (λ (o : Out). pick (eqb o.no 0) (merging 0 0 (suc done) o.sketch o.regs) (merging o.no o.place (suc done) o.sketch o.regs)) (sym took.1)
      ∙ rw add-one

  refused : (files : ℕ) → done < files → (n ≡ 0 → ⊥) → Merged files t tregs (merging n p (done + 1) u q)
  refused files due h =
      let e = all_long in
      record { read = all; is = sym (one ∙ ap (λ (b : Bool). pick b (merging 0 0 (done + 1) u q) (merging n p (done + 1) u q)) (ne_eqb n 0 h)); most = omega arith; whole = λ z. absurd (h z) }

  passed : n ≡ 0 → SoFar t tregs (done + 1) u q
  passed z = record { read = all; is = sym (one ∙ ap (λ (b : Bool). pick b (merging 0 0 (done + 1) u q) (merging n p (done + 1) u q)) (eq-eqb n 0 z)); long = all_long }

-- one that was merged, and one that was refused
module _ (t : Sketch) (tregs : List ℕ) (done : ℕ) (s : Sketch) (regs : List ℕ) (so : SoFar t tregs done s regs) (q image : List ℕ) where
  pub merged : (u : Sketch) → TookSome s regs image (taken_out s (Ok u) q) → SoFar t tregs (done + 1) u q
  merged u h = passed t tregs done s regs so 0 0 u q image h refl

  pub stopped : (e : Fault) → TookSome s regs image (taken_out s (Err e) q) → (files : ℕ) → done < files → Merged files t tregs (merging (fault_no e) (fault_place e) (done + 1) s q)
  stopped e h files due = refused t tregs done s regs so (fault_no e) (fault_place e) s q image h files due (fault_some e)

pub ended : (t : Sketch) (tregs : List ℕ) (s : Sketch) (regs : List ℕ) (files : ℕ) → SoFar t tregs files s regs → Merged files t tregs (merging 0 0 files s regs)
ended t tregs s regs files so = let l = so.long in record { read = so.read; is = so.is; most = omega arith; whole = λ z. so.long }
