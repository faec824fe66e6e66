-- The merge program: the images of a job, in the order listed, into one sketch of kind 8, until one is refused; and its report.
use Rattle.std.specs.Prelude.{Bool, List, [], ◌∷◌, ℕ, suc, eqb, leb, length, replicate}
use Rattle.model.specs.Pick.{pick, first_of}
use Rattle.model.specs.Packed.{Bytes}
use Rattle.model.specs.Sketch.{bytes_of, registers}
use Rattle.model.specs.Registers.{joined}
use Rattle.model.specs.Calls.{Out, refused_at, refused_out, start_of, merge_of}
use Rattle.model.specs.Image.{sketch_in, open_of, header_no, form_no}
use Rattle.model.specs.declared.Sketch.{Sketch}
use Rattle.job.specs.Job.{Job, job_of}
use Rattle.report.specs.Report.{refused_text, merged_text}

-- ---- one image
-- LONG (17), 7 of the header and 8
unfoldable pub front_no : List ℕ → ℕ
front_no l = first_of (pick (leb (length l) 40000) 0 17 ∷ header_no l ∷ [])

-- 9, 2, LARGE (20)
unfoldable pub large_no : ℕ → ℕ → ℕ
large_no kind lgk = first_of (form_no kind lgk ∷ pick (leb lgk 12) 0 20 ∷ [])

-- before it is opened
unfoldable pub file_no : List ℕ → ℕ
file_no l = let s = sketch_in l in first_of (front_no l ∷ large_no s.kind s.lg_k ∷ [])

-- opened, into zeros: 8,192 words of exception area and of scratch
unfoldable pub opened_of : List ℕ → Out
opened_of l = let s = sketch_in l in open_of l (replicate (bytes_of s.kind s.lg_k) 0) (replicate 8192 0) (replicate 8192 0)

-- opened and merged into the target, whose FINER comes last; what opening says is handed on, number and place
unfoldable pub join_of : Sketch → List ℕ → List ℕ → Out
join_of t tregs l = let o = opened_of l in pick (eqb o.no 0) (merge_of t tregs o.sketch o.regs o.aux) (refused_at o.no o.place t tregs [])

-- all of it
unfoldable pub take_of : Sketch → List ℕ → List ℕ → Out
take_of t tregs l = let n = file_no l in pick (eqb n 0) (join_of t tregs l) (refused_out n t tregs [])

-- ---- the files
-- what comes of reading a file: nothing, or its bytes, at most 40,001
pub data File : Type 0 where
  unread : File
  came : (l : List ℕ) → Bytes l → File

-- a file into the target: IO (19) where it could not be read
abbrev pub file_of : Sketch → List ℕ → File → Out
file_of t tregs unread = refused_out 19 t tregs []
file_of t tregs (came l b) = take_of t tregs l

-- what the files come to: a refusal's number and place, and the position of its file; else 0 and how many they are. The record, the registers
pub record Merging : Type 0 where
  pub no : ℕ
  pub place : ℕ
  pub file : ℕ
  pub sketch : Sketch
  pub regs : List ℕ

-- one, by its parts
abbrev pub merging : ℕ → ℕ → ℕ → Sketch → List ℕ → Merging
merging n p i t tregs = record { no = n; place = p; file = i; sketch = t; regs = tregs }

-- the files in turn, behind i others: the first refusal ends it
unfoldable pub merge_all : ℕ → Sketch → List ℕ → List File → Merging
merge_all i t tregs [] = merging 0 0 i t tregs
merge_all i t tregs (f ∷ fs) = let o = file_of t tregs f in pick (eqb o.no 0) (merge_all (suc i) o.sketch o.regs fs) (merging o.no o.place (suc i) o.sketch o.regs)

-- the registers of an image
unfoldable pub registers_in : List ℕ → List ℕ
registers_in l = let o = opened_of l in registers o.sketch o.regs o.aux

-- the registers of all: each image's joined into k registers, in turn
unfoldable pub joined_all : ℕ → List ℕ → List File → List ℕ
joined_all k R [] = R
joined_all k R (unread ∷ fs) = joined_all k R fs
joined_all k R (came l b ∷ fs) = joined_all k (joined k R (registers_in l)) fs

-- ---- a run
-- what the files of a job come to, in an empty target of its size
unfoldable pub merged_of : Job → List File → Merging
merged_of j fs = let o = start_of 8 j.lgk (replicate (bytes_of 8 j.lgk) 0) [] in merge_all 0 o.sketch o.regs fs

-- the report of a text as a job, of the files read, and of whether the image was put in its place: JOB (18), the first refusal, IO of the output
unfoldable pub report_of : List ℕ → List File → Bool → List ℕ
report_of l fs put =
    let j = job_of l in
    let m = merged_of j fs in
    pick (eqb j.lgk 0)
    (refused_text 18 0 0)
    (pick (eqb m.no 0) (pick put (merged_text (length j.ins) j.lgk m.regs) (refused_text 19 0 0)) (refused_text m.no m.place m.file))
