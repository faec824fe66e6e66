-- What is claimed of the merge program: its job, its files, and from end to end: what stations have fed, written and sent is merged as if one sketch had been fed it all.
-- proofs/Claims.antt has the proofs.
use Rattle.std.specs.Prelude.{◌≡◌, Bool, true, false, List, [], ◌∷◌, ◌++◌, ℕ, ◌^◌, ◌≤◌, eqb, length, take}
use Rattle.model.specs.Pick.{pick}
use Rattle.model.specs.Answers.{placed}
use Rattle.model.specs.Sketch.{registers}
use Rattle.model.specs.Image.{image_in, write_of}
use Rattle.model.specs.History.{Stands}
use Rattle.model.specs.Claims.{SameSet, freshly_fed}
use Rattle.model.specs.declared.Sketch.{Sketch}
use Rattle.job.specs.Job.{Job, Fit, text_of, job_of}
use Rattle.report.specs.Report.{merged_text}
use Rattle.merge_job.specs.Merge.{File, unread, came, file_of, merge_all, joined_all, merged_of, report_of}
use Rattle.merge_job.specs.Promised.{Target, Puts}

-- ---- the job
-- a text that is read as a job is the text of one that may be asked for
abbrev pub JobText : Type 0
JobText = (l : List ℕ) → ((job_of l).lgk ≡ 0 → ⊥) → (l ≡ text_of (job_of l)) × Fit (job_of l)

-- and the text of any such is read as it
abbrev pub TextJob : Type 0
TextJob = (j : Job) → Fit j → job_of (text_of j) ≡ j

-- ---- the files
-- the numbers that a file can get: not NO_ROOM, nor what speaks of the target, of lent memory or of the job
abbrev pub answers : List ℕ
answers = 0 ∷ 2 ∷ 5 ∷ 7 ∷ 8 ∷ 9 ∷ 10 ∷ 11 ∷ 12 ∷ 14 ∷ 15 ∷ 17 ∷ 19 ∷ 20 ∷ 21 ∷ 22 ∷ 23 ∷ 24 ∷ 25 ∷ []

-- a number stands in a list
unfoldable pub among : ℕ → List ℕ → Bool
among n [] = false
among n (m ∷ ms) = pick (eqb n m) true (among n ms)

-- it is one of them
pub record Answers (n : ℕ) : Type 0 where
  pub is : among n answers ≡ true

-- every file gets one of these
abbrev pub FileAnswers : Type 0
FileAnswers = (lgk : ℕ) (t : Sketch) (tregs : List ℕ) → Target lgk t tregs → (f : File) → Answers (file_of t tregs f).no

-- so NO_ROOM can't occur
abbrev pub NeverNoRoom : Type 0
NeverNoRoom = (lgk : ℕ) (t : Sketch) (tregs : List ℕ) → Target lgk t tregs → (f : File) → (file_of t tregs f).no ≡ 6 → ⊥

-- and a place is named with 21 to 25 alone
abbrev pub PlaceOnly : Type 0
PlaceOnly = (t : Sketch) (tregs : List ℕ) (f : File) → placed (file_of t tregs f).no ≡ false → (file_of t tregs f).place ≡ 0

-- files of which none is refused leave a target in good order, and its registers are those of all images joined
abbrev pub AllKeep : Type 0
AllKeep = (lgk i : ℕ) (t : Sketch) (tregs : List ℕ) (fs : List File) → Target lgk t tregs → (merge_all i t tregs fs).no ≡ 0
    → let m = merge_all i t tregs fs in Target lgk m.sketch m.regs × (registers m.sketch m.regs [] ≡ joined_all (2 ^ lgk) (registers t tregs []) fs)

-- ---- from end to end
-- these bytes are what write makes of a sketch of any kind that stands in some history, no coarser than lgk and not LARGE; these coupons have reached it
pub record Sent (lgk : ℕ) (l got : List ℕ) : Type 0 where
  pub kind : ℕ
  pub size : ℕ
  pub sketch : Sketch
  pub regs : List ℕ
  pub aux : List ℕ
  pub buf : List ℕ
  pub stands : Stands kind size got sketch regs aux
  pub no_coarser : lgk ≤ size
  pub small : size ≤ 12
  pub accepted : (write_of sketch regs aux buf).no ≡ 0
  pub image : l ≡ take (write_of sketch regs aux buf).len (write_of sketch regs aux buf).out

-- all files are read and each is such an image; got is what has reached one or the other
unfoldable pub AllSent : ℕ → List File → List ℕ → Type 0
AllSent lgk [] got = got ≡ []
AllSent lgk (unread ∷ fs) got = ⊥
AllSent lgk (came l b ∷ fs) got = (one : List ℕ) × (more : List ℕ) × Sent lgk l one × AllSent lgk fs more × (got ≡ one ++ more)

-- the files of a job come to what an empty kind 8 sketch of its size comes to, made in any memory and fed cs: none is refused, the image is the same byte for byte, and so, once it is in its place, is the report
pub record Delivers (l : List ℕ) (fs : List File) (mem cs : List ℕ) : Type 0 where
  pub accepted : (merged_of (job_of l) fs).no ≡ 0
  pub image_same : let m = merged_of (job_of l) fs in let f = freshly_fed (job_of l).lgk mem cs in image_in m.sketch m.regs [] ≡ image_in f.sketch f.regs f.aux
  pub report_same : report_of l fs true ≡ merged_text (length (job_of l).ins) (job_of l).lgk (freshly_fed (job_of l).lgk mem cs).regs

-- so they do where each file is such an image, and cs are the coupons that have reached the senders, in any order
abbrev pub EndToEnd : Type 0
EndToEnd = (l : List ℕ) (fs : List File) (got : List ℕ) → ((job_of l).lgk ≡ 0 → ⊥) → AllSent (job_of l).lgk fs got
    → (mem cs : List ℕ) → length mem ≡ 2 ^ (job_of l).lgk → SameSet cs got → Delivers l fs mem cs

-- and no other bytes than these, and no other path than the job's, are ever handed to the writer of the output
abbrev pub PutsThat : Type 0
PutsThat = (l path image : List ℕ) (p : Puts l path image) (got : List ℕ) → AllSent (job_of l).lgk p.whole.read got
    → (mem cs : List ℕ) → length mem ≡ 2 ^ (job_of l).lgk → SameSet cs got
    → let f = freshly_fed (job_of l).lgk mem cs in (path ≡ (job_of l).out) × (image ≡ image_in f.sketch f.regs f.aux)
