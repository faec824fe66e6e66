-- What the functions of the merge program promise and ask. What a read brings is not theirs to say: what they promise is of the bytes that are then in the buffer.
use Rattle.std.specs.Prelude.{◌≡◌, Bool, List, [], ℕ, ◌≤◌, length, take, drop, replicate, Result, Ok, Err, MatchResult, ⊤}
use Rattle.model.specs.Pick.{pick}
use Rattle.model.specs.Packed.{Bytes}
use Rattle.model.specs.Sketch.{bytes_of, Good}
use Rattle.model.specs.Answers.{refusal_no, refusal_place}
use Rattle.model.specs.Calls.{Out, out, refused_at, refused_out}
use Rattle.model.specs.Image.{image_in, sketch_in}
use Rattle.model.specs.declared.Sketch.{Sketch}
use Rattle.image_header.specs.declared.Image.{Image}
use Rattle.job.specs.Job.{ins_in, job_of, places_of}
use Rattle.job.specs.declared.Places.{Places}
use Rattle.report.specs.Report.{refused_text, merged_text}
use Rattle.merge_job.specs.declared.Fault.{Fault}
use Rattle.merge_job.specs.declared.Fault.TheVariants.{Long, Job, Io, Large, Refused}
use Rattle.merge_job.specs.declared.Stopped.{Stopped}
use Rattle.merge_job.specs.Merge.{take_of, File, Merging, merging, merge_all, merged_of, report_of}

-- a sketch of kind 8 in good order, and of this size
pub record Target (lgk : ℕ) (t : Sketch) (tregs : List ℕ) : Type 0 where
  pub eight : t.kind ≡ 8
  pub size : t.lg_k ≡ lgk
  pub good : Good t tregs []

-- the number of a fault: the program adds 17 to 20 to those of the table
abbrev pub fault_no : Fault → ℕ
fault_no Long = 17
fault_no Job = 18
fault_no Io = 19
fault_no Large = 20
fault_no (Refused e) = refusal_no e

-- its place, or 0
abbrev pub fault_place : Fault → ℕ
fault_place Long = 0
fault_place Job = 0
fault_place Io = 0
fault_place Large = 0
fault_place (Refused e) = refusal_place e

-- an answer's number, 0 where it is no fault
abbrev pub answer_no : {A : Type 0} → Result A Fault → ℕ
answer_no (Ok x) = 0
answer_no (Err e) = fault_no e

-- what became of the target: number, place, record, register bytes; where there is a fault, the record is the one that came
abbrev pub taken_out : Sketch → Result Sketch Fault → List ℕ → Out
taken_out t (Ok s) tregs = out 0 0 s 0 tregs []
taken_out t (Err e) tregs = refused_at (fault_no e) (fault_place e) t tregs []

-- a file came to this, where the reader says how many bytes are in the buffer, or that it failed: what these bytes come to, or IO
abbrev pub Took : {E : Type 0} → Sketch → List ℕ → Result ℕ E → List ℕ → Out → Type 0
Took t tregs (Ok n) image o = Bytes (take n image) × (o ≡ take_of t tregs (take n image))
Took t tregs (Err e) image o = o ≡ refused_out 19 t tregs []

-- the same, whatever the reader says
abbrev pub TookSome : Sketch → List ℕ → List ℕ → Out → Type 0
TookSome t tregs image o = (g : Result ℕ ⊤) × Took t tregs g image o

-- so many files, or those up to the first that is refused, came to this
pub record Merged (files : ℕ) (t : Sketch) (tregs : List ℕ) (m : Merging) : Type 0 where
  pub read : List File
  pub is : m ≡ merge_all 0 t tregs read
  pub most : length read ≤ files
  pub whole : m.no ≡ 0 → length read ≡ files

-- all of them were merged, or the fault and the position are those of one that is refused; whatever its record then is, it is not handed out
abbrev pub Ran : ℕ → Sketch → List ℕ → Result Sketch Stopped → List ℕ → Type 0
Ran files t tregs r new = MatchResult r (λ s. Merged files t tregs (merging 0 0 files s new)) (λ e. (s : Sketch) × Merged files t tregs (merging (fault_no e.fault) (fault_place e.fault) e.file s new))

-- the `in=` lines of a job start at a place, and are so many
pub record Lists (l : List ℕ) (at files : ℕ) : Type 0 where
  pub ins_are : (job_of l).ins ≡ ins_in 64 (drop at l)
  pub many : files ≡ length (job_of l).ins

-- an image with its header, and the memory that it is opened into
pub record Opened (i : Image) (regs aux scratch : List ℕ) : Type 0 where
  pub regs_are : regs ≡ replicate (bytes_of (sketch_in i.bytes.now).kind (sketch_in i.bytes.now).lg_k) 0
  pub aux_is : aux ≡ replicate 8192 0
  pub scratch_is : scratch ≡ replicate 8192 0

-- a job, its places, and as many zeros as it asks for registers
pub record Asked (l : List ℕ) (p : Places) (regs : List ℕ) : Type 0 where
  pub is : p ≡ places_of (job_of l)
  pub some : p.lg_k ≡ 0 → ⊥
  pub zeros : regs ≡ replicate (bytes_of 8 p.lg_k) 0

-- all files of a job were read, and this is what they come to
pub record Whole (l : List ℕ) (t : Sketch) (tregs : List ℕ) : Type 0 where
  pub some : (job_of l).lgk ≡ 0 → ⊥
  pub read : List File
  pub all : length read ≡ length (job_of l).ins
  pub passed : (merged_of (job_of l) read).no ≡ 0
  pub sketch_is : t ≡ (merged_of (job_of l) read).sketch
  pub regs_are : tregs ≡ (merged_of (job_of l) read).regs

-- what may be put where: the image of that, at the job's path
pub record Puts (l path image : List ℕ) : Type 0 where
  pub sketch : Sketch
  pub regs : List ℕ
  pub whole : Whole l sketch regs
  pub path_is : path ≡ (job_of l).out
  pub image_is : image ≡ image_in sketch regs []

-- a text is the report of these registers, put in their place or not
abbrev pub Finished : ℕ → ℕ → List ℕ → List ℕ → Type 0
Finished files lgk R said = (put : Bool) × (said ≡ pick put (merged_text files lgk R) (refused_text 19 0 0))

-- a text is the report of a text as a job, for some files: those that the job lists, or those up to the first that is refused
pub record Reported (l said : List ℕ) : Type 0 where
  pub read : List File
  pub put : Bool
  pub most : length read ≤ length (job_of l).ins
  pub whole : ((job_of l).lgk ≡ 0 → ⊥) → (merged_of (job_of l) read).no ≡ 0 → length read ≡ length (job_of l).ins
  pub holds : said ≡ report_of l read put
