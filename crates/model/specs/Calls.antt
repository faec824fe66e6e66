-- What each call over a sketch does, for every input: its answer's number and place, what it returns, and what lent memory then holds.
-- Scratch is left out: it may hold anything.
use Rattle.std.specs.Prelude.{◌≡◌, ℕ, ◌^◌, true, List, [], ◌∷◌, eqb, leb, Float, length, replicate, Result, Ok, Err}
use Rattle.model.specs.Pick.{pick, first_of}
use Rattle.model.specs.Answers.{refusal_no, refusal_place}
use Rattle.model.specs.Coupon.{value, home}
use Rattle.model.specs.Registers.{raise, joined}
use Rattle.model.specs.Table.{base_for}
use Rattle.model.specs.Steps.{Step, went, ran}
use Rattle.model.specs.Four.{State, state, step4}
use Rattle.model.specs.Sketch.{sketch_of, record_of, stored, area_of, table_in, registers}
use Rattle.model.specs.Check.{shape_no, scratch_fits, check_no}
use Rattle.model.specs.Sums.{kxq0, kxq1}
use Rattle.model.specs.declared.Sketch.{Sketch}
use Rattle.model.specs.declared.Checked.{Checked}
use Rattle.model.specs.declared.Refusal.{Refusal}
use Rattle.model.specs.declared.Fed.{Fed}
use Rattle.model.specs.declared.Stopped.{Stopped}

-- all that a call gives back which has a sketch: number, place, record, count, register bytes, exception area
pub record Out : Type 0 where
  pub no : ℕ
  pub place : ℕ
  pub sketch : Sketch
  pub count : ℕ
  pub regs : List ℕ
  pub aux : List ℕ

-- one, by its parts
abbrev pub out : ℕ → ℕ → Sketch → ℕ → List ℕ → List ℕ → Out
out n p s k r a = record { no = n; place = p; sketch = s; count = k; regs = r; aux = a }

-- what a call gives that changes a sketch by value, and the memory that it leaves: refused, the record stays the one that came
abbrev pub kept_or : Sketch → Result Sketch Refusal → List ℕ → List ℕ → Out
kept_or came (Ok s) regs aux = out 0 0 s 0 regs aux
kept_or came (Err e) regs aux = out (refusal_no e) (refusal_place e) came 0 regs aux

-- the record of a call that makes a sketch, where it is refused
abbrev pub nothing : Sketch
nothing = sketch_of 0 0 0 0 0

-- what a call gives that makes a sketch, and the memory that it leaves
abbrev pub made_out : Result Sketch Refusal → List ℕ → List ℕ → Out
made_out r regs aux = kept_or nothing r regs aux

-- the same of a batch
abbrev pub fed_out : Result Fed Stopped → List ℕ → List ℕ → Out
fed_out (Ok f) regs aux = out 0 0 f.sketch f.taken regs aux
fed_out (Err s) regs aux = out (refusal_no s.why) (refusal_place s.why) s.fed.sketch s.fed.taken regs aux

-- a refused call: its number and place, and all as it was
abbrev pub refused_at : ℕ → ℕ → Sketch → List ℕ → List ℕ → Out
refused_at n p s regs aux = out n p s 0 regs aux

-- one that names no place
abbrev pub refused_out : ℕ → Sketch → List ℕ → List ℕ → Out
refused_out n s regs aux = refused_at n 0 s regs aux

-- what a call that feeds gives where it is refused: the record that came, and nothing taken
abbrev pub refused_fed : Refusal → Sketch → Stopped
refused_fed e s = record { why = e; fed = record { sketch = s; taken = 0 } }

-- a sketch of these registers and this table
unfoldable pub kept_out : ℕ → ℕ → ℕ → ℕ → State → List ℕ → Out
kept_out n kind lgk count a aux = out n 0 (record_of kind lgk a.regs) count (stored kind lgk a.regs) (area_of kind a.table aux)

-- start: an empty sketch
unfoldable pub start_of : ℕ → ℕ → List ℕ → List ℕ → Out
start_of kind lgk regs aux =
    let n = shape_no kind lgk (length regs) in
    pick (eqb n 0) (kept_out 0 kind lgk 0 (state (replicate (2 ^ lgk) 0) []) aux) (refused_out n nothing regs aux)

-- the registers and the table that a sketch holds
unfoldable pub state_of : Sketch → List ℕ → List ℕ → State
state_of s regs aux = state (registers s regs aux) (table_in s aux)

-- a coupon, by kind: kinds 6 and 8 always have room
unfoldable pub step_of : ℕ → ℕ → ℕ → State → ℕ → Step State
step_of kind lgk room a c = pick (eqb kind 4) (step4 (base_for lgk) room a c) (went (state (raise a.regs (home (2 ^ lgk) c) (value c)) a.table))

-- coupons into a sketch that has passed its checks: in order, until one finds no room
unfoldable pub batch_of : Sketch → List ℕ → List ℕ → List ℕ → Out
batch_of s regs aux coupons =
    let r = ran (step_of s.kind s.lg_k (length aux)) (state_of s regs aux) coupons in
    kept_out r.no s.kind s.lg_k r.count r.state aux

-- feed: the checks, then the coupons
unfoldable pub feed_of : Sketch → List ℕ → List ℕ → List ℕ → List ℕ → Out
feed_of s regs aux scratch coupons =
    let n = check_no (scratch_fits s.kind (length aux) (length scratch)) s regs aux in
    pick (eqb n 0) (batch_of s regs aux coupons) (refused_out n s regs aux)

-- a checked sketch that is this one, in this memory
pub record IsOf (s : Sketch) (regs aux : List ℕ) (h : Checked) : Type 0 where
  pub sketch_is : h.sketch ≡ s
  pub regs_are : h.regs.now ≡ regs
  pub aux_are : h.aux.now ≡ aux

-- what unpack gives back: the number, and what the buffer then holds
pub record Unpacked : Type 0 where
  pub no : ℕ
  pub out : List ℕ

-- one, by its parts
abbrev pub unpacked_to : ℕ → List ℕ → Unpacked
unpacked_to n l = record { no = n; out = l }

-- unpack: k bytes, one a register
unfoldable pub unpack_of : Sketch → List ℕ → List ℕ → List ℕ → Unpacked
unpack_of s regs aux buf =
    let n = check_no (eqb (length buf) (2 ^ s.lg_k)) s regs aux in
    unpacked_to n (pick (eqb n 0) (registers s regs aux) buf)

-- KIND for a sketch that is not of kind 8, then its checks
unfoldable pub eight_no : Sketch → List ℕ → ℕ
eight_no s regs = first_of (pick (eqb s.kind 8) 0 1 ∷ check_no true s regs [] ∷ [])

-- view: the lent registers of a kind 8 sketch themselves, and an empty part if a check refuses
unfoldable pub view_of : Sketch → List ℕ → List ℕ
view_of s regs = pick (eqb (eight_no s regs) 0) regs []

-- merge's refusals: the target's, the source's, FINER
unfoldable pub merge_no : Sketch → List ℕ → Sketch → List ℕ → List ℕ → ℕ
merge_no t tregs s sregs saux = first_of (eight_no t tregs ∷ check_no true s sregs saux ∷ pick (leb t.lg_k s.lg_k) 0 5 ∷ [])

-- merge: the source's registers joined into the target's
unfoldable pub merge_of : Sketch → List ℕ → Sketch → List ℕ → List ℕ → Out
merge_of t tregs s sregs saux =
    let n = merge_no t tregs s sregs saux in
    let R = joined (2 ^ t.lg_k) (registers t tregs []) (registers s sregs saux) in
    pick (eqb n 0) (kept_out 0 8 t.lg_k 0 (state R []) []) (refused_out n t tregs [])

-- what sums gives back: the number, kxq0 and kxq1
pub record Summed : Type 0 where
  pub no : ℕ
  pub low : Float
  pub high : Float

-- one, by its parts
abbrev pub summed_to : ℕ → Float → Float → Summed
summed_to n x y = record { no = n; low = x; high = y }

-- sums: both, worked out from the registers; +0 where refused
unfoldable pub sums_of : Sketch → List ℕ → List ℕ → Summed
sums_of s regs aux =
    let n = check_no true s regs aux in
    let R = pick (eqb n 0) (registers s regs aux) [] in
    summed_to n (kxq0 R) (kxq1 R)
