-- A fault is no OK, and those of the first twenty numbers name no place. Assumes nothing.
use mathlib.Core.Path.{◌≡◌, refl, ap, ◌∙◌}
use mathlib.Core.List.{List}
use Prim.Native.Nat.{ℕ, ◌<◌}
use native.Mathlib.Omega.{arith}
use Rattle.std.specs.Prelude.{Result, Ok, Err, IsOk}
use Rattle.model.specs.Calls.{Out, kept_or}
use Rattle.model.specs.declared.Refusal.{Refusal}
use Rattle.model.specs.declared.Sketch.{Sketch}
use Rattle.model.proofs.calls.Places.{low_place}
use Rattle.model.proofs.calls.Refusals.{refusal_some}
use Rattle.merge_job.specs.declared.Fault.{Fault}
use Rattle.merge_job.specs.declared.Fault.TheVariants.{Long, Job, Io, Large, Refused}
use Rattle.merge_job.specs.Promised.{fault_no, fault_place}

pub fault_some : (e : Fault) → fault_no e ≡ 0 → ⊥
fault_some Long h = absurd (omega arith)
fault_some Job h = absurd (omega arith)
fault_some Io h = absurd (omega arith)
fault_some Large h = absurd (omega arith)
fault_some (Refused e) h = refusal_some e h

pub low_fault : (e : Fault) → fault_no e < 21 → fault_place e ≡ 0
low_fault Long h = refl
low_fault Job h = refl
low_fault Io h = refl
low_fault Large h = refl
low_fault (Refused e) h = low_place {A = ℕ} (Err e) h

-- a call that is not refused gives its sketch
pub accepted : (came : Sketch) (r : Result Sketch Refusal) (regs aux : List ℕ) {o : Out} → kept_or came r regs aux ≡ o → o.no ≡ 0 → IsOk r
accepted came (Ok s) regs aux e z = refl
accepted came (Err f) regs aux e z = absurd (refusal_some f (ap (λ (o : Out). o.no) e ∙ z))
