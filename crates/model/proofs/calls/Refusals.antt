-- A refusal is no OK, and is handed on by `?` as it is. Assumes nothing.
use mathlib.Core.Path.{◌≡◌, ap}
use native.Mathlib.Omega.{arith}
use Rattle.std.specs.Prelude.{Result, Ok, Err, IsErrAnd}
use Rattle.model.specs.Answers.{refusal_no}
use Rattle.model.specs.declared.Refusal.{Refusal}
use Rattle.model.specs.declared.Refusal.TheVariants as v

-- a refusal's number is not OK's
pub refusal_some : (e : Refusal) → refusal_no e ≡ 0 → ⊥
refusal_some v.Kind h = absurd (omega arith)
refusal_some v.LgK h = absurd (omega arith)
refusal_some v.Size h = absurd (omega arith)
refusal_some v.Damaged h = absurd (omega arith)
refusal_some v.Finer h = absurd (omega arith)
refusal_some v.NoRoom h = absurd (omega arith)
refusal_some v.Short h = absurd (omega arith)
refusal_some v.Header h = absurd (omega arith)
refusal_some v.Mode h = absurd (omega arith)
refusal_some v.Counts h = absurd (omega arith)
refusal_some v.LgArr h = absurd (omega arith)
refusal_some v.Value h = absurd (omega arith)
refusal_some v.Spare h = absurd (omega arith)
refusal_some v.Tally h = absurd (omega arith)
refusal_some v.Out h = absurd (omega arith)
refusal_some (v.AuxEmpty i) h = absurd (omega arith)
refusal_some (v.AuxTwice i) h = absurd (omega arith)
refusal_some (v.AuxLow i) h = absurd (omega arith)
refusal_some v.AuxCount h = absurd (omega arith)
refusal_some (v.AuxMatch s) h = absurd (omega arith)
refusal_some v.Form h = absurd (omega arith)
refusal_some (v.ListEmpty i) h = absurd (omega arith)

-- what `?` returns is the error that came
pub handed_on : {A E : Type 0} (r : Result A E) {e : E} → IsErrAnd r (λ f. f ≡ e) → r ≡ Err e
handed_on (Ok x) h = absurd h
handed_on (Err f) h = ap Err h
