-- A call whose number is OK's gave its value: it may be taken out, and no refusal came. Assumes nothing.
use mathlib.Core.Path.{◌≡◌, refl}
use mathlib.Core.List.{List}
use Prim.Native.Nat.{ℕ}
use Rattle.std.specs.Prelude.{Result, Ok, Err, IsOk, IsOkAnd}
use Rattle.model.specs.Calls.{kept_or, fed_out}
use Rattle.model.specs.Image.{wrote_out}
use Rattle.model.specs.declared.Sketch.{Sketch}
use Rattle.model.specs.declared.Refusal.{Refusal}
use Rattle.model.specs.declared.Fed.{Fed}
use Rattle.model.specs.declared.Stopped.{Stopped}
use Rattle.model.proofs.calls.Refusals.{refusal_some}

pub kept_ok : (came : Sketch) (r : Result Sketch Refusal) (regs aux : List ℕ) → (kept_or came r regs aux).no ≡ 0 → IsOk r
kept_ok came (Ok s) regs aux h = refl
kept_ok came (Err e) regs aux h = absurd (refusal_some e h)

pub fed_ok : (r : Result Fed Stopped) (regs aux : List ℕ) → (fed_out r regs aux).no ≡ 0 → IsOk r
fed_ok (Ok f) regs aux h = refl
fed_ok (Err s) regs aux h = absurd (refusal_some s.why h)

pub kept_some : (came : Sketch) (r : Result Sketch Refusal) (regs aux : List ℕ) {e : Refusal} → r ≡ Err e → (kept_or came r regs aux).no ≡ 0 → ⊥
kept_some came r regs aux {e} q h = refusal_some e (rw q at h)

pub fed_some : (r : Result Fed Stopped) (regs aux : List ℕ) {s : Stopped} → r ≡ Err s → (fed_out r regs aux).no ≡ 0 → ⊥
fed_some r regs aux {s} q h = refusal_some s.why (rw q at h)

pub wrote_some : (r : Result ℕ Refusal) (l : List ℕ) {e : Refusal} → r ≡ Err e → (wrote_out r l).no ≡ 0 → ⊥
wrote_some r l {e} q h = refusal_some e (rw q at h)

-- ---- what holds of a value that came
module _ {A E : Type 0} (P : A → Type 0) where
  pub came : (r : Result A E) → IsOkAnd r P → IsOk r
  came (Ok x) h = refl
  came (Err e) h = absurd h

  pub taken : {r : Result A E} {x : A} → r ≡ Ok x → IsOkAnd r P → P x
  taken q h = rw q at h
