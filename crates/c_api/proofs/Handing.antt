-- From a call's own promise, what the put record is and what number and place are, to the promise over words.
use mathlib.Core.Path.{◌≡◌, refl, ap, sym, ◌∙◌}
use mathlib.Core.List.{List}
use Prim.Native.Nat.{ℕ}
use Rattle.std.specs.Result.{result_unwrap_or}
use Rattle.std.specs.Prelude.{Result, Ok, Err}
use Rattle.model.specs.Answers.{number_of, place_of, Said, said}
use Rattle.model.specs.Calls.{Out, out, kept_or}
use Rattle.model.specs.Image.{wrote, wrote_out}
use Rattle.model.specs.declared.Sketch.{Sketch}
use Rattle.model.specs.declared.Refusal.{Refusal}
use Rattle.c_api.specs.Words.{Put}
use Rattle.c_api.specs.Worded.{worded, handed}

-- a call's result by its parts
pub made_parts : (came : Sketch) (m : Result Sketch Refusal) (regs aux : List ℕ) → out (number_of m) (place_of m) (result_unwrap_or m came) 0 regs aux ≡ kept_or came m regs aux
made_parts came (Ok s) regs aux = refl
made_parts came (Err e) regs aux = refl

pub wrote_parts : (m : Result ℕ Refusal) (l : List ℕ) → wrote (number_of m) (result_unwrap_or m 0) l ≡ wrote_out m l
wrote_parts (Ok n) l = refl
wrote_parts (Err e) l = refl

module _ {n m x k : ℕ} {s : Sketch} {r a w' : List ℕ} {q : Out} (w : List ℕ) (e : out n x s k r a ≡ q) (p : Put w s w') where
  pub handing : {y : ℕ} → said m y ≡ said n x → worded m y w' k r a ≡ handed w q
  handing {y} t =
      let h : handed w (out n x s k r a) ≡ handed w q = ap (handed w) e in
      let i : m ≡ n = ap (λ (o : Said). o.no) t in
      let j : y ≡ x = ap (λ (o : Said). o.place) t in cc

  -- of a call that names no place
  pub handing_none : m ≡ n → q.place ≡ 0 → worded m 0 w' k r a ≡ handed w q
  handing_none o z =
      let j : 0 ≡ x = sym (ap (λ (o : Out). o.place) e ∙ z) in handing cc
