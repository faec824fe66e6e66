-- What feed over a lent record gives back.
use Rattle.std.specs.Prelude.{List, ℕ, Result, Ok, Err}
use Rattle.model.specs.Answers.{refusal_no, refusal_place}
use Rattle.model.specs.Calls.{Out, out}
use Rattle.model.specs.declared.Sketch.{Sketch}
use Rattle.sketch_in_place.specs.declared.StoppedInPlace.{StoppedInPlace}

-- what a batch gives by a record in its place: number and place, the record left there, the count, and the memory
abbrev pub fed_in_place_out : Result ℕ StoppedInPlace → Sketch → List ℕ → List ℕ → Out
fed_in_place_out (Ok taken) s regs aux = out 0 0 s taken regs aux
fed_in_place_out (Err e) s regs aux = out (refusal_no e.why) (refusal_place e.why) s e.taken regs aux
