-- `image_faults::aux_fault` meets its contract: `Verdict` has a law for each return. Assumes nothing.
use mathlib.Core.Path.{sym, ap, ap₂, ◌∙◌}
use native.Mathlib.Omega.{arith}
use Rattle.model.specs.Answers.{said}
use Rattle.model.proofs.packing.Packing.{length_unpacked}
use Rattle.image_faults.specs.Windows.{no_of}
use Rattle.image_faults.proofs.Passing.{some_wrong}
use Rattle.image_faults.proofs.Verdict.{is_fault, is_count, is_even, is_match, is_fine}
use Rattle.image_faults.proofs.aux_fault.Goals as goal

pub overflow_cast-v : goal.overflow_cast-v
overflow_cast-v c =
    let a = c.args in
    omega (arith, c.sweep-v.ensures.found.upto, length_unpacked 32 a.many a.words.now, c.requires.sweepable.few)

pub returns-in-Some : goal.returns-in-Some
returns-in-Some c =
    let is = ap no_of c.in-Some.is in
    ap₂ said (c.refusal.ensures.0 ∙ sym is) c.refusal.ensures.1 ∙ is_fault c.sweep-v.ensures (λ z. some_wrong c.in-Some.fault (sym is ∙ z))

pub returns-then-v-h : goal.returns-then-v-h
returns-then-v-h c = is_count c.sweep-v.ensures (ap no_of c.in_default.is) c.if-v-h.true

pub returns-then-fulls-h : goal.returns-then-fulls-h
returns-then-fulls-h c =
    is_even c.sweep-v.ensures (ap no_of c.in_default.is) c.if-v-h.false c.if-v.true (length_unpacked 4 _ _) (sym c.if-fulls-h.true ∙ c.requires.full)

pub returns-in-Some-slot : goal.returns-in-Some-slot
returns-in-Some-slot c = is_match c.sweep-v.ensures (ap no_of c.in_default.is) c.if-v-h.false c.sweep.ensures c.in-Some-slot.is

pub returns-in-None : goal.returns-in-None
returns-in-None c = is_fine c.sweep-v.ensures (ap no_of c.in_default.is) c.if-v-h.false c.sweep.ensures c.in-None.is
