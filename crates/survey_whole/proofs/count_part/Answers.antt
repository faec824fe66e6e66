-- `survey_whole::count_part` meets its contract. Assumes nothing.
use mathlib.Core.Path.{◌≡◌, sym, ◌∙◌}
use native.Mathlib.Omega.{arith}
use lib.ListN.{take}
use Rattle.std.proofs.lemmas.List.{take_all}
use Rattle.model.specs.Packed.{Bytes}
use Rattle.survey_whole.proofs.Counted.{count_is}
use Rattle.survey_whole.proofs.count_part.Goals as goal

pub returns : goal.returns
returns c =
    let part = c.args.part.now in
    let bytes : Bytes part = λ i. (c.type_inv.part i).fits in
    let all : take c.loop-byte.byte-index part ≡ part = take_all c.loop-byte.byte-index part (omega arith) in
    (rw all at c.loop-byte.invariant.1) ∙ sym (count_is c.requires.width c.args.is part bytes)
