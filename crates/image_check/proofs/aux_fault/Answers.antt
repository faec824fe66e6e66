-- `image_check::aux_fault` meets its contract: `Aux` says what each return is. Assumes nothing.
use mathlib.Core.Path.{◌∙◌}
use Prim.Native.Nat.{◌+◌, ◌≤◌}
use native.Mathlib.Omega.{arith}
use lib.ListN.{length}
use Rattle.image_check.proofs.Passing.{formed, lg_arr_here, payload_here}
use Rattle.image_check.proofs.Aux.{other, none, judgeable, judged}
use Rattle.image_check.proofs.aux_fault.Goals as goal
use Rattle.image_check.proofs.aux_fault.Goals.{After-bytes_of-end}

-- the register bytes lie within the image
whole : (c : After-bytes_of-end) → 40 + c.bytes_of-end.result ≤ length c.args.image.bytes.now
whole c =
    omega (arith, c.bytes_of-end.ensures, payload_here c.requires.sound)

pub returns-then-h-ne4 : goal.returns-then-h-ne4
returns-then-h-ne4 c = other _ _ c.requires c.if-h-ne4.true

pub returns-then-fulls-eq0 : goal.returns-then-fulls-eq0
returns-then-fulls-eq0 c = none _ _ c.requires c.if-h-ne4.false c.if-h-eq0.true c.if-fulls-eq0.true

pub bytes_of-end-requires : goal.bytes_of-end-requires
bytes_of-end-requires c = (formed c.requires.sound.formed).1.1

pub overflow_add-end : goal.overflow_add-end
overflow_add-end c =
    omega (arith, whole c)

pub word_count-many-requires : goal.word_count-many-requires
word_count-many-requires c = lg_arr_here c.requires.sound

pub slice_bounds-aux_fault-end : goal.slice_bounds-aux_fault-end
slice_bounds-aux_fault-end c =
    omega (arith, whole (goal.at.slice_bounds-aux_fault-end c).After-bytes_of-end)

pub slice_bounds-aux_fault-count-2 : goal.slice_bounds-aux_fault-count-2
slice_bounds-aux_fault-count-2 c =
    omega (arith, whole (goal.at.slice_bounds-aux_fault-count-2 c).After-bytes_of-end)

pub slice_bounds-aux_fault-start-2 : goal.slice_bounds-aux_fault-start-2
slice_bounds-aux_fault-start-2 c =
    omega (arith, whole (goal.at.slice_bounds-aux_fault-start-2 c).After-bytes_of-end)

pub aux_fault-requires : goal.aux_fault-requires
aux_fault-requires c =
    judgeable _ _ c.requires c.if-h-ne4.false _ c.bytes_of-end.ensures _ c.word_count-many.ensures

pub returns : goal.returns
returns c =
    c.aux_fault.ensures ∙ judged _ _ c.requires c.if-h-ne4.false _ c.bytes_of-end.ensures _ c.word_count-many.ensures
