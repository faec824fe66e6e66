-- `survey_whole::count` meets its contract. Assumes nothing.
use mathlib.Core.Path.{◌≡◌, ap, ◌∙◌}
use mathlib.Core.List.{List, []}
use Prim.Native.Nat.{ℕ, ◌+◌, ◌*◌, ◌/◌}
use native.Mathlib.Omega.{arith}
use lib.ListN.{length, get_or, take, drop}
use Rattle.std.specs.List.{sum_by}
use Rattle.model.specs.Registers.{count_of}
use Rattle.model.specs.Packed.{Bytes}
use Rattle.model.proofs.packing.ByteLists.{bytes_drop}
use Rattle.survey_whole.specs.declared.TheConstants.{PART}
use Rattle.survey_whole.proofs.Counted.{cells, hit, hits_few, count_is, part_turn, chunk_at}
use Rattle.survey_whole.proofs.count.Goals as goal
use Rattle.survey_whole.proofs.count.Goals.{After-count_part, After-count_part-2}

turn : (c : After-count_part) → c.count_part.result + sum_by (hit c.args.width c.args.is) (drop (PART * c.loop-part.part-index + PART) c.args.regs.now) ≡ sum_by (hit c.args.width c.args.is) (drop (PART * c.loop-part.part-index) c.args.regs.now)
turn c =
    let regs = c.args.regs.now in
    let w = c.args.width in
    let i = c.loop-part.part-index in
    let bytes : Bytes regs = λ i. (c.type_inv.regs i).fits in
    let part = chunk_at PART (length regs / PART) i regs [] (omega (arith, c.loop-part-test.true, c.as_chunks.ensures.front_len)) in
    let is : get_or c.as_chunks.result.0.now i [] ≡ take PART (drop (PART * i) regs) = ap (λ (ps : List (List ℕ)). get_or ps i []) c.as_chunks.ensures.front ∙ part in
    part_turn c.requires.width c.args.is c.count_part.result PART (PART * i) regs bytes (c.count_part.ensures ∙ ap (λ (bs : List ℕ). count_of c.args.is (cells w bs)) is)

pub overflow_add-n : goal.overflow_add-n
overflow_add-n c =
    omega (arith, c.loop-part.invariant, c.requires.few, hits_few c.args.width c.args.is c.args.regs.now, turn (goal.at.overflow_add-n c).After-count_part)

pub loop-part-preserved : goal.loop-part-preserved
loop-part-preserved c =
    let f = hit c.args.width c.args.is in
    let next : PART * c.loop-part.part-index + PART ≡ PART * (c.loop-part.part-index + 1) = omega arith in
    omega (arith, c.loop-part.invariant, turn (goal.at.loop-part-preserved c).After-count_part, ap (λ (n : ℕ). sum_by f (drop n c.args.regs.now)) next)

-- what the last bytes have
last : (c : After-count_part-2) → c.count_part-2.result ≡ sum_by (hit c.args.width c.args.is) (drop (PART * c.loop-part.part-index) c.args.regs.now)
last c =
    let regs = c.args.regs.now in
    let w = c.args.width in
    let bytes : Bytes regs = λ i. (c.type_inv.regs i).fits in
    let n : length regs / PART * PART ≡ PART * c.loop-part.part-index = omega (arith, c.loop-part-test.false, c.loop-part.auto.part-index-end, c.as_chunks.ensures.front_len) in
    let is : c.as_chunks.result.1.now ≡ drop (PART * c.loop-part.part-index) regs = c.as_chunks.ensures.back ∙ ap (λ (n : ℕ). drop n regs) n in
    c.count_part-2.ensures ∙ ap (λ (bs : List ℕ). count_of c.args.is (cells w bs)) is ∙ count_is c.requires.width c.args.is (drop (PART * c.loop-part.part-index) regs) (bytes_drop (PART * c.loop-part.part-index) regs bytes)

pub overflow_add-result : goal.overflow_add-result
overflow_add-result c =
    omega (arith, c.loop-part.invariant, c.requires.few, hits_few c.args.width c.args.is c.args.regs.now, last (goal.at.overflow_add-result c).After-count_part-2)

pub returns : goal.returns
returns c =
    let regs = c.args.regs.now in
    let bytes : Bytes regs = λ i. (c.type_inv.regs i).fits in
    omega (arith, c.loop-part.invariant, last (goal.at.returns c).After-count_part-2, count_is c.requires.width c.args.is regs bytes)
