-- `image_feed::feed_words` meets its contract: `Feeding` says what is left of the words. Assumes nothing.
use mathlib.Core.Path.{◌≡◌, refl, sym, ap, ◌∙◌}
use Prim.Native.Nat.{◌+◌, ◌-◌, ◌*◌, ◌≤◌, ◌<◌}
use native.Mathlib.Omega.{arith}
use lib.ListN.{length, take, drop, length-drop}
use Rattle.model.specs.Packed.{unpacked}
use Rattle.std.specs.Prelude.{Err}
use Rattle.model.specs.Calls.{Out, fed_out, batch_of}
use Rattle.model.specs.declared.Stopped.{Stopped}
use Rattle.model.proofs.calls.Refusals.{refusal_some}
use Rattle.model.proofs.packing.Packing.{length_unpacked}
use Rattle.model.proofs.packing.ByteLists.{from_on}
use Rattle.image_feed.proofs.Feeding as feeding
use Rattle.image_feed.proofs.feed_words.Goals as goal
use Rattle.image_feed.proofs.feed_words.Goals.{After-min-n}

-- the next block: its words are there
step : (c : After-min-n) → let n = c.min-n.result in let i = c.loop-i.i in let a = c.args in
    (0 < n) × (n ≤ 64) × (i + n ≤ a.many) × (4 * (i + n) ≤ length a.words.now)
step c =
    let h = c.loop-i-test.true in
    let e = c.min-n.ensures in
    let w = c.requires.1 in
    (omega arith, omega arith, omega arith, omega arith)

-- what it gave, of the words as they are numbered in all
gave : (c : After-min-n) {o : Out} → let l = c.loop-i in let n = c.min-n.result in let w = c.args.words.now in
    o ≡ batch_of l.fed l.regs l.aux (unpacked 32 n (take (length w - 4 * l.i) (drop (4 * l.i) w)))
    → o ≡ batch_of l.fed l.regs l.aux (take n (drop l.i (unpacked 32 c.args.many w)))
gave c e =
    let l = c.loop-i in
    let w = c.args.words.now in
    e
    ∙ ap (batch_of l.fed l.regs l.aux)
    (ap (unpacked 32 c.min-n.result) (from_on (4 * l.i) w) ∙ feeding.block_words l.i c.min-n.result c.args.many w (λ i. (c.type_inv.words i).fits) c.requires.1 (step c).2)

-- it lies within the words
within : (c : After-min-n) → let a = c.args in c.loop-i.i + c.min-n.result ≤ length (unpacked 32 a.many a.words.now)
within c =
    let a = c.args in rw (length_unpacked 32 a.many a.words.now) (step c).2

pub loop-i-init : goal.loop-i-init
loop-i-init c = (refl, refl, refl, feeding.feeding_none _ _ _ _ c.requires.0.good)

pub overflow_mul-i : goal.overflow_mul-i
overflow_mul-i c =
    omega (arith, step (goal.at.overflow_mul-i c).After-min-n)

pub slice_bounds-feed_block-count : goal.slice_bounds-feed_block-count
slice_bounds-feed_block-count c =
    omega (arith, step (goal.at.slice_bounds-feed_block-count c).After-min-n)

pub slice_bounds-feed_block-start : goal.slice_bounds-feed_block-start
slice_bounds-feed_block-start c =
    omega (arith, step (goal.at.slice_bounds-feed_block-start c).After-min-n)

pub feed_block-requires : goal.feed_block-requires
feed_block-requires c =
    let words = c.args.words.now in
    let part = ap length (from_on (4 * c.loop-i.i) words) ∙ length-drop (4 * c.loop-i.i) words in
    let w = (step (goal.at.feed_block-requires c).After-min-n) in (
      record {
        good = c.loop-i.invariant.3.good;
        spare = λ four. omega (arith, c.loop-i.invariant.1, c.loop-i.invariant.2, c.requires.0.spare (sym c.loop-i.invariant.3.kind ∙ four));
      },
      w.1,
      omega arith,
    )

pub behind-requires : goal.behind-requires
behind-requires c =
    let now = (goal.at.behind-requires c).After-min-n in
    omega (arith, step now, feeding.feeding_few c.loop-i.invariant.3 c.min-n.result (within now) _ (gave now c.in-Err.ensures))

pub returns-in-Err : goal.returns-in-Err
returns-in-Err c =
    let now = (goal.at.returns-in-Err c).After-min-n in
    ap (λ (s : Stopped). fed_out (Err s) c.feed_block.new.regs c.feed_block.new.aux) c.behind.ensures
    ∙ feeding.feeding_stop c.loop-i.invariant.3 c.min-n.result (within now) _ (gave now c.in-Err.ensures) (refusal_some _)

pub overflow_add-i : goal.overflow_add-i
overflow_add-i c =
    omega (arith, step (goal.at.overflow_add-i c).After-min-n)

pub loop-i-smaller : goal.loop-i-smaller
loop-i-smaller c =
    let w = (step (goal.at.loop-i-smaller c).After-min-n) in omega (arith, w)

pub loop-i-preserved : goal.loop-i-preserved
loop-i-preserved c =
    let now = (goal.at.loop-i-preserved c).After-min-n in (
      c.feed_block.auto.regs ∙ c.loop-i.invariant.0,
      c.feed_block.auto.aux ∙ c.loop-i.invariant.1,
      c.feed_block.auto.scratch ∙ c.loop-i.invariant.2,
      feeding.feeding_more c.loop-i.invariant.3 c.min-n.result (within now) _ (gave now c.in-Ok.ensures) refl,
    )

pub shape_of-regs : goal.shape_of-regs
shape_of-regs c = c.loop-i.invariant.0

pub shape_of-aux : goal.shape_of-aux
shape_of-aux c = c.loop-i.invariant.1

pub shape_of-scratch : goal.shape_of-scratch
shape_of-scratch c = c.loop-i.invariant.2

pub returns : goal.returns
returns c =
    let a = c.args in
    let many = length_unpacked 32 a.many a.words.now in
    feeding.feeding_end c.loop-i.invariant.3 (omega (arith, c.loop-i.invariant.3.upto, c.loop-i-test.false))
