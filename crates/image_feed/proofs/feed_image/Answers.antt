-- `image_feed::feed_image` meets its contract: it is refused, or all its words are fed. Assumes nothing.
use mathlib.Core.Path.{sym, ap, ◌∙◌, subst}
use mathlib.Core.List.{List}
use Prim.Native.Nat.{ℕ, ◌+◌, ◌*◌, ◌≤◌}
use native.Mathlib.Omega.{arith}
use lib.ListN.{length, drop, length-drop}
use Rattle.model.specs.Packed.{unpacked}
use Rattle.model.specs.Calls.{batch_of}
use Rattle.sketch_feed.proofs.Batch.{ready}
use Rattle.image_list.specs.declared.Coupons.{Coupons}
use Rattle.model.proofs.image.ListRungs.{coupons_long}
use Rattle.model.proofs.image.Lists.{feed_image_says, feed_image_is}
use Rattle.model.proofs.packing.ByteLists.{from_on}
use Rattle.image_feed.proofs.Outcomes.{refused_by}
use borrow.Author.Rules.{rules}
use Rattle.image_feed.proofs.feed_image.Goals as goal
use Rattle.image_feed.proofs.feed_image.Goals.{In-Ok}

whole : (c : In-Ok) → let k = c.in-Ok.c in k.words + 4 * k.count ≤ length c.args.image.now
whole c =
    let a = c.args in
    let l = a.image.now in
    let passed = (feed_image_says a.sketch a.regs.now a.aux.now a.scratch.now l).0 c.in-Ok.ensures.0 in
    subst (λ (k : Coupons). k.words + 4 * k.count ≤ length l) (sym c.in-Ok.ensures.1) (coupons_long l _ passed.1.1)

pub returns-in-Err : goal.returns-in-Err
returns-in-Err c = refused_by _ _ _ _ _ _ c.refused.ensures c.in-Err.ensures

pub slice_bounds-feed_words-count : goal.slice_bounds-feed_words-count
slice_bounds-feed_words-count c = omega (arith, whole (goal.at.slice_bounds-feed_words-count c).In-Ok)

pub slice_bounds-feed_words-start : goal.slice_bounds-feed_words-start
slice_bounds-feed_words-start c = omega (arith, whole (goal.at.slice_bounds-feed_words-start c).In-Ok)

pub feed_words-requires : goal.feed_words-requires
feed_words-requires c =
    let a = c.args in
    let l = a.image.now in
    let passed = (feed_image_says a.sketch a.regs.now a.aux.now a.scratch.now l).0 c.in-Ok.ensures.0 in
    let part = ap length (from_on c.in-Ok.c.words l) ∙ length-drop c.in-Ok.c.words l in
    (ready _ _ _ _ passed.0 (search rules), omega (arith, whole (goal.at.feed_words-requires c).In-Ok))

pub returns-in-Ok : goal.returns-in-Ok
returns-in-Ok c =
    let a = c.args in
    let l = a.image.now in
    let k = c.in-Ok.c in
    c.feed_words.ensures
    ∙ ap (λ (x : List ℕ). batch_of a.sketch a.regs.now a.aux.now (unpacked 32 k.count x)) (from_on k.words l)
    ∙ ap (λ (k : Coupons). batch_of a.sketch a.regs.now a.aux.now (unpacked 32 k.count (drop k.words l))) c.in-Ok.ensures.1
    ∙ sym (feed_image_is _ _ _ _ l c.in-Ok.ensures.0)
