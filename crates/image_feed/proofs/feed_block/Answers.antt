-- `image_feed::feed_block` meets its contract: the front of the block is the words. Assumes nothing.
use mathlib.Core.Path.{sym, ap, ◌∙◌}
use mathlib.Core.List.{List, ◌++◌}
use Prim.Native.Nat.{ℕ, ◌≤◌}
use native.Mathlib.Omega.{arith}
use lib.ListN.{length, drop, replicate}
use lib.Seq.{length-take-le}
use Rattle.model.specs.Calls.{batch_of}
use Rattle.image_feed.proofs.Feeding.{front_fits, front_is}
use Rattle.image_feed.proofs.feed_block.Goals as goal
use Rattle.image_feed.proofs.feed_block.Goals.{After-unpack}

-- the block before its front is unpacked
abbrev zeros : List ℕ
zeros = replicate 64 0

-- its front is the words
fits : (c : After-unpack) → c.args.n ≤ length (c.unpack.new.out ++ drop c.args.n zeros)
fits c =
    front_fits c.args.n c.args.words.now zeros c.unpack.new.out c.requires.1 c.unpack.ensures

pub slice_bounds-unpack-end : goal.slice_bounds-unpack-end
slice_bounds-unpack-end c = let n = c.args.n in sym (length-take-le n zeros c.requires.1)

pub unpack-requires : goal.unpack-requires
unpack-requires c =
    omega (arith, c.requires.2, length-take-le c.args.n zeros c.requires.1)

pub slice_bounds-block-end-2 : goal.slice_bounds-block-end-2
slice_bounds-block-end-2 c =
    fits (goal.at.slice_bounds-block-end-2 c).After-unpack

pub slice_bounds-feed-end : goal.slice_bounds-feed-end
slice_bounds-feed-end c =
    sym (length-take-le _ _ (fits (goal.at.slice_bounds-feed-end c).After-unpack))

pub returns : goal.returns
returns c =
    c.feed.ensures
    ∙ ap (λ (l : List ℕ). batch_of c.args.s c.args.regs.now c.args.aux.now l) (front_is c.args.n c.args.words.now zeros c.unpack.new.out c.requires.1 c.unpack.ensures)
