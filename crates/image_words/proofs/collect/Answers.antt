-- `image_words::collect` meets its contract: the end of `into`, from top on, has the entries among the words from j on. Assumes nothing.
use mathlib.Core.Path.{◌≡◌, refl, sym, ◌∙◌, ap}
use mathlib.Core.Bool.{false}
use mathlib.Core.List.{map}
use Prim.Native.Nat.{ℕ, ◌^◌, ◌≤◌, ◌<◌}
use native.Mathlib.Omega.{arith}
use lib.ListN.{length, drop}
use borrow.Author.Rules.{rules}
use Rattle.model.specs.Packed.{unpacked}
use Rattle.model.specs.Coupon.{is_empty}
use Rattle.model.specs.Table.{filled}
use Rattle.model.specs.Image.{homed}
use Rattle.image_words.proofs.Collecting.{stands_none, stands_room, stands_passed, stands_taken}
use Rattle.image_words.proofs.collect.Goals as goal
use Rattle.image_words.proofs.collect.Goals.{At-loop-j, Then-not-is_empty}

enough : (c : At-loop-j) → length (filled (unpacked 32 c.args.many c.args.words.now)) ≤ length c.loop-j.into
enough c =
    omega (arith, c.loop-j.invariant.1, c.requires.fits)

-- the word read is an entry, and there is room for it
room : (c : Then-not-is_empty) → 0 < c.loop-j.top
room c =
    stands_room _ _ _ _ _ _ c.loop-j-test.true c.loop-j.invariant.0 (omega (arith, c.loop-j.invariant.1, c.requires.fits)) c.loop-j.invariant.2 _ c.word_at-w.ensures (sym c.is_empty.ensures ∙ c.if-not-is_empty.true)

pub loop-j-init : goal.loop-j-init
loop-j-init c = (omega arith, refl, stands_none _ _ _ _)

pub word_at-w-requires : goal.word_at-w-requires
word_at-w-requires c = omega (arith, c.requires.whole)

pub overflow_sub-top : goal.overflow_sub-top
overflow_sub-top c = room c

pub offset_bounds-into-top : goal.offset_bounds-into-top
offset_bounds-into-top c = omega (arith, room (goal.at.offset_bounds-into-top c).Then-not-is_empty, c.loop-j.invariant.2.within)

pub bounds-into-top : goal.bounds-into-top
bounds-into-top c = omega (arith, room (goal.at.bounds-into-top c).Then-not-is_empty, c.loop-j.invariant.2.within)

pub loop-j-preserved-then-not-is_empty : goal.loop-j-preserved-then-not-is_empty
loop-j-preserved-then-not-is_empty c =
    let some : is_empty c.word_at-w.result ≡ false =
    sym c.is_empty.ensures ∙ c.if-not-is_empty.true in
    let l = c.loop-j in
    (omega (arith, l.invariant.0), search rules, stands_taken _ _ _ _ _ _ c.loop-j-test.true l.invariant.0 (enough (goal.at.loop-j-preserved-then-not-is_empty c).At-loop-j) l.invariant.2 _ c.word_at-w.ensures some _ c.take.ensures)

pub loop-j-preserved : goal.loop-j-preserved
loop-j-preserved c =
    let l = c.loop-j in
    (omega (arith, l.invariant.0), l.invariant.1, stands_passed _ _ _ _ _ _ c.loop-j-test.true l.invariant.0 (enough (goal.at.loop-j-preserved c).At-loop-j) l.invariant.2 _ c.word_at-w.ensures (sym c.is_empty.ensures ∙ c.if-not-is_empty.false))

pub shape_of-into : goal.shape_of-into
shape_of-into c = c.loop-j.invariant.1

pub returns : goal.returns
returns c =
    let l = c.loop-j in
    let e : l.j ≡ 0 = omega (arith, c.loop-j-test.false) in
    let a = c.args in
    record { within = l.invariant.2.within; are = l.invariant.2.are ∙ ap (λ (n : ℕ). map (homed (2 ^ a.lg_k)) (filled (drop n (unpacked 32 a.many a.words.now)))) e }
