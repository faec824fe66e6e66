-- `image_put::words::put_words` meets its contract: the entries among the words are what the chain gives, each at its place. Assumes nothing.
use mathlib.Core.Path.{refl, sym, ap, ◌∙◌}
use mathlib.Core.Bool.{not}
use Prim.Native.Nat.{ℕ, ◌+◌, ◌*◌}
use native.Mathlib.Omega.{arith}
use lib.ListN.{length, take}
use borrow.Author.Rules.{rules}
use borrow.Author.Tests.{tests}
use Rattle.std.specs.List.{enumerate_from}
use Rattle.std.proofs.lemmas.List.{length_push}
use Rattle.std.proofs.lemmas.Iterator.{YieldsList, YieldsList-from_slice, YieldsList-from_take}
use Rattle.std.proofs.lemmas.Iterator.Consumers.{YieldsList-at, YieldsList-from_copied, YieldsList-from_filter, YieldsList-from_enumerate, YieldsList-turn, YieldsList-end}
use Rattle.model.specs.Coupon.{is_empty}
use Rattle.model.specs.Packed.{digits}
use Rattle.model.specs.Table.{filled}
use Rattle.image_put.specs.Parts.{over, word_bytes}
use Rattle.image_put.proofs.Over.{over_pasted}
use Rattle.image_put.proofs.Turns.{filter_filled, turned, ended, words_none, words_more}
use Rattle.image_put.proofs.words.put_words.Given as given
use Rattle.image_put.proofs.words.put_words.Goals as goal
use Rattle.image_put.proofs.words.put_words.Goals.{At-loop-n}

-- what the chain gives
road : (c : At-loop-n) → YieldsList (given.iterator-loop-n).next_gives (λ (p : ℕ × ℕ). p) c.into_iter-n-iterator.result (enumerate_from 0 (take c.args.count (filled c.args.words.now)))
road c =
    rw (sym (filter_filled c.args.words.now))
    (YieldsList-at c.into_iter-n-iterator.ensures.into_iter_gives
    (YieldsList-from_enumerate
    (YieldsList-at c.enumerate-n-items.ensures.source
    (YieldsList-from_take c.args.count
    (YieldsList-at c.take.ensures.source
    (YieldsList-from_filter _ (λ w. not (is_empty w))
    (YieldsList-at c.filter-entries.ensures.source (YieldsList-from_copied (YieldsList-at c.copied.ensures.source (YieldsList-from_slice c.args.words.now cc))))
    c.filter-entries.ensures.closure (λ x r q k. search (rules, tests))))
    c.take.ensures.count))
    c.enumerate-n-items.ensures.count))

pub loop-n-init : goal.loop-n-init
loop-n-init c = (refl, words_none c.args.out.now c.args.words.now c.args.at)

pub loop-n-preserved : goal.loop-n-preserved
loop-n-preserved c =
    let a = c.args in
    let loop = c.loop-n in
    let n = length loop.yielded in
    let t = turned a.words.now a.count n _ c.requires.enough (YieldsList-turn (road (goal.at.loop-n-preserved c).At-loop-n) loop.yielded _ loop.yielded_by _ _ (c.in-Some.n, c.in-Some.w) c.in-Some.is c.next.ensures.steps) in
    let put = c.put.ensures ∙ over_pasted _ _ _ ∙ ap (λ (k : ℕ). over loop.out (a.at + 4 * k) c.u32_bytes.result) t.1 in
    let more = words_more a.out.now a.words.now a.at n (λ i. (c.type_inv.words i).fits) (omega (arith, t.0)) loop.invariant.1 (c.u32_bytes.ensures ∙ ap (digits 256 4) t.2) put (omega (arith, t.0, c.requires.room)) in
    (c.put.auto.out ∙ loop.invariant.0, more ∙ ap (λ (k : ℕ). over a.out.now a.at (word_bytes k a.words.now)) (sym (length_push loop.yielded (c.in-Some.n, c.in-Some.w))))

pub returns : goal.returns
returns c =
    let a = c.args in
    let loop = c.loop-n in
    let e = YieldsList-end (road (goal.at.returns c).At-loop-n) loop.yielded _ loop.yielded_by _ _ c.in-None.is c.next.ensures.steps in
    loop.invariant.1 ∙ ap (λ (k : ℕ). over a.out.now a.at (word_bytes k a.words.now)) (ended a.words.now a.count _ c.requires.enough e.1)
