-- `image_list::preamble` meets its contract: one rung of the ladder after the other. Assumes nothing.
use mathlib.Core.Path.{◌≡◌, sym, ap, ◌∙◌, subst}
use mathlib.Core.Bool.{Bool, true}
use mathlib.Core.List.{List}
use Prim.Native.Nat.{ℕ, ◌%◌, ◌≤◌, ◌<◌}
use lib.Dec.{eqb}
use lib.ListN.{length, get_or}
use Rattle.model.specs.Pick.{both}
use Rattle.model.specs.Answers.{said}
use Rattle.model.specs.Check.{lgk_no}
use Rattle.model.specs.Lists.{layout_in}
use Rattle.model.proofs.calls.Rungs.{lgk_off, lgk_right}
use Rattle.image_list.specs.Read.{layout_as}
use Rattle.image_list.specs.declared.Layout.{Layout}
use Rattle.model.proofs.image.ListRungs.{begun, short_8, other_header, short_set, other_mode, other_size, other_form, preamble_right}
use Rattle.image_list.proofs.preamble.Goals as goal
use Rattle.image_list.proofs.preamble.Goals.{Else-image-y, Else-image-y-2, Else-not-begins, Else-not-is_lg_k}

-- none of these names a place
plain : {m n : ℕ} → m ≡ n → said m 0 ≡ said n 0
plain e = ap (λ (n : ℕ). said n 0) e

-- the tests, of what the book reads
begun_is : (l : List ℕ) {y : Layout} {b : Bool} → y ≡ layout_as (layout_in l) → b ≡ both (eqb (get_or l 0 0) y.preamble) (both (eqb (get_or l 1 0) 1) (eqb (get_or l 2 0) 7)) → begun l ≡ b
begun_is l is e =
    sym (e ∙ ap (λ (y : Layout). both (eqb (get_or l 0 0) y.preamble) (both (eqb (get_or l 1 0) 1) (eqb (get_or l 2 0) 7))) is)

begins : (c : Else-not-begins) → begun c.args.image.now ≡ true
begins c = begun_is c.args.image.now c.layout_of-y.ensures c.begins.ensures ∙ c.if-not-begins.false

whole : (c : Else-image-y) → let l = c.args.image.now in (layout_in l).words ≤ length l
whole c =
    let l = c.args.image.now in subst (λ (y : Layout). y.words ≤ length l) c.layout_of-y.ensures c.if-image-y.false

mode : (c : Else-image-y-2) → let l = c.args.image.now in get_or l 7 0 % 4 ≡ (layout_in l).mode
mode c =
    c.if-image-y-2.false ∙ ap (λ (y : Layout). y.mode) c.layout_of-y.ensures

sized : (c : Else-not-is_lg_k) → lgk_no (get_or c.args.image.now 3 0) ≡ 0
sized c =
    lgk_right _ _ c.is_lg_k.ensures c.if-not-is_lg_k.false

pub returns-then-image-lt-LEAST : goal.returns-then-image-lt-LEAST
returns-then-image-lt-LEAST c = plain (short_8 _ c.if-image-lt-LEAST.true)

pub returns-then-not-begins : goal.returns-then-not-begins
returns-then-not-begins c =
    plain (other_header _ c.if-image-lt-LEAST.false (begun_is c.args.image.now c.layout_of-y.ensures c.begins.ensures ∙ c.if-not-begins.true))

pub returns-then-image-y : goal.returns-then-image-y
returns-then-image-y c =
    let l = c.args.image.now in
    plain (short_set l c.if-image-lt-LEAST.false (begins (goal.at.returns-then-image-y c).Else-not-begins) (subst (λ (y : Layout). length l < y.words) c.layout_of-y.ensures c.if-image-y.true))

pub returns-then-image-y-2 : goal.returns-then-image-y-2
returns-then-image-y-2 c =
    let past = goal.at.returns-then-image-y-2 c in
    plain (other_mode _ c.if-image-lt-LEAST.false (begins past.Else-not-begins) (whole past.Else-image-y) (λ e. c.if-image-y-2.true (e ∙ sym (ap (λ (y : Layout). y.mode) c.layout_of-y.ensures))))

pub returns-then-not-is_lg_k : goal.returns-then-not-is_lg_k
returns-then-not-is_lg_k c =
    let past = goal.at.returns-then-not-is_lg_k c in
    plain (other_size _ c.if-image-lt-LEAST.false (begins past.Else-not-begins) (whole past.Else-image-y) (mode past.Else-image-y-2) (lgk_off _ _ c.is_lg_k.ensures c.if-not-is_lg_k.true))

pub returns-then-image-ne1 : goal.returns-then-image-ne1
returns-then-image-ne1 c =
    let past = goal.at.returns-then-image-ne1 c in
    plain (other_form _ c.if-image-lt-LEAST.false (begins past.Else-not-begins) (whole past.Else-image-y) (mode past.Else-image-y-2) (sized past.Else-not-is_lg_k) c.if-image-ne1.true)

pub returns : goal.returns
returns c =
    let past = goal.at.returns c in
    plain (preamble_right _ c.if-image-lt-LEAST.false (begins past.Else-not-begins) (whole past.Else-image-y) (mode past.Else-image-y-2) (sized past.Else-not-is_lg_k) c.if-image-ne1.false)
