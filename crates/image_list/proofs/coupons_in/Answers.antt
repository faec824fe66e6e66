-- `image_list::coupons_in` meets its contract: `Counted` says where the count is. Assumes nothing.
use mathlib.Core.Path.{◌≡◌, sym, ap, ◌∙◌}
use Prim.Native.Nat.{ℕ, ◌+◌, ◌≤◌}
use native.Mathlib.Omega.{arith}
use mathlib.Core.List.{List}
use lib.ListN.{length, get_or, drop, length-drop}
use Rattle.model.specs.Lists.{layout_in, coupon_count}
use Rattle.model.specs.Packed.{slot_at}
use Rattle.image_list.specs.Read.{layout_as}
use Rattle.image_list.specs.declared.Layout.{Layout}
use Rattle.model.proofs.image.ListRungs.{preamble_long}
use Rattle.model.proofs.packing.ByteLists.{from_on}
use Rattle.image_list.proofs.Counted.{byte_inside, byte_count, word_inside, word_count_lem}
use Rattle.image_list.proofs.coupons_in.Goals as goal
use Rattle.image_list.proofs.coupons_in.Goals.{After-layout_of-y, Else-y-eq8, Then-y-eq8}

-- the layout is the book's, and its bytes are there
is : (c : After-layout_of-y) → c.layout_of-y.result ≡ layout_as (layout_in c.args.image.now)
is c =
    c.layout_of-y.ensures

long : (c : After-layout_of-y) → let l = c.args.image.now in (layout_in l).words ≤ length l
long c =
    (preamble_long _ c.requires).1

byte : (c : Then-y-eq8) → (layout_in c.args.image.now).bits ≡ 8
byte c =
    let is : c.layout_of-y.result ≡ layout_as (layout_in c.args.image.now) =
    c.layout_of-y.ensures in
    ap (λ (y : Layout). y.bits) (sym is) ∙ c.if-y-eq8.true

word : (c : Else-y-eq8) → (layout_in c.args.image.now).bits ≡ 8 → ⊥
word c =
    let is : c.layout_of-y.result ≡ layout_as (layout_in c.args.image.now) =
    c.layout_of-y.ensures in
    λ e. c.if-y-eq8.false (ap (λ (y : Layout). y.bits) is ∙ e)

inside : (c : Else-y-eq8) → c.layout_of-y.result.count + 4 ≤ length c.args.image.now
inside c =
    let is : c.layout_of-y.result ≡ layout_as (layout_in c.args.image.now) =
    c.layout_of-y.ensures in
    let long : let l = c.args.image.now in (layout_in l).words ≤ length l =
    (preamble_long _ c.requires).1 in
    rw is (word_inside c.args.image.now (word c) long)

pub bounds-image-0 : goal.bounds-image-0
bounds-image-0 c = omega (arith, (preamble_long _ c.requires).0)

pub bounds-image-at : goal.bounds-image-at
bounds-image-at c =
    let past = goal.at.bounds-image-at c in
    rw (is past.After-layout_of-y) (byte_inside c.args.image.now (byte past.Then-y-eq8) (long past.After-layout_of-y))

pub returns-then-y-eq8 : goal.returns-then-y-eq8
returns-then-y-eq8 c =
    let past = goal.at.returns-then-y-eq8 c in
    let l = c.args.image.now in
    let count : c.from.result ≡ coupon_count l = c.from.ensures ∙ ap (λ (y : Layout). get_or l y.count 0) (is past.After-layout_of-y) ∙ byte_count l (λ i. (c.type_inv.image i).fits) (byte past.Then-y-eq8) in
    λ i. record { words = ((is past.After-layout_of-y) i).words; count = count i }

pub slice_bounds-word_at-count : goal.slice_bounds-word_at-count
slice_bounds-word_at-count c =
    omega (arith, inside c)

pub slice_bounds-word_at-start : goal.slice_bounds-word_at-start
slice_bounds-word_at-start c =
    omega (arith, inside c)

pub word_at-count-requires : goal.word_at-count-requires
word_at-count-requires c =
    let l = c.args.image.now in
    let at = c.layout_of-y.result.count in
    omega (arith, inside (goal.at.word_at-count-requires c).Else-y-eq8, ap length (from_on at l), length-drop at l)

pub returns : goal.returns
returns c =
    let past = goal.at.returns c in
    let l = c.args.image.now in
    let at = c.layout_of-y.result.count in
    let count : c.word_at-count.result ≡ coupon_count l = c.word_at-count.ensures ∙ ap (λ (x : List ℕ). slot_at 32 x 0) (from_on at l) ∙ ap (λ (y : Layout). slot_at 32 (drop y.count l) 0) (is past.After-layout_of-y) ∙ word_count_lem l (word past.Else-y-eq8) in
    λ i. record { words = ((is past.After-layout_of-y) i).words; count = count i }
