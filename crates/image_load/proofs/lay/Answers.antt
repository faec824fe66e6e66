-- `image_load::lay` meets its contract: `Laying` says what each call asks. Assumes nothing.
use mathlib.Core.Path.{refl}
use Prim.Native.Nat.{◌+◌, ◌≤◌}
use native.Mathlib.Omega.{arith}
use lib.ListN.{length}
use Rattle.aux_map.proofs.Bases.{listed}
use Rattle.image_check.proofs.Passing.{lg_arr_here, payload_here}
use Rattle.image_load.proofs.Laying.{area_other, sound, high, collectable, buildable, area_four}
use borrow.Author.Rules.{rules}
use Rattle.image_load.proofs.lay.Goals as goal
use Rattle.image_load.proofs.lay.Goals.{After-bytes_of-end}

whole : (c : After-bytes_of-end) → 40 + c.bytes_of-end.result ≤ length c.args.image.bytes.now
whole c =
    omega (arith, c.bytes_of-end.ensures, payload_here (sound _ _ _ c.requires))

pub returns-then-h-ne4 : goal.returns-then-h-ne4
returns-then-h-ne4 c = area_other _ _ _ c.if-h-ne4.true

pub bytes_of-end-requires : goal.bytes_of-end-requires
bytes_of-end-requires c = high _ _ _ c.requires

pub overflow_add-end : goal.overflow_add-end
overflow_add-end c =
    omega (arith, whole c)

pub word_count-many-requires : goal.word_count-many-requires
word_count-many-requires c = lg_arr_here (sound _ _ _ c.requires)

pub slice_bounds-collect-count : goal.slice_bounds-collect-count
slice_bounds-collect-count c =
    omega (arith, whole (goal.at.slice_bounds-collect-count c).After-bytes_of-end)

pub slice_bounds-collect-start : goal.slice_bounds-collect-start
slice_bounds-collect-start c =
    omega (arith, whole (goal.at.slice_bounds-collect-start c).After-bytes_of-end)

pub collect-top-requires : goal.collect-top-requires
collect-top-requires c =
    collectable _ _ _ c.requires c.if-h-ne4.false _ c.bytes_of-end.ensures _ c.word_count-many.ensures _ refl

pub base_for-base-requires : goal.base_for-base-requires
base_for-base-requires c = listed _ (high _ _ _ c.requires)

pub build-requires : goal.build-requires
build-requires c =
    buildable _ _ _ c.requires c.if-h-ne4.false _ c.bytes_of-end.ensures _ c.word_count-many.ensures _ _ (search rules)
    c.collect-top.ensures _ _ (c.fill.ensures.after (λ y e. e)) c.base_for-base.ensures

pub returns : goal.returns
returns c =
    area_four _ _ _ c.requires c.if-h-ne4.false _ c.bytes_of-end.ensures _ c.word_count-many.ensures _ _ (search rules)
    c.collect-top.ensures _ _ _ _ refl (c.fill.ensures.after (λ y e. e)) c.base_for-base.ensures c.build.ensures
