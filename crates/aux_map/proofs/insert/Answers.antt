-- `aux_map::insert` meets its contract: `Inserting` says what each step leaves. Assumes nothing.
use mathlib.Core.Path.{◌≡◌, sym, ap, ◌∙◌}
use native.Mathlib.Omega.{arith}
use lib.ListN.{take}
use Rattle.model.specs.Coupon.{slot}
use Rattle.std.specs.Prelude.{Err}
use Rattle.aux_map.specs.Search.{finds}
use Rattle.aux_map.proofs.Inserting as inserting
use Rattle.aux_map.proofs.insert.Goals as goal
use Rattle.aux_map.proofs.insert.Goals.{In-Err}

-- the place that the search yields
answer : (c : In-Err) → finds (take c.args.size c.args.area.now) (slot c.args.w) ≡ Err c.in-Err.at
answer c =
    sym (c.find.ensures ∙ ap (finds _) c.slot.ensures) ∙ c.in-Err.is

pub find-requires : goal.find-requires
find-requires c = inserting.room _ _ _ _ _ c.requires

pub returns-in_default : goal.returns-in_default
returns-in_default c =
    absurd (inserting.not_found _ _ _ _ _ c.requires _ (sym (c.find.ensures ∙ ap (finds _) c.slot.ensures) ∙ c.in_default.is))

pub offset_bounds-area-at : goal.offset_bounds-area-at
offset_bounds-area-at c =
    omega (arith, inserting.inside _ _ _ _ _ c.requires _ (answer c), c.requires.fits)

pub bounds-area-at : goal.bounds-area-at
bounds-area-at c =
    omega (arith, inserting.inside _ _ _ _ _ c.requires _ (answer c), c.requires.fits)

pub check_grow-requires : goal.check_grow-requires
check_grow-requires c =
    inserting.growable _ _ _ _ _ c.requires _ (answer (goal.at.check_grow-requires c).In-Err)

pub returns : goal.returns
returns c =
    inserting.inserted _ _ _ _ _ c.requires _ (answer (goal.at.returns c).In-Err) _ _ _ c.check_grow.ensures
