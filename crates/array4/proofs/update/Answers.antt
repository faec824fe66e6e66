-- `array4::update` meets its contract: `Updating` says what each way out leaves. Assumes nothing.
use native.Mathlib.Omega.{arith}
use Rattle.array4.proofs.Updating as updating
use Rattle.array4.proofs.update.Goals as goal

pub returns-then-value-s : goal.returns-then-value-s
returns-then-value-s c =
    updating.same_low c.requires _ _ c.value-value.ensures c.if-value-s.true

pub returns-then-value-raw : goal.returns-then-value-raw
returns-then-value-raw c =
    updating.same_raw c.requires _ _ c.value-value.ensures _ c.home-slot.ensures _ c.get_raw-raw.ensures c.if-value-raw.true

pub old_value-old-requires : goal.old_value-old-requires
old_value-old-requires c =
    updating.readable c.requires _ _ c.value-value.ensures _ c.home-slot.ensures _ c.get_raw-raw.ensures

pub returns-then-value-old : goal.returns-then-value-old
returns-then-value-old c =
    updating.same_old c.requires _ _ c.value-value.ensures _ c.home-slot.ensures _ c.get_raw-raw.ensures _ c.old_value-old.ensures c.if-value-old.true

pub place-requires : goal.place-requires
place-requires c =
    updating.placeable c.requires _ _ c.value-value.ensures _ c.home-slot.ensures _ c.get_raw-raw.ensures _ c.old_value-old.ensures c.if-value-old.false (omega (arith, c.value-value.ensures))

pub returns-in_err-placed : goal.returns-in_err-placed
returns-in_err-placed c = rw c.from_residual.ensures (updating.refused c.requires _ _ c.value-value.ensures _ c.home-slot.ensures _ c.get_raw-raw.ensures _ c.old_value-old.ensures c.if-value-old.false _ _ c.in_err-placed.ensures)

pub settle-requires : goal.settle-requires
settle-requires c =
    updating.holding c.requires _ _ c.value-value.ensures _ c.home-slot.ensures _ c.get_raw-raw.ensures _ c.old_value-old.ensures c.if-value-old.false _ _ _ c.in_ok-placed.ensures _ (omega (arith, c.requires.spare, c.place.auto.aux, c.place.auto.scratch))

pub returns : goal.returns
returns c = updating.stepped c.requires _ _ c.value-value.ensures _ c.home-slot.ensures _ c.get_raw-raw.ensures _ c.old_value-old.ensures c.if-value-old.false _ _ _ c.in_ok-placed.ensures c.settle.ensures
