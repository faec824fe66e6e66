-- `image_check::room` meets its contract. Assumes nothing.
use mathlib.Core.Path.{◌≡◌, ◌∙◌, ap, subst}
use Prim.Native.Nat.{ℕ, ◌≤◌, ◌<◌}
use Rattle.model.specs.Table.{base_for, table_size}
use Rattle.model.proofs.calls.Rungs.{room_short, room_right}
use Rattle.aux_map.proofs.Bases.{sizable}
use Rattle.image_check.proofs.room.Goals as goal
use Rattle.image_check.proofs.room.Goals.{After-table_size-size}

size : (c : After-table_size-size) → let a = c.args in c.table_size-size.result ≡ table_size (base_for a.lg_k) a.aux_count
size c =
    c.table_size-size.ensures ∙ ap (λ (n : ℕ). table_size n c.args.aux_count) c.base_for-base.ensures

pub table_size-size-requires : goal.table_size-size-requires
table_size-size-requires c = let p = c.requires in rw c.base_for-base.ensures (sizable _ _ p.low p.high p.few)

pub returns-then-aux_len-size : goal.returns-then-aux_len-size
returns-then-aux_len-size c =
    room_short _ _ _ (subst (λ (n : ℕ). c.args.aux_len < n) (size (goal.at.returns-then-aux_len-size c).After-table_size-size) c.if-aux_len-size.true)

pub returns : goal.returns
returns c =
    room_right _ _ _ (subst (λ (n : ℕ). n ≤ c.args.aux_len) (size (goal.at.returns c).After-table_size-size) c.if-aux_len-size.false)
