-- `array4::old_value` meets its contract: the table's answer by the nibble. Where it has no word, 0 is the value of the empty one. Assumes nothing.
use mathlib.Core.Path.{ap, ◌∙◌}
use Prim.Native.Nat.{ℕ}
use Rattle.std.specs.Prelude.{Option}
use Rattle.std.specs.Option.{unwrap_or}
use Rattle.array4.proofs.Reading as reading
use Rattle.array4.proofs.old_value.Goals as goal

pub table_size-size-requires : goal.table_size-size-requires
table_size-size-requires c = reading.sized c.requires _ c.base_for-base.ensures

pub get-requires : goal.get-requires
get-requires c = reading.room c.requires _ c.base_for-base.ensures _ c.table_size-size.ensures c.if-raw-lt-AUX_TOKEN.false

pub returns : goal.returns
returns c =
    reading.by_table c.requires _ c.base_for-base.ensures _ c.table_size-size.ensures c.if-raw-lt-AUX_TOKEN.false _ _ (c.unwrap_or.ensures ∙ ap (λ (o : Option ℕ). unwrap_or o 0) c.get.ensures)
