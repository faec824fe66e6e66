-- What good order says of a kind 4 sketch: its record, its nibbles and its table, by the registers that are read. Assumes nothing.
use mathlib.Core.Path.{◌≡◌, sym, ◌∙◌, ap}
use mathlib.Core.List.{List}
use Prim.Native.Nat.{ℕ, ◌+◌, ◌^◌, ◌<◌}
use native.Mathlib.Omega.{arith}
use lib.ListN.{length, get_or}
use Rattle.model.specs.Registers.{least, count_of, above}
use Rattle.model.specs.Packed.{slot_at}
use Rattle.model.specs.Table.{base_for, table_size, used}
use Rattle.model.specs.Four.{TableAt, nibble}
use Rattle.model.specs.Sketch.{sketch_of, table_in, registers, Good}
use Rattle.model.specs.declared.Sketch.{Sketch}
use Rattle.model.proofs.table.Sizes.{Sized, sized, fours}
use Rattle.model.proofs.table.Shape.{shape_size}
use Rattle.model.proofs.four.Tables.{table_used}
use Rattle.model.proofs.four.Stored.{stored_slots}
use Rattle.model.proofs.four.FourLaws.{four_record, four_stored, four_length}

module _ (s : Sketch) (regs aux : List ℕ) (four : s.kind ≡ 4) (g : Good s regs aux) where
  abbrev R : List ℕ
  R = registers s regs aux

  pub long : length R ≡ 2 ^ s.lg_k
  long = four_length s regs aux four g.shaped

  pub sizes : Sized (base_for s.lg_k) (length R)
  sizes = rw long (sized s.lg_k g.shaped.low g.shaped.high)

  record_is : s ≡ sketch_of s.kind s.lg_k (least R) (count_of (least R) R) (above (least R + 15) R)
  record_is = g.record_is ∙ four_record s.kind s.lg_k R four

  pub low_is : s.cur_min ≡ least R
  low_is = ap (λ x. x.cur_min) record_is

  pub num_is : s.num_at_cur_min ≡ count_of (least R) R
  num_is = ap (λ x. x.num_at_cur_min) record_is

  pub nibble_is : (i : ℕ) → i < length R → slot_at 4 regs i ≡ nibble (least R) (get_or R i 0)
  nibble_is i l =
      ap (λ (b : List ℕ). slot_at 4 b i) (g.bytes_are ∙ four_stored s.kind s.lg_k R four)
      ∙ stored_slots (least R) R (rw long (omega (arith, fours s.lg_k g.shaped.low))) i l

  pub table : TableAt (base_for s.lg_k) (least R) R (table_in s aux)
  table = (g.tabled four).table

  pub words : used (table_in s aux) ≡ above (least R + 15) R
  words = table_used table sizes.few

  pub count_is : s.aux_count ≡ used (table_in s aux)
  count_is = ap (λ x. x.aux_count) record_is ∙ sym words

  pub size_is : length (table_in s aux) ≡ table_size (base_for s.lg_k) s.aux_count
  size_is = shape_size table.shape ∙ ap (table_size (base_for s.lg_k)) (sym count_is)
