-- Kind 4, as every kind is spoken of: what is kept of a state has it, and what is in good order holds a state that is possible. Assumes nothing.
use mathlib.Core.Path.{◌≡◌, refl, sym, ◌∙◌, ap}
use mathlib.Core.List.{List}
use Prim.Native.Nat.{ℕ, ◌+◌, ◌*◌, ◌/◌, ◌^◌, ◌≤◌}
use native.Mathlib.Omega.{arith}
use lib.ListN.{length, take}
use Rattle.model.specs.Registers.{least, count_of, above}
use Rattle.model.specs.Table.{base_for, table_size, laid}
use Rattle.model.specs.Four.{State, stored_at, registers4}
use Rattle.model.specs.Sketch.{sketch_of, low_of, record_of, stored, area_of, table_in, registers, Shaped, Good}
use Rattle.model.specs.Calls.{state_of}
use Rattle.model.specs.declared.Sketch.{Sketch}
use Rattle.model.proofs.packing.Lengths.{is_four, bytes_four, if_four}
use Rattle.model.proofs.order.Sound.{Sound, Has}
use Rattle.model.proofs.table.Sizes.{Sized, sized, fours}
use Rattle.model.proofs.four.Tables.{table_used, table_in_lem}
use Rattle.model.proofs.table.Area.{length_laid}
use Rattle.model.proofs.four.Stored.{length_stored}
use Rattle.model.proofs.four.Reading.{length_registers, registers_stored}

-- ---- what the definitions over all kinds say of this one
module _ (kind lgk : ℕ) (R : List ℕ) (four : kind ≡ 4) where
  pub four_record : record_of kind lgk R ≡ sketch_of kind lgk (least R) (count_of (least R) R) (above (least R + 15) R)
  unfolding record_of low_of
  four_record = rw four

  pub four_stored : stored kind lgk R ≡ stored_at (least R) R
  unfolding stored
  four_stored = rw four

module _ (s : Sketch) (regs aux : List ℕ) (four : s.kind ≡ 4) where
  pub four_table : table_in s aux ≡ take (table_size (base_for s.lg_k) s.aux_count) aux
  unfolding table_in
  four_table = rw four

  pub four_registers : registers s regs aux ≡ registers4 s.cur_min (table_in s aux) regs
  unfolding registers
  four_registers = rw four

  module _ (shaped : Shaped s.kind s.lg_k (length regs)) where
    -- two registers a byte
    pub four_long : 2 * length regs ≡ 2 ^ s.lg_k
    four_long =
        let e : length regs ≡ 2 ^ s.lg_k / 2 = shaped.long ∙ if_four _ four in
        omega (arith, fours s.lg_k shaped.low)

    pub four_length : length (registers s regs aux) ≡ 2 ^ s.lg_k
    four_length = ap length four_registers ∙ length_registers s.cur_min (table_in s aux) regs ∙ four_long

-- a sketch in good order holds a possible state
pub four_sound : (s : Sketch) (regs aux : List ℕ) → s.kind ≡ 4 → Good s regs aux → Sound 4 s.lg_k (length aux) (state_of s regs aux)
unfolding state_of
four_sound s regs aux four g = record {
  long = four_length s regs aux four g.shaped;
  small = g.small;
  table = λ e. (g.tabled four).table;
  fits = λ e. (g.tabled four).fits;
  none = λ e. absurd (e refl);
}

-- and what is kept of a possible state is a sketch in good order that holds it
module _ (lgk : ℕ) (a : State) (aux : List ℕ) (lo : 4 ≤ lgk) (hi : lgk ≤ 21) (sound : Sound 4 lgk (length aux) a) where
  ok : Sized (base_for lgk) (length a.regs)
  ok = rw sound.long (sized lgk lo hi)

  table : table_in (record_of 4 lgk a.regs) (area_of 4 a.table aux) ≡ a.table
  unfolding table_in record_of area_of
  table = rw (← table_used (sound.table refl) ok.few) (table_in_lem (sound.table refl) (length aux))

  holds : registers (record_of 4 lgk a.regs) (stored 4 lgk a.regs) (area_of 4 a.table aux) ≡ a.regs
  unfolding record_of stored low_of
  holds =
      four_registers (record_of 4 lgk a.regs) (stored 4 lgk a.regs) (area_of 4 a.table aux) refl
      ∙ ap (λ (t : List ℕ). registers4 (least a.regs) t (stored_at (least a.regs) a.regs)) table
      ∙ registers_stored ok sound.small (sound.table refl) (omega (arith, sound.long, fours lgk lo))

  room : length (area_of 4 a.table aux) ≡ length aux
  unfolding area_of
  room = length_laid (length aux) a.table (sound.fits refl)

  pub four_kept : Has 4 lgk a (record_of 4 lgk a.regs) (stored 4 lgk a.regs) (area_of 4 a.table aux)
  unfolding record_of stored area_of low_of
  four_kept = record {
    good = record {
      shaped = record { kind_known = is_four; low = lo; high = hi; long = length_stored (least a.regs) a.regs ∙ ap (λ (n : ℕ). n / 2) sound.long ∙ sym (bytes_four lgk) };
      small = rw holds sound.small;
      record_is = ap (record_of 4 lgk) (sym holds);
      bytes_are = ap (stored 4 lgk) (sym holds);
      tabled = λ e. rw (holds, table) (record { table = sound.table refl; fits = rw room (sound.fits refl); area = ap (λ (n : ℕ). laid n a.table) (sym room) });
    };
    same_kind = refl;
    same_size = refl;
    holds = holds;
    table = table;
  }
