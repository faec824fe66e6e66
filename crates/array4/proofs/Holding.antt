-- What holds a state is read as it; and good order is a state held at rest, both ways. Assumes nothing.
use mathlib.Core.Path.{◌≡◌, refl, sym, ◌∙◌, ap, ap₂, subst}
use mathlib.Core.List.{List}
use Prim.Native.Nat.{ℕ, ◌+◌, ◌*◌, ◌/◌, ◌%◌, ◌^◌, ◌≤◌, ◌<◌}
use native.Mathlib.Omega.{arith}
use lib.ListN.{length, get_or, take}
use lib.Pow.{pow_mono}
use Rattle.model.specs.Registers.{least, count_of, above}
use Rattle.model.specs.Packed.{Bytes, slot_at}
use Rattle.model.specs.Table.{base_for, laid, table_size}
use Rattle.model.specs.Four.{State, state, nibble, stored_at, registers4, value_at, TableAt}
use Rattle.model.specs.Sketch.{sketch_of, record_of, stored, area_of, registers, table_in, Tabled, Good}
use Rattle.model.specs.Calls.{out, kept_out, state_of}
use Rattle.model.specs.declared.Sketch.{Sketch}
use Rattle.model.proofs.registers.Lowest.{least_le}
use Rattle.model.proofs.table.Sizes.{Sized, sized, fours}
use Rattle.model.proofs.four.Tables.{table_used, table_few, table_in_lem}
use Rattle.model.proofs.four.Stored.{stored_slots, stored_only}
use Rattle.model.proofs.four.Reading.{read_back, get_or_registers}
use Rattle.model.proofs.packing.Packing.{packed_bytes}
use Rattle.model.proofs.four.FourLaws.{four_record, four_stored, four_table, four_registers, four_long, four_length}
use Rattle.aux_map.specs.Sizes.{Based, Sizable}
use Rattle.aux_map.proofs.Bases.{based}
use Rattle.array4.specs.Held.{Holds, Held, Rests}

module _ {lgk : ℕ} {a : State} {s : Sketch} {regs aux : List ℕ} (h : Holds lgk a s regs aux) where
  pub holds_sized : Sized (base_for lgk) (length a.regs)
  holds_sized = subst (Sized (base_for lgk)) (sym h.many) (sized lgk h.low h.high)

  -- no more exceptions than registers
  pub holds_few : s.aux_count ≤ 2 ^ lgk
  holds_few = omega (arith, h.counted, table_few h.table holds_sized.few, h.many)

  pub holds_count : s.aux_count ≤ 2 ^ 21
  holds_count = omega (arith, holds_few, pow_mono h.high)

  pub holds_sizable : (base n : ℕ) → base ≡ base_for lgk → n ≤ s.aux_count + 1 → Sizable base n
  holds_sizable base n e l = record { based = subst Based (sym e) (based lgk (omega (arith, h.low)) (omega (arith, h.high))); few = omega (arith, holds_count) }

  pub holds_most : s.cur_min ≤ 63
  holds_most = omega (arith, h.floor 0 holds_sized.some, h.small 0 holds_sized.some)

  -- the area's front is the table
  pub holds_front : (size : ℕ) → size ≡ table_size (base_for lgk) s.aux_count → take size aux ≡ a.table
  holds_front size e = ap₂ take (e ∙ ap (table_size (base_for lgk)) h.counted) h.area ∙ table_in_lem h.table (length aux)

  pub holds_table : table_in s aux ≡ a.table
  holds_table = four_table s regs aux h.kind ∙ holds_front _ (ap (λ (k : ℕ). table_size (base_for k) s.aux_count) h.size)

  back : registers4 s.cur_min a.table regs ≡ a.regs
  back = read_back holds_sized h.small h.table regs h.long h.floor h.slots

  pub holds_state : state_of s regs aux ≡ a
  unfolding state_of
  holds_state =
      ap₂ state (four_registers s regs aux h.kind ∙ ap (λ (t : List ℕ). registers4 s.cur_min t regs) holds_table ∙ back) holds_table

  -- a register by its nibble and the table
  pub holds_value : (i raw : ℕ) → i < 2 * length regs → raw ≡ slot_at 4 regs i → value_at s.cur_min (table_in s aux) raw i ≡ get_or a.regs i 0
  holds_value i raw l e =
      ap₂ (λ (t : List ℕ) (n : ℕ). value_at s.cur_min t n i) holds_table e ∙ sym (get_or_registers s.cur_min a.table regs i l) ∙ ap (λ (R : List ℕ). get_or R i 0) back

  pub holds_held : (scratch : List ℕ) → length aux ≤ length scratch → Held s regs aux scratch
  holds_held scratch l = record {
    holds = subst (λ (k : ℕ). Holds k (state_of s regs aux) s regs aux) (sym h.size) (subst (λ (b : State). Holds lgk b s regs aux) (sym holds_state) h);
    spare = l;
  }

-- ---- at rest: good order
pub good_rests : (s : Sketch) (regs aux : List ℕ) → s.kind ≡ 4 → Good s regs aux → Rests s.lg_k (state_of s regs aux) s regs aux
unfolding state_of
good_rests s regs aux four g = record {
  holds = record {
    kind = four;
    size = refl;
    low = g.shaped.low;
    high = g.shaped.high;
    many = many;
    long = four_long s regs aux four g.shaped ∙ sym many;
    floor = λ i l. omega (arith, ap (λ (x : Sketch). x.cur_min) is, least_le (registers s regs aux) i l);
    small = g.small;
    table = subst (λ (n : ℕ). TableAt (base_for s.lg_k) n (registers s regs aux) (table_in s aux)) (sym (ap (λ (x : Sketch). x.cur_min) is)) tabled.table;
    tally = ap (λ (x : Sketch). x.num_at_cur_min) is ∙ ap (λ (n : ℕ). count_of n (registers s regs aux)) (sym (ap (λ (x : Sketch). x.cur_min) is));
    counted = ap (λ (x : Sketch). x.aux_count) is ∙ sym (table_used tabled.table few);
    slots = λ i l. ap (λ (b : List ℕ). slot_at 4 b i) (g.bytes_are ∙ four_stored s.kind s.lg_k (registers s regs aux) four) ∙ stored_slots (least (registers s regs aux)) (registers s regs aux) even i l
        ∙ ap (λ (n : ℕ). nibble n (get_or (registers s regs aux) i 0)) (sym (ap (λ (x : Sketch). x.cur_min) is));
    fits = tabled.fits;
    area = tabled.area;
  };
  rest = ap (λ (x : Sketch). x.cur_min) is;
}
  where
    many : length (registers s regs aux) ≡ 2 ^ s.lg_k
    many = four_length s regs aux four g.shaped

    even : length (registers s regs aux) % 2 ≡ 0
    even = omega (arith, many, fours s.lg_k g.shaped.low)

    few : length (registers s regs aux) ≤ 2 ^ 21
    few = omega (arith, many, pow_mono g.shaped.high)

    is : s ≡ sketch_of s.kind s.lg_k (least (registers s regs aux)) (count_of (least (registers s regs aux)) (registers s regs aux)) (above (least (registers s regs aux) + 15) (registers s regs aux))
    is = g.record_is ∙ four_record s.kind s.lg_k (registers s regs aux) four

    tabled : Tabled (base_for s.lg_k) (registers s regs aux) (table_in s aux) aux
    tabled = g.tabled four

-- the register bytes of good order are bytes
pub good_bytes : (s : Sketch) (regs aux : List ℕ) → s.kind ≡ 4 → Good s regs aux → Bytes regs
unfolding stored_at
good_bytes s regs aux four g =
    subst Bytes (sym (g.bytes_are ∙ four_stored s.kind s.lg_k (registers s regs aux) four)) (packed_bytes 4 (length (registers s regs aux) / 2) _)

-- record, bytes and area at rest are what is kept of the state
pub rests_kept : {lgk : ℕ} {b : State} {s : Sketch} {regs aux : List ℕ} → Rests lgk b s regs aux → Bytes regs → (n count : ℕ) (aux₀ : List ℕ) → length aux ≡ length aux₀
    → out n 0 s count regs aux ≡ kept_out n 4 lgk count b aux₀
unfolding kept_out area_of
rests_kept {lgk} {b} {s} {regs} {aux} r by n count aux₀ e =
    ap₂ (λ (x : Sketch) (y : List ℕ). out n 0 x count y aux) (sketch_is ∙ sym (four_record 4 lgk b.regs refl)) (bytes_are ∙ sym (four_stored 4 lgk b.regs refl))
    ∙ ap (λ (y : List ℕ). out n 0 (record_of 4 lgk b.regs) count (stored 4 lgk b.regs) y) (r.holds.area ∙ ap (λ (n : ℕ). laid n b.table) e)
  where
    bytes_are : regs ≡ stored_at (least b.regs) b.regs
    bytes_are =
        stored_only s.cur_min b.regs (omega (arith, r.holds.many, fours lgk r.holds.low)) regs by r.holds.long r.holds.slots
        ∙ ap (λ (n : ℕ). stored_at n b.regs) r.rest

    sketch_is : s ≡ sketch_of 4 lgk (least b.regs) (count_of (least b.regs) b.regs) (above (least b.regs + 15) b.regs)
    sketch_is =
        ap₂ (λ (k g : ℕ). sketch_of k g s.cur_min s.num_at_cur_min s.aux_count) r.holds.kind r.holds.size
        ∙ ap₂ (λ (n c : ℕ). sketch_of 4 lgk s.cur_min n c) r.holds.tally (r.holds.counted ∙ table_used r.holds.table (holds_sized r.holds).few)
        ∙ ap (λ (l : ℕ). sketch_of 4 lgk l (count_of l b.regs) (above (l + 15) b.regs)) r.rest
