-- Kind 4: the tests tell good order, both ways. Assumes nothing.
use mathlib.Core.Path.{◌≡◌, refl, sym, ◌∙◌, ap}
use mathlib.Core.List.{List}
use Prim.Native.Nat.{ℕ, ◌+◌, ◌%◌, ◌^◌, ◌≤◌, ◌<◌}
use native.Mathlib.Omega.{arith}
use lib.ListN.{length, get_or}
use lib.Seq.{length-take-le}
use Rattle.model.specs.Pick.{Tells}
use Rattle.model.specs.Coupon.{slot, value}
use Rattle.model.specs.Registers.{least, count_of, above}
use Rattle.model.specs.Packed.{Bytes, slot_at}
use Rattle.model.specs.Table.{base_for, table_size, Reached}
use Rattle.model.specs.Four.{Exception, nibble, values_from, registers4}
use Rattle.model.specs.Sketch.{cells, table_in, registers, Shaped, Good}
use Rattle.model.specs.Check.{good_of}
use Rattle.model.specs.declared.Sketch.{Sketch}
use Rattle.model.proofs.registers.Raising.{Small}
use Rattle.model.proofs.packing.Packing.{get_or_unpacked, slot_lt}
use Rattle.model.proofs.order.Tells.{tells_as, tells_true}
use Rattle.model.proofs.table.Search.{value_of_word}
use Rattle.model.proofs.table.Sizes.{Sized, sized, fours}
use Rattle.model.proofs.registers.Lowest.{at_least, least_le, least_at, least_most, count_le}
use Rattle.model.proofs.table.Shape.{shape_good}
use Rattle.model.proofs.four.Tables.{table_few}
use Rattle.model.proofs.table.Area.{laid_front, past_laid}
use Rattle.model.proofs.four.Stored.{stored_only}
use Rattle.model.proofs.four.Reading.{length_values}
use Rattle.model.proofs.four.Nibbles.{zeros_are, fifteens_are}
use Rattle.model.proofs.order.Tests.{cells_long, WordFits, TableFits, Passes, counts_tells, values_tells, spare_tells, tally_tells, table_tells, good_asks}
use Rattle.model.proofs.four.Checked.{Fit, checked_floor, checked_small, checked_nibbles, checked_table}
use Rattle.model.proofs.four.FourGood as good
use Rattle.model.proofs.four.FourLaws.{four_record, four_stored, four_table, four_registers, four_long}

module _ (s : Sketch) (regs aux : List ℕ) (four : s.kind ≡ 4) (shaped : Shaped s.kind s.lg_k (length regs)) (bytes : Bytes regs) where
  long : length (cells s regs) ≡ 2 ^ s.lg_k
  long = cells_long s regs

  ok : Sized (base_for s.lg_k) (length (cells s regs))
  ok = rw long (sized s.lg_k shaped.low shaped.high)

  -- the cells are the nibbles
  cell_is : (i : ℕ) → i < length (cells s regs) → get_or (cells s regs) i 0 ≡ slot_at 4 regs i
  unfolding cells
  cell_is i l = rw four (get_or_unpacked 4 (2 ^ s.lg_k) regs i (rw long at l))

  -- the registers that are read
  abbrev R : List ℕ
  R = values_from s.cur_min (table_in s aux) 0 (cells s regs)

  reading : registers s regs aux ≡ R
  unfolding registers4 cells
  reading = four_registers s regs aux four ∙ rw (four, four_long s regs aux four shaped)

  length_R : length R ≡ length (cells s regs)
  length_R = length_values s.cur_min (table_in s aux) 0 (cells s regs)

  even : length R % 2 ≡ 0
  even = rw (length_R, long) (omega (arith, fours s.lg_k shaped.low))

  -- ---- the tests suffice
  module _ (p : Passes s regs aux) where
    tally_is : (s.num_at_cur_min ≡ count_of 0 (cells s regs)) × (s.kind ≡ 4 → 0 < s.num_at_cur_min)
    tally_is = (tally_tells s regs).0 p.tally

    tab : TableFits s regs aux
    tab = (table_tells s regs aux).0 (p.table four)

    fit : Fit s.cur_min s.aux_count (cells s regs) (table_in s aux)
    fit = record { small = λ i l k. (values_tells s regs).0 p.values i l (λ q. k q.1); counted = tab.many; fifteens = tab.marked; words = tab.words }

    nibbles : (i : ℕ) → i < length (cells s regs) → get_or (cells s regs) i 0 < 16
    nibbles i l = rw (cell_is i l) (slot_lt 4 regs i)

    size : length (table_in s aux) ≡ table_size (base_for s.lg_k) s.aux_count
    size = ap length (four_table s regs aux four) ∙ length-take-le _ aux tab.fits

    floor : (i : ℕ) → i < length R → s.cur_min ≤ get_or R i 0
    floor = checked_floor ok nibbles size fit

    small : Small R
    small = checked_small ok nibbles size fit

    cells_are : (i : ℕ) → i < length R → get_or (cells s regs) i 0 ≡ nibble s.cur_min (get_or R i 0)
    cells_are = checked_nibbles ok nibbles size fit

    tally : s.num_at_cur_min ≡ count_of s.cur_min R
    tally = tally_is.0 ∙ zeros_are s.cur_min (cells s regs) R (sym length_R) floor cells_are

    count : s.aux_count ≡ above (s.cur_min + 15) R
    count = sym tab.marked ∙ fifteens_are s.cur_min (cells s regs) R (sym length_R) floor cells_are

    rest : s.cur_min ≡ least R
    rest = at_least R s.cur_min (rw length_R ok.some) small floor (rw (← tally) (tally_is.1 four))

    passes_good : Good s regs aux
    passes_good = record {
      shaped = shaped;
      small = rw reading small;
      record_is = rw (reading, four_record s.kind s.lg_k R four, ← rest, ← tally, ← count);
      bytes_are =
          rw (reading, four_stored s.kind s.lg_k R four, ← rest)
          (stored_only s.cur_min R even regs bytes (four_long s regs aux four shaped ∙ sym (length_R ∙ long)) (λ i l. sym (cell_is i (rw length_R at l)) ∙ cells_are i l));
      tabled = λ e. rw reading (record {
        table = rw (← rest) (checked_table ok nibbles size fit);
        fits = rw size tab.fits;
        area = rw (four_table s regs aux four) (laid_front _ aux tab.fits tab.behind);
      });
    }

  -- ---- and are needed
  module _ (g : Good s regs aux) where
    abbrev Q : List ℕ
    Q = registers s regs aux

    length_Q : length Q ≡ length (cells s regs)
    length_Q = ap length reading ∙ length_R

    cells_of : (i : ℕ) → i < length Q → get_or (cells s regs) i 0 ≡ nibble (least Q) (get_or Q i 0)
    cells_of i l = cell_is i (rw length_Q at l) ∙ good.nibble_is s regs aux four g i l

    word_fits : (x : ℕ) → Exception (least Q) Q x → WordFits s.cur_min (cells s regs) x
    word_fits x e =
        let small = g.small (slot x) e.inside in
        let v : value x ≡ get_or Q (slot x) 0 = ap value e.right ∙ value_of_word (slot x) (get_or Q (slot x) 0) (omega arith) (omega arith) in
        record {
          inside = rw length_Q at e.inside;
          token = cells_of (slot x) e.inside ∙ omega (arith, e.high);
          high = omega (arith, good.low_is s regs aux four g, e.high);
          whole = omega (arith, e.right);
        }

    good_passes : Passes s regs aux
    unfolding Reached
    good_passes = record {
      counts = tells_true _ (counts_tells s) (record {
        num = omega (arith, good.num_is s regs aux four g, count_le (least Q) Q, length_Q, long);
        count = omega (arith, good.count_is s regs aux four g, table_few (good.table s regs aux four g) (good.sizes s regs aux four g).few, length_Q, long);
        low = λ e. omega (arith, good.low_is s regs aux four g, least_most Q);
        none = λ n. absurd (n four);
      });
      values = tells_true _ (values_tells s regs) (λ i l k. let m : i < length Q = rw length_Q l in omega (arith, good.low_is s regs aux four g, cells_of i m, g.small i m, least_le Q i m));
      spare = tells_true _ (spare_tells s regs) (λ e. absurd (omega arith));
      tally = tells_true _ (tally_tells s regs) (good.num_is s regs aux four g ∙ sym (zeros_are (least Q) (cells s regs) Q (sym length_Q) (least_le Q) cells_of), λ e. rw (good.num_is s regs aux four g) (least_at Q (good.sizes s regs aux four g).some g.small));
      table = λ e. tells_true _ (table_tells s regs aux) (record {
        fits = omega (arith, good.size_is s regs aux four g, (g.tabled four).fits);
        many = sym (good.count_is s regs aux four g);
        marked = fifteens_are (least Q) (cells s regs) Q (sym length_Q) (least_le Q) cells_of ∙ sym (good.count_is s regs aux four g ∙ good.words s regs aux four g);
        behind = rw (g.tabled four).area (past_laid (length aux) _ (table_in s aux) (good.size_is s regs aux four g));
        words = λ p l h. (word_fits _ ((good.table s regs aux four g).from _ h (p, l, refl)), shape_good (good.table s regs aux four g).shape p l h);
      });
    }

pub four_tells : (s : Sketch) (regs aux : List ℕ) → s.kind ≡ 4 → Shaped s.kind s.lg_k (length regs) → Bytes regs → Tells (good_of s regs aux) (Good s regs aux)
four_tells s regs aux four shaped bytes =
    tells_as (good_of s regs aux) (passes_good s regs aux four shaped bytes) (good_passes s regs aux four shaped bytes) (good_asks s regs aux)
