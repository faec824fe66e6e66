-- A sketch of kind 4 in good order: what its record, its bytes and its area are to its registers, and what a search yields. Assumes nothing.
use mathlib.Core.Path.{◌≡◌, sym, ◌∙◌, ap, subst}
use mathlib.Core.List.{List}
use Prim.Native.Nat.{ℕ, ◌+◌, ◌*◌, ◌^◌, ◌≤◌, ◌<◌}
use native.Mathlib.Omega.{arith}
use lib.ListN.{length, get_or, take}
use lib.Pow.{pow_mono}
use borrow.Author.Tests.{ne_eqb}
use Rattle.model.specs.Coupon.{value}
use Rattle.model.specs.Registers.{least}
use Rattle.model.specs.Packed.{slot_at}
use Rattle.model.specs.Table.{Room, base_for, table_size, word_at, used}
use Rattle.model.specs.Four.{TableAt, nibble}
use Rattle.model.specs.Sketch.{table_in, registers, Good}
use Rattle.model.specs.declared.Sketch.{Sketch}
use Rattle.model.proofs.registers.Lowest.{least_le, least_most}
use Rattle.model.proofs.table.Search.{value_of_word}
use Rattle.model.proofs.four.Tables.{table_few, table_word, word_some}
use Rattle.model.proofs.four.FourLaws.{four_table, four_long}
use Rattle.model.proofs.four.FourGood as book
use Rattle.std.specs.Prelude.{Some}
use Rattle.aux_map.specs.Search.{gets}
use Rattle.aux_map.proofs.Bases.{based}
use Rattle.aux_table.proofs.Requires.{find_met}
use Rattle.array4_read.specs.Asks.{Tabulated}

gets_word : (t : List ℕ) (i w : ℕ) → word_at t i ≡ w → (w ≡ 0 → ⊥) → gets t i ≡ Some (value w)
unfolding gets
gets_word t i w e n = rw (e, ne_eqb w 0 n)

module _ (s : Sketch) (regs aux : List ℕ) (four : s.kind ≡ 4) (good : Good s regs aux) where
  abbrev R : List ℕ
  R = registers s regs aux

  pub bytes_long : 2 * length regs ≡ 2 ^ s.lg_k
  bytes_long = four_long s regs aux four good.shaped

  pub bytes_few : 2 * length regs ≤ 2 ^ 21
  bytes_few = rw bytes_long (pow_mono good.shaped.high)

  pub long : length R ≡ 2 ^ s.lg_k
  long = book.long s regs aux four good

  pub few : length R ≤ 2 ^ 21
  few = (book.sizes s regs aux four good).few

  low_is : s.cur_min ≡ least R
  low_is = book.low_is s regs aux four good

  pub low_most : s.cur_min ≤ 63
  low_most = omega (arith, low_is, least_most R)

  pub nibble_is : (i : ℕ) → i < length R → slot_at 4 regs i ≡ nibble s.cur_min (get_or R i 0)
  nibble_is i l = book.nibble_is s regs aux four good i l ∙ ap (λ (n : ℕ). nibble n (get_or R i 0)) (sym low_is)

  -- ---- the table
  pub table : TableAt (base_for s.lg_k) s.cur_min R (table_in s aux)
  table = subst (λ (n : ℕ). TableAt (base_for s.lg_k) n R (table_in s aux)) (sym low_is) (book.table s regs aux four good)

  pub count_is : s.aux_count ≡ used (table_in s aux)
  count_is = book.count_is s regs aux four good

  pub tabulated : Tabulated s
  tabulated = record { low = good.shaped.low; high = good.shaped.high; few = omega (arith, count_is, table_few table few, long) }

  pub size_fits : table_size (base_for s.lg_k) s.aux_count ≤ length aux
  size_fits = rw (← book.size_is s regs aux four good) (good.tabled four).fits

  -- as many words of the area as the size rule says
  module _ (size : ℕ) (e : size ≡ table_size (base_for s.lg_k) s.aux_count) where
    pub front : take size aux ≡ table_in s aux
    front = rw e (sym (four_table s regs aux four))

    pub part : size ≡ length (take size aux)
    part = e ∙ sym (book.size_is s regs aux four good) ∙ ap length (sym front)

  -- ---- one register
  module _ (i raw : ℕ) (l : i < 2 ^ s.lg_k) (read : raw ≡ slot_at 4 regs i) where
    inside : i < length R
    inside = rw long l

    pub low_get : raw < 15 → s.cur_min + raw ≡ get_or R i 0
    low_get h = omega (arith, nibble_is i inside, low_is, least_le R i inside)

    high : 15 ≤ raw → s.cur_min + 15 ≤ get_or R i 0
    high h = omega (arith, nibble_is i inside)

    module _ (h : 15 ≤ raw) (size : ℕ) (e : size ≡ table_size (base_for s.lg_k) s.aux_count) where
      pub room : Room (take size aux)
      room = rw (front size e) (find_met _ s.cur_min R (table_in s aux) (based s.lg_k (omega (arith, good.shaped.low)) (omega (arith, good.shaped.high))) (omega (arith, few)) table i inside (high h))

      pub high_get : gets (take size aux) i ≡ Some (get_or R i 0)
      high_get =
          let big = high h in
          ap (λ (t : List ℕ). gets t i) (front size e)
          ∙ gets_word (table_in s aux) i _ (table_word table few i inside big) (word_some i (get_or R i 0) (omega arith))
          ∙ ap Some (value_of_word i (get_or R i 0) (omega (arith, few, inside)) (omega (arith, good.small i inside)))
