-- The parts of the check of a table together ask what the book's test asks, and each part is asked by it. Assumes nothing.
use mathlib.Core.Path.{◌≡◌, sym, ◌∙◌, ap, subst}
use mathlib.Core.Bool.{Bool, false}
use mathlib.Core.List.{List, []}
use Prim.Native.Nat.{ℕ, ◌*◌, ◌^◌, ◌<◌}
use native.Mathlib.Omega.{arith}
use lib.ListN.{length, get_or, take}
use lib.Pow.{pow_mono}
use Rattle.model.specs.Pick.{Tells}
use Rattle.model.specs.Coupon.{slot}
use Rattle.model.specs.Packed.{slot_at}
use Rattle.model.specs.Table.{base_for, table_size, Reached, used}
use Rattle.model.specs.Sketch.{cells, table_in}
use Rattle.model.specs.Check.{table_fits}
use Rattle.model.specs.declared.Sketch.{Sketch}
use Rattle.model.proofs.packing.Packing.{get_or_unpacked}
use Rattle.model.proofs.order.Tells.{tells_one, tells_no, tells_as}
use Rattle.model.proofs.order.Tests.{cells_long, WordFits, TableFits, table_tells}
use Rattle.model.proofs.four.FourLaws.{four_table, four_long}
use Rattle.aux_map.specs.Sizes.{Based}
use Rattle.aux_map.proofs.Bases.{based}
use Rattle.aux_table.specs.Check.{Ordered}
use Rattle.array4_read.specs.Asks.{Checkable, Tabulated}
use Rattle.array4_read.specs.Fits.{Few, WordIn, WordsIn}

module _ (s : Sketch) (regs : List ℕ) {tokens : ℕ} (ask : Checkable s regs tokens) where
  abbrev size : ℕ
  size = table_size (base_for s.lg_k) s.aux_count

  k_is : 2 * length regs ≡ 2 ^ s.lg_k
  k_is = four_long s regs [] ask.four (rw ask.four ask.shaped)

  pub few : Few regs
  few = record { few = omega (arith, k_is, pow_mono ask.shaped.high) }

  pub is_based : Based (base_for s.lg_k)
  is_based = based s.lg_k (omega (arith, ask.shaped.low)) (omega (arith, ask.shaped.high))

  pub tabulated : Tabulated s
  tabulated = record { low = ask.shaped.low; high = ask.shaped.high; few = ask.few }

  cell_is : (i : ℕ) → i < 2 * length regs → get_or (cells s regs) i 0 ≡ slot_at 4 regs i
  unfolding cells
  cell_is i l = get_or_unpacked s.kind (2 ^ s.lg_k) regs i (rw k_is at l) ∙ ap (λ (w : ℕ). slot_at w regs i) ask.four

  -- the book's test of a word, which goes by the cells
  word_in : {w : ℕ} → WordFits s.cur_min (cells s regs) w → WordIn s.cur_min regs w
  word_in {w} f =
      let l : slot w < 2 * length regs = omega (arith, f.inside, cells_long s regs, k_is) in
      record { inside = l; token = sym (cell_is (slot w) l) ∙ f.token; high = f.high; whole = f.whole }

  word_fits : {w : ℕ} → WordIn s.cur_min regs w → WordFits s.cur_min (cells s regs) w
  word_fits {w} f = record { inside = omega (arith, f.inside, cells_long s regs, k_is); token = cell_is (slot w) f.inside ∙ f.token; high = f.high; whole = f.whole }

  module _ (aux : List ℕ) where
    table_is : table_in s aux ≡ take size aux
    table_is = four_table s regs aux ask.four

    -- ---- what the test asks, part by part
    pub asks_tokens : TableFits s regs aux → tokens ≡ s.aux_count
    asks_tokens t = ask.counted ∙ t.marked

    pub asks_ordered : TableFits s regs aux → Ordered (base_for s.lg_k) s.aux_count aux
    unfolding Reached
    asks_ordered t = record {
      few = omega (arith, ask.few, k_is, few.few);
      fits = t.fits;
      counted = ap used (sym table_is) ∙ t.many;
      clean = t.behind;
      good = subst Reached table_is (λ i l h. (t.words i l h).1);
    }

    asks_words : TableFits s regs aux → WordsIn s.cur_min regs (take size aux)
    asks_words t = subst (WordsIn s.cur_min regs) table_is (record { each = λ i l h. word_in (t.words i l h).0 })

    -- ---- the answers
    pub refused : (TableFits s regs aux → ⊥) → false ≡ table_fits s regs aux
    refused h = tells_one false (table_fits s regs aux) (tells_no h) (table_tells s regs aux)

    module _ (all : tokens ≡ s.aux_count) (ordered : Ordered (base_for s.lg_k) s.aux_count aux) where
      fits : WordsIn s.cur_min regs (take size aux) → TableFits s regs aux
      unfolding Reached
      fits words = record {
        fits = ordered.fits;
        many = ap used table_is ∙ ordered.counted;
        marked = sym ask.counted ∙ all;
        behind = ordered.clean;
        words = λ p l h. (word_fits ((subst (WordsIn s.cur_min regs) (sym table_is) words).each p l h), subst Reached (sym table_is) ordered.good p l h);
      }

      pub answered : (n : ℕ) → n ≡ size → (r : Bool) → Tells r (WordsIn s.cur_min regs (take n aux)) → r ≡ table_fits s regs aux
      answered n e r t = tells_one r (table_fits s regs aux) (tells_as r fits asks_words (subst (λ (m : ℕ). Tells r (WordsIn s.cur_min regs (take m aux))) e t)) (table_tells s regs aux)
