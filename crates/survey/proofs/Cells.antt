-- What the counts of the cells and the largest say of the book's tests. Assumes nothing.
use mathlib.Core.Path.{◌≡◌, sym, ◌∙◌, ap, ap₂, fun_ext}
use mathlib.Core.Bool.{Bool, true, false}
use mathlib.Core.Logic.{◌⊎◌, inl, inr}
use mathlib.Core.List.{List}
use Prim.Native.Nat.{ℕ, zero, suc, max, ◌+◌, ◌-◌, ◌*◌, ◌/◌, ◌%◌, ◌^◌, ◌≤◌, ◌<◌, zero-le}
use native.Mathlib.Omega.{arith}
use lib.Dec.{eqb, leb, ltb, lit<}
use lib.ListN.{length, get_or}
use lib.Pow.{pow_mono}
use borrow.Author.Tests.{eq-eqb, ne_eqb, le-leb}
use Rattle.model.specs.Pick.{pick, both, all}
use Rattle.model.specs.Registers.{count_of}
use Rattle.model.specs.Packed.{number, unpacked}
use Rattle.model.specs.Sketch.{bytes_of, cells}
use Rattle.model.specs.Check.{values_fit, spare_fits, tally_fits}
use Rattle.model.specs.declared.Sketch.{Sketch}
use Rattle.model.proofs.packing.Digits.{digit_lt}
use Rattle.model.proofs.packing.Lengths.{kind_tells, bytes_eight, bytes_few}
use Rattle.model.proofs.order.Tells.{tells_one, tells_true, tells_as, tells_both, tells_le}
use Rattle.model.proofs.order.Tests.{cells_long, counts_tells, cur_min_most, values_tells}
use Rattle.packed.proofs.Rooms.{room_4}
use Rattle.survey_six.specs.Six.{Groups}
use Rattle.survey_six.proofs.Shapes.{groups, zeros_of}
use Rattle.survey_whole.specs.Whole.{Width, Cells, plain, most}
use Rattle.survey_whole.proofs.Counted.{by_width}
use Rattle.survey.specs.Survey.{Surveyable}

-- ---- the shift is the power
pub power : (lgk : ℕ) → lgk ≤ 21 → 1 * 2 ^ lgk % 4294967296 ≡ 2 ^ lgk
power lgk h = omega (arith, pow_mono h)

-- ---- the largest is within a bound where all are
most_all : (f : ℕ → ℕ) (n b : ℕ) → leb (most f n) b ≡ all (λ i. leb (f i) b) n
unfolding most all
most_all f zero b = le-leb 0 b zero-le
most_all f (suc n) b = larger (most f n) (f n) ∙ ap (both (leb (f n) b)) (most_all f n b)
  where
    larger : (x y : ℕ) → leb (max x y) b ≡ both (leb y b) (leb x b)
    larger x y = tells_one _ _ (tells_as (leb (max x y) b) (λ h. (omega arith, omega arith)) (λ (h : (y ≤ b) × (x ≤ b)). omega arith) (tells_le (max x y) b)) (tells_both _ _ (tells_le y b) (tells_le x b))

-- a token is within any
plain_fits : (kind low n : ℕ) → low ≤ 63 → leb (plain kind n) (63 - low) ≡ pick (both (eqb kind 4) (eqb n 15)) true (leb (low + n) 63)
plain_fits kind low n h = go (both (eqb kind 4) (eqb n 15))
  where
    go : (b : Bool) → leb (pick b 0 n) (63 - low) ≡ pick b true (leb (low + n) 63)
    go true = le-leb 0 (63 - low) zero-le
    go false = tells_one _ _ (tells_as (leb n (63 - low)) (λ l. omega arith) (λ (l : low + n ≤ 63). omega arith) (tells_le n (63 - low))) (tells_le (low + n) 63)

module _ {s : Sketch} {regs : List ℕ} (ok : Surveyable s regs) where
  pub few : length regs ≤ 2 ^ 21
  few = rw ok.shaped.long (bytes_few s.kind s.lg_k ok.shaped.high)

  pub low : s.cur_min ≤ 63
  low = cur_min_most s ((counts_tells s).0 ok.counts)

  pub tally_is : {zeros : ℕ} → zeros ≡ count_of 0 (cells s regs) → both (eqb s.num_at_cur_min zeros) (pick (eqb s.kind 4) (ltb 0 s.num_at_cur_min) true) ≡ tally_fits s regs
  unfolding tally_fits
  tally_is e = rw e

  -- ---- kind 6
  module _ (six : s.kind ≡ 6) where
    long : length regs ≡ bytes_of 6 s.lg_k
    long = ok.shaped.long ∙ ap (λ (kind : ℕ). bytes_of kind s.lg_k) six

    pub six_groups : Groups regs
    six_groups = groups regs ok.shaped.low ok.shaped.high long

    pub six_zeros : {zeros : ℕ} → zeros ≡ count_of 0 (unpacked 6 ((length regs - 1) / 3 * 4) regs) → zeros ≡ count_of 0 (cells s regs)
    unfolding cells
    six_zeros e = rw six (zeros_of regs ok.shaped.low ok.shaped.high long e)

    six_cell : (i : ℕ) → get_or (cells s regs) i 0 < 2 ^ 6
    unfolding cells unpacked
    six_cell i = rw six (digit_lt (2 ^ 6) (2 ^ s.lg_k) (number 256 regs) (lit< tt) i)

    -- and cur_min is 0
    pub six_values : true ≡ values_fit s regs
    six_values = sym (tells_true _ (values_tells s regs) (λ i l n. omega (arith, six_cell i, (((counts_tells s).0 ok.counts).none (λ e. omega arith)).0)))

    pub six_spare : eqb (get_or regs (length regs - 1) 0) 0 ≡ spare_fits s regs
    unfolding spare_fits
    six_spare = rw (eq-eqb s.kind 6 six)

  -- ---- kinds 4 and 8
  module _ (other : s.kind ≡ 6 → ⊥) where
    width : Width s.kind
    width = record { is = go ((kind_tells s.kind).0 ok.shaped.kind_known) }
      where
        go : (s.kind ≡ 4) ⊎ ((s.kind ≡ 6) ⊎ (s.kind ≡ 8)) → (s.kind ≡ 4) ⊎ (s.kind ≡ 8)
        go (inl e) = inl e
        go (inr (inl e)) = absurd (other e)
        go (inr (inr e)) = inr e

    pub whole_cells : Cells s.kind regs
    whole_cells = record { width = width; few = few }

    -- as many cells as the sketch has
    whole_many : 8 / s.kind * length regs ≡ 2 ^ s.lg_k
    whole_many = by_width (λ w. length regs ≡ bytes_of w s.lg_k → 8 / w * length regs ≡ 2 ^ s.lg_k) (λ e. sym (room_4 ok.shaped.low e)) (λ e. omega (arith, bytes_eight s.lg_k)) width ok.shaped.long

    whole_are : unpacked s.kind (8 / s.kind * length regs) regs ≡ cells s regs
    unfolding cells
    whole_are = ap (λ (k : ℕ). unpacked s.kind k regs) whole_many

    pub whole_count : (v : ℕ) {n : ℕ} → n ≡ count_of v (unpacked s.kind (8 / s.kind * length regs) regs) → n ≡ count_of v (cells s regs)
    whole_count v e = e ∙ ap (count_of v) whole_are

    pub whole_values : {m : ℕ} → m ≡ most (λ i. plain s.kind (get_or (unpacked s.kind (8 / s.kind * length regs) regs) i 0)) (8 / s.kind * length regs) → leb m (63 - s.cur_min) ≡ values_fit s regs
    unfolding values_fit
    whole_values e =
        ap (λ (m : ℕ). leb m (63 - s.cur_min)) (e ∙ ap₂ (λ (ns : List ℕ) (k : ℕ). most (λ i. plain s.kind (get_or ns i 0)) k) whole_are (whole_many ∙ sym (cells_long s regs)))
        ∙ most_all (λ i. plain s.kind (get_or (cells s regs) i 0)) (length (cells s regs)) (63 - s.cur_min)
        ∙ ap (λ (p : ℕ → Bool). all p (length (cells s regs))) (fun_ext (λ i. plain_fits s.kind s.cur_min (get_or (cells s regs) i 0) low))

    pub whole_spare : true ≡ spare_fits s regs
    unfolding spare_fits
    whole_spare = rw (ne_eqb s.kind 6 other)
