-- Kinds 6 and 8, which keep the registers themselves, in cells of as many bits as their number: the tests tell good order, and what is kept of
-- registers reads back. Assumes nothing.
use mathlib.Core.Path.{◌≡◌, refl, sym, ap, ap₂, ◌∙◌, subst₂}
use mathlib.Core.Bool.{true}
use mathlib.Core.List.{List, []}
use mathlib.Core.Logic.{◌⊎◌, inl, inr}
use Prim.Native.Nat.{ℕ, ◌+◌, ◌-◌, ◌*◌, ◌/◌, ◌%◌, ◌^◌, ◌≤◌, ◌<◌}
use native.Mathlib.Nat.{div-eq_of_lt, lt_of_lt_of_le}
use native.Mathlib.Omega.{arith}
use lib.ListN.{length, get_or}
use lib.Pow.{pow_mono}
use borrow.Author.Tests.{ne_eqb}
use Rattle.model.specs.Pick.{Tells}
use Rattle.model.specs.Registers.{count_of}
use Rattle.model.specs.Packed.{Bytes, number, unpacked, packed}
use Rattle.model.specs.Four.{state}
use Rattle.model.specs.Sketch.{sketch_of, is_kind, bytes_of, low_of, record_of, stored, cells, table_in, registers, Shaped, Good}
use Rattle.model.specs.Check.{good_of}
use Rattle.model.specs.declared.Sketch.{Sketch}
use Rattle.model.proofs.packing.Digits.{pow_mul, get_or_digits, number_lt}
use Rattle.model.proofs.registers.Lowest.{count_le}
use Rattle.model.proofs.registers.Raising.{Small}
use Rattle.model.proofs.table.Sizes.{fours}
use Rattle.model.proofs.packing.ByteLists.{at_all, length_packed}
use Rattle.model.proofs.packing.Packing.{packed_unpacked, unpacked_packed, unpacked_8, covered, spare}
use Rattle.model.proofs.packing.Lengths.{six_or_eight, bytes_six, bytes_eight, if_six, if_eight}
use Rattle.model.proofs.order.Tells.{tells_as, tells_true}
use Rattle.model.proofs.order.Tests.{cells_long, Passes, counts_tells, values_tells, spare_tells, tally_tells, good_asks}
use Rattle.model.proofs.order.Sound.{Has}

-- ---- the two kinds
module _ (kind : ℕ) (is : is_kind kind ≡ true) (not_4 : kind ≡ 4 → ⊥) where
  -- a register of 6 bits fits into a cell
  cell_wide : 64 ≤ 2 ^ kind
  cell_wide = pow_mono {i = 6} (go (six_or_eight kind is not_4))
    where
      go : (kind ≡ 6) ⊎ (kind ≡ 8) → 6 ≤ kind
      go (inl e) = omega arith
      go (inr e) = omega arith

  -- and k cells into the bytes
  cells_room : (lgk : ℕ) → 4 ≤ lgk → kind * 2 ^ lgk ≤ 8 * bytes_of kind lgk
  cells_room lgk h = go (six_or_eight kind is not_4)
    where
      go : (kind ≡ 6) ⊎ (kind ≡ 8) → kind * 2 ^ lgk ≤ 8 * bytes_of kind lgk
      go (inl e) = rw (e, bytes_six) (omega (arith, fours lgk h))
      go (inr e) = rw (e, bytes_eight) (omega arith)

-- ---- reading
module _ (s : Sketch) (regs aux : List ℕ) (not_4 : s.kind ≡ 4 → ⊥) where
  pub plain_cells : registers s regs aux ≡ cells s regs
  unfolding registers
  plain_cells = rw (ne_eqb s.kind 4 not_4)

  pub plain_long : length (registers s regs aux) ≡ 2 ^ s.lg_k
  plain_long = ap length plain_cells ∙ cells_long s regs

-- kind 8's bytes are its registers
pub bytes_8 : (s : Sketch) (regs aux : List ℕ) → s.kind ≡ 8 → Shaped s.kind s.lg_k (length regs) → Bytes regs → registers s regs aux ≡ regs
unfolding registers cells
bytes_8 s regs aux e h b =
    let l : length regs ≡ 2 ^ s.lg_k = h.long ∙ if_eight _ e in
    rw (e, ← l) (unpacked_8 regs b)

-- ---- cells
below : {c : ℕ} (R : List ℕ) → 64 ≤ c → Small R → (i : ℕ) → get_or R i 0 < c
below R w small = at_all R (omega arith) (λ i l. let z = small i l in omega arith)

-- a byte that no cell reaches is written as zero
packed_past : (w n j : ℕ) (vs : List ℕ) → ((i : ℕ) → get_or vs i 0 < 2 ^ w) → w * length vs ≤ 8 * j → j < n → get_or (packed w n vs) j 0 ≡ 0
unfolding packed
packed_past w n j vs h l d =
    get_or_digits 256 n (number (2 ^ w) vs) j d
    ∙ ap (λ (x : ℕ). x % 256) (div-eq_of_lt (lt_of_lt_of_le (number_lt (2 ^ w) vs h) (subst₂ (λ (x y : ℕ). x ≤ y) (pow_mul 2 w (length vs)) (pow_mul 2 8 j) (pow_mono l))))

-- ---- the tests
module _ (s : Sketch) (regs aux : List ℕ) (not_4 : s.kind ≡ 4 → ⊥) (h : Shaped s.kind s.lg_k (length regs)) (b : Bytes regs) where
  abbrev k : ℕ
  k = 2 ^ s.lg_k

  abbrev R : List ℕ
  R = cells s regs

  -- the bits past the cells are zero
  inside : (s.kind ≡ 6 → get_or regs (length regs - 1) 0 ≡ 0) → number 256 regs < 2 ^ (s.kind * k)
  inside z = go (six_or_eight s.kind h.kind_known not_4)
    where
      go : (s.kind ≡ 6) ⊎ (s.kind ≡ 8) → number 256 regs < 2 ^ (s.kind * k)
      go (inl e) =
          let l : length regs ≡ k / 4 * 3 + 1 = h.long ∙ if_six _ e in
          let f = fours s.lg_k h.low in
          spare s.kind k (length regs - 1) regs b (omega arith) (z e) (rw e (omega arith))
      go (inr e) =
          let l : length regs ≡ k = h.long ∙ if_eight _ e in
          covered s.kind k regs b (rw e (omega arith))

  fine : Passes s regs aux → Good s regs aux
  unfolding record_of low_of stored cells
  fine p =
      let c = plain_cells s regs aux not_4 in
      let (low, none) = ((counts_tells s).0 p.counts).none not_4 in
      let num = ((tally_tells s regs).0 p.tally).0 in
      record {
        shaped = h;
        small = rw c (λ i l. let z = (values_tells s regs).0 p.values i l (λ q. not_4 q.0) in omega arith);
        record_is = rw (c, ne_eqb s.kind 4 not_4) (λ i. record { kind = s.kind; lg_k = s.lg_k; cur_min = low i; num_at_cur_min = num i; aux_count = none i });
        bytes_are = rw (c, ne_eqb s.kind 4 not_4, ← h.long) (sym (packed_unpacked s.kind k regs b (inside ((spare_tells s regs).0 p.spare))));
        tabled = λ e. absurd (not_4 e);
      }

  spared : regs ≡ packed s.kind (length regs) R → Small R → s.kind ≡ 6 → get_or regs (length regs - 1) 0 ≡ 0
  spared q small e =
      let l : length regs ≡ k / 4 * 3 + 1 = h.long ∙ if_six _ e in
      let f = fours s.lg_k h.low in
      ap (λ (r : List ℕ). get_or r (length regs - 1) 0) q
      ∙ packed_past s.kind (length regs) (length regs - 1) R (below R (cell_wide s.kind h.kind_known not_4) small) (rw (cells_long s regs, e) (omega arith)) (omega arith)

  passed : Good s regs aux → Passes s regs aux
  unfolding record_of low_of stored
  passed g =
      let c = plain_cells s regs aux not_4 in
      let small : Small R = rw c at g.small in
      let rec : s ≡ sketch_of s.kind s.lg_k 0 (count_of 0 R) 0 = rw (c, ne_eqb s.kind 4 not_4) at g.record_is in
      let bytes : regs ≡ packed s.kind (length regs) R = rw (c, ne_eqb s.kind 4 not_4, ← h.long) at g.bytes_are in
      let low : s.cur_min ≡ 0 = ap (λ (t : Sketch). t.cur_min) rec in
      let num : s.num_at_cur_min ≡ count_of 0 R = ap (λ (t : Sketch). t.num_at_cur_min) rec in
      let none : s.aux_count ≡ 0 = ap (λ (t : Sketch). t.aux_count) rec in
      record {
        counts = tells_true _ (counts_tells s)
            (record { num = omega (arith, count_le 0 R, cells_long s regs); count = omega arith; low = λ e. absurd (not_4 e); none = λ f. (low, none) });
        values = tells_true _ (values_tells s regs) (λ i l f. let z = small i l in omega arith);
        spare = tells_true _ (spare_tells s regs) (spared bytes small);
        tally = tells_true _ (tally_tells s regs) (num, λ e. absurd (not_4 e));
        table = λ e. absurd (not_4 e);
      }

  pub plain_tells : Tells (good_of s regs aux) (Good s regs aux)
  plain_tells = tells_as (good_of s regs aux) fine passed (good_asks s regs aux)

-- ---- what is kept of registers
module _ (kind lgk : ℕ) (R aux : List ℕ) (is : is_kind kind ≡ true) (not_4 : kind ≡ 4 → ⊥) (low : 4 ≤ lgk) (high : lgk ≤ 21) (long : length R ≡ 2 ^ lgk)
    (small : Small R) where
  stored_plain : stored kind lgk R ≡ packed kind (bytes_of kind lgk) R
  unfolding stored
  stored_plain = rw (ne_eqb kind 4 not_4)

  reads_back : registers (record_of kind lgk R) (stored kind lgk R) aux ≡ R
  unfolding record_of cells
  reads_back =
      plain_cells (record_of kind lgk R) (stored kind lgk R) aux not_4
      ∙ ap₂ (unpacked kind) (sym long) stored_plain
      ∙ unpacked_packed kind (bytes_of kind lgk) R (below R (cell_wide kind is not_4) small) (rw long (cells_room kind is not_4 lgk low))

  pub plain_kept : Has kind lgk (state R []) (record_of kind lgk R) (stored kind lgk R) aux
  unfolding record_of table_in
  plain_kept =
      record {
        good = record {
          shaped = record { kind_known = is; low = low; high = high; long = ap length stored_plain ∙ length_packed kind (bytes_of kind lgk) R };
          small = rw reads_back small;
          record_is = sym (ap (record_of kind lgk) reads_back);
          bytes_are = sym (ap (stored kind lgk) reads_back);
          tabled = λ e. absurd (not_4 e);
        };
        same_kind = refl;
        same_size = refl;
        holds = reads_back;
        table = rw (ne_eqb kind 4 not_4);
      }
