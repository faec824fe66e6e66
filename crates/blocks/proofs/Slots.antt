-- A block of a sketch's slots: the bytes that they lie in, by kind, and what they read as. Assumes nothing.
use mathlib.Core.Path.{◌≡◌, refl, sym, ap, ◌∙◌}
use mathlib.Core.List.{List}
use Prim.Native.Nat.{ℕ, ◌+◌, ◌-◌, ◌*◌, ◌/◌, ◌^◌, ◌≤◌, ◌<◌}
use native.Mathlib.Omega.{arith}
use lib.ListN.{length, get_or, take, drop, length-drop}
use lib.Pow.{pow_mono}
use lib.Seq.{ext_get_or, length-take-le}
use Rattle.model.specs.Packed.{Bytes, unpacked}
use Rattle.model.specs.Sketch.{cells, registers}
use Rattle.model.specs.declared.Sketch.{Sketch}
use Rattle.model.proofs.packing.Packing.{Filled}
use Rattle.model.proofs.packing.Lengths.{left_four, if_eight, if_six, if_four}
use Rattle.model.proofs.order.Plain.{plain_cells}
use Rattle.model.proofs.calls.Has.{registers_long}
use Rattle.packed.specs.Room.{Room6}
use Rattle.blocks.specs.Asked.{Within, Block}
use Rattle.blocks.proofs.Turns.{turn_long, turn_at}
use Rattle.blocks.proofs.Parts.{unpacked_part, bytes_part}

module _ {s : Sketch} {n from m : ℕ} (w : Within s n from m) where
  pub few : 2 ^ s.lg_k ≤ 2 ^ 21
  few = pow_mono w.shaped.high

  pub fits_8 : s.kind ≡ 8 → from + m ≤ n
  fits_8 e = omega (arith, w.shaped.long, if_eight s.lg_k e, w.inside)

  pub fits_6 : s.kind ≡ 6 → from / 4 * 3 + m / 4 * 3 + 1 ≤ n
  fits_6 e = omega (arith, w.shaped.long, if_six s.lg_k e, w.inside, w.start, w.long)

  pub is_4 : (s.kind ≡ 8 → ⊥) → (s.kind ≡ 6 → ⊥) → s.kind ≡ 4
  is_4 = left_four s.kind w.shaped.kind_known

  pub fits_4 : s.kind ≡ 4 → from / 2 + m / 2 ≤ n
  fits_4 e = omega (arith, w.shaped.long, if_four s.lg_k e, w.inside, w.start, w.long)

-- kind 6's part has a byte to spare
pub part_6 : {s : Sketch} {from m : ℕ} (bs : List ℕ) → Within s (length bs) from m → s.kind ≡ 6 → Room6 m (length (take (from / 4 * 3 + m / 4 * 3 + 1 - from / 4 * 3) (drop (from / 4 * 3) bs)))
part_6 {s} {from} {m} bs w e =
    let many : from / 4 * 3 + m / 4 * 3 + 1 - from / 4 * 3 ≡ m / 4 * 3 + 1 = omega arith in
    record {
      few = omega (arith, w.inside, few w);
      fours = omega (arith, w.long);
      bytes = length-take-le _ (drop (from / 4 * 3) bs) (rw (length-drop (from / 4 * 3) bs) (omega (arith, fits_6 w e))) ∙ many;
    }

-- ---- cells
of_kind : (s : Sketch) (bs : List ℕ) {kind : ℕ} → s.kind ≡ kind → unpacked kind (2 ^ s.lg_k) bs ≡ cells s bs
unfolding cells
of_kind s bs e = sym (ap (λ (x : ℕ). unpacked x (2 ^ s.lg_k) bs) e)

module _ (s : Sketch) (bs : List ℕ) {from m : ℕ} (w : Within s (length bs) from m) (h : Bytes bs) {after : List ℕ} where
  pub cells_8 : s.kind ≡ 8 → after ≡ take (from + m - from) (drop from bs) → after ≡ take m (drop from (cells s bs))
  cells_8 e q =
      let many : from + m - from ≡ m = omega arith in
      q ∙ ap (λ (x : ℕ). take x (drop from bs)) many ∙ bytes_part (2 ^ s.lg_k) m from bs h (fits_8 w e) w.inside ∙ ap (λ (l : List ℕ). take m (drop from l)) (of_kind s bs e)

  -- m cells out of p bytes, from byte j on
  cells_of : (kind j p : ℕ) → s.kind ≡ kind → j + p ≤ length bs → kind * from ≡ 8 * j → kind * m ≤ 8 * p → after ≡ unpacked kind m (take p (drop j bs)) → after ≡ take m (drop from (cells s bs))
  cells_of kind j p e fits starts ends q = q ∙ unpacked_part kind (2 ^ s.lg_k) m from j p bs h fits starts ends w.inside ∙ ap (λ (l : List ℕ). take m (drop from l)) (of_kind s bs e)

  pub cells_6 : s.kind ≡ 6 → after ≡ unpacked 6 m (take (from / 4 * 3 + m / 4 * 3 + 1 - from / 4 * 3) (drop (from / 4 * 3) bs)) → after ≡ take m (drop from (cells s bs))
  cells_6 e = cells_of 6 (from / 4 * 3) (from / 4 * 3 + m / 4 * 3 + 1 - from / 4 * 3) e (omega (arith, fits_6 w e)) (omega (arith, w.start)) (omega (arith, w.long))

  pub cells_4 : s.kind ≡ 4 → after ≡ unpacked 4 m (take (from / 2 + m / 2 - from / 2) (drop (from / 2) bs)) → after ≡ take m (drop from (cells s bs))
  cells_4 e = cells_of 4 (from / 2) (from / 2 + m / 2 - from / 2) e (omega (arith, fits_4 w e)) (omega (arith, w.start)) (omega (arith, w.long))

-- ---- registers
-- filled in one by one
pub block_filled : (s : Sketch) (regs aux : List ℕ) (from m : ℕ) → Block s regs aux from m → (out : List ℕ) → length out ≡ m → Filled (λ i. get_or (registers s regs aux) (from + i) 0) out m → out ≡ take m (drop from (registers s regs aux))
block_filled s regs aux from m b out e f =
    let R = registers s regs aux in
    let end : from + m ≤ length R = rw (registers_long s regs aux b.good) b.within.inside in
    ext_get_or 0 out (take m (drop from R)) (e ∙ sym (turn_long R from m end refl)) (λ i l. let d : i < m = omega arith in f i d ∙ sym (turn_at R from m end refl i d))

-- the cells of kinds 6 and 8 are the registers
pub plain : (s : Sketch) (regs aux : List ℕ) {from m : ℕ} {after : List ℕ} → Block s regs aux from m → (s.kind ≡ 4 → ⊥) → after ≡ take m (drop from (cells s regs)) → after ≡ take m (drop from (registers s regs aux))
plain s regs aux {from} {m} b not_4 q = q ∙ ap (λ (l : List ℕ). take m (drop from l)) (sym (plain_cells s regs aux not_4))
