-- What opens reads as its image says. Assumes nothing.
use mathlib.Core.Path.{◌≡◌, refl, sym, ap, ◌∙◌, subst}
use mathlib.Core.List.{List}
use Prim.Native.Nat.{ℕ, ◌+◌, ◌*◌, ◌^◌, ◌<◌}
use native.Mathlib.Nat.{mod-lt}
use native.Mathlib.Decide.{ℕ_discrete, dec_lt}
use native.Mathlib.Omega.{arith}
use lib.ListN.{length, get_or, length-map}
use lib.Seq.{ext_get_or}
use borrow.Author.Tests.{eq-eqb, lt-ltb}
use Rattle.model.specs.Coupon.{value, slot, home}
use Rattle.model.specs.Packed.{slot_at}
use Rattle.model.specs.Table.{base_for, Member, word_at}
use Rattle.model.specs.Four.{registers4, value_at}
use Rattle.model.specs.Sketch.{area_of, cells, registers, Shaped}
use Rattle.model.specs.Calls.{Out}
use Rattle.model.specs.Image.{homed, sketch_in, regs_in, entries_in}
use Rattle.model.specs.Claims.{ReadsAs, OpensAs, ReadsOne}
use Rattle.model.specs.declared.Sketch.{Sketch}
use Rattle.model.proofs.packing.Packing.{get_or_unpacked, slot_lt}
use Rattle.model.proofs.table.Sizes.{Sized, sized}
use Rattle.model.proofs.table.Shape.{shape_good}
use Rattle.model.proofs.table.Order.{reads}
use Rattle.model.proofs.table.Made.{made_shape, made_to}
use Rattle.model.proofs.four.Reading.{get_or_registers}
use Rattle.model.proofs.order.Plain.{plain_cells, plain_long}
use Rattle.model.proofs.four.FourLaws.{four_long, four_length}
use Rattle.model.proofs.order.Tests.{cells_long}
use Rattle.model.proofs.image.Entries.{AuxFits}
use Rattle.model.proofs.image.SameSlots.{aux_fits, fits_entries}
use Rattle.model.proofs.image.Taken.{map_at, taken_slot, taken_value, takens, taken_words, made_of, made_in}
use Rattle.model.proofs.image.Opens.{Opens, open_says}
use Rattle.model.proofs.image.Opening.{area_in, open_no_lem, opens_to, open_shaped}

module _ (l regs aux scratch : List ℕ) (p : Opens l (length regs) (length aux) (length scratch)) where
  abbrev s : Sketch
  s = sketch_in l

  abbrev k : ℕ
  k = 2 ^ s.lg_k

  abbrev R : List ℕ
  R = registers s (regs_in l) (area_in l aux)

  shaped : Shaped s.kind s.lg_k (length (regs_in l))
  shaped = open_shaped l _ _ _ p

  size : Sized (base_for s.lg_k) k
  size = sized s.lg_k p.sized.0 p.sized.1

  module _ (four : s.kind ≡ 4) where
    long : length R ≡ k
    long = four_length s (regs_in l) (area_in l aux) four shaped

    listed : AuxFits k s.cur_min s.aux_count (cells s (regs_in l)) (entries_in l)
    listed = aux_fits l four p.bodied.entries

    even : (i : ℕ) → i < k → i < 2 * length (regs_in l)
    even i h = let e = four_long s (regs_in l) (area_in l aux) four shaped in omega arith

    -- a register, by its nibble and the table of the entries
    at : (i : ℕ) → i < k → get_or R i 0 ≡ value_at s.cur_min (made_of s (entries_in l)) (get_or (cells s (regs_in l)) i 0) i
    unfolding area_in area_of registers cells
    at i h =
        rw (eq-eqb s.kind 4 four)
        (ap (λ (t : List ℕ). get_or (registers4 s.cur_min t (regs_in l)) i 0) (made_in s (regs_in l) (entries_in l) listed size (length aux) four)
        ∙ get_or_registers s.cur_min (made_of s (entries_in l)) (regs_in l) i (even i h)
        ∙ ap (λ (n : ℕ). value_at s.cur_min (made_of s (entries_in l)) n i) (ap (λ (w : ℕ). slot_at w (regs_in l) i) (sym four) ∙ sym (get_or_unpacked s.kind k (regs_in l) i h)))

    low : (i : ℕ) → i < k → get_or (cells s (regs_in l)) i 0 < 15 → get_or R i 0 ≡ s.cur_min + get_or (cells s (regs_in l)) i 0
    low i h n = at i h ∙ rw (lt-ltb (get_or (cells s (regs_in l)) i 0) 15 n)

    -- the entry's word is where the search for its slot ends
    found : (w : ℕ) → Member (entries_in l) w → word_at (made_of s (entries_in l)) (home k w) ≡ homed k w
    found w (j, d, e) =
        let es = entries_in l in
        let can = taken_words s (regs_in l) es listed size in
        let is : get_or (takens s es) j 0 ≡ homed k w = map_at (homed k) es j d ∙ ap (homed k) e in
        let m : Member (takens s es) (homed k w) = (j, rw length-map d, is) in
        ap (word_at (made_of s es)) (sym (taken_slot k w))
        ∙ reads (made_of s es) (homed k w) (shape_good (made_shape (takens s es) size can)) (can.some (homed k w) m) (made_to (takens s es) size can (homed k w) (can.some (homed k w) m) m)

    high : (w : ℕ) → Member (entries_in l) w → get_or R (home k w) 0 ≡ value w
    high w m =
        let n : get_or (cells s (regs_in l)) (home k w) 0 ≡ 15 = ap (λ (x : ℕ). get_or (cells s (regs_in l)) (home k x) 0) (sym m.2) ∙ (listed.each m.0 m.1).1 in
        at (home k w) (mod-lt (slot w) size.some) ∙ rw (n, found w m) (taken_value k w)

  reads_as : ReadsAs l R
  reads_as = record {
    long = go (ℕ_discrete s.kind 4);
    plain = plain_cells s (regs_in l) (area_in l aux);
    low = low;
    listed = λ four. (fits_entries (sketch_in l) (cells (sketch_in l) (regs_in l)) (entries_in l) (cells_long (sketch_in l) (regs_in l)) (aux_fits l four p.bodied.entries)).lists;
    high = high;
  }
    where
      go : Dec (s.kind ≡ 4) → length R ≡ k
      go (yes e) = long e
      go (no e) = plain_long s (regs_in l) (area_in l aux) e

pub opens_as : OpensAs
opens_as l regs aux scratch e =
    let n = sym (open_no_lem l regs aux scratch) ∙ e in
    subst (λ (o : Out). (o.sketch ≡ sketch_in l) × ReadsAs l (registers o.sketch o.regs o.aux)) (sym (opens_to l regs aux scratch n)) (refl, reads_as l regs aux scratch ((open_says l _ _ _).0 n))

-- ---- by what is said of them
nibble_small : (s : Sketch) (regs : List ℕ) → s.kind ≡ 4 → (i : ℕ) → i < 2 ^ s.lg_k → get_or (cells s regs) i 0 < 16
unfolding cells
nibble_small s regs four i h =
    let e = get_or_unpacked s.kind (2 ^ s.lg_k) regs i h in
    let n = slot_lt s.kind regs i in
    let p : 2 ^ s.kind ≡ 16 = ap (λ (w : ℕ). 2 ^ w) four in
    omega arith

pub reads_one : ReadsOne
reads_one l R S a b = go (ℕ_discrete (sketch_in l).kind 4)
  where
    at : (four : (sketch_in l).kind ≡ 4) (i : ℕ) → i < 2 ^ (sketch_in l).lg_k → Dec (get_or (cells (sketch_in l) (regs_in l)) i 0 < 15) → get_or R i 0 ≡ get_or S i 0
    at four i h (yes n) = a.low four i h n ∙ sym (b.low four i h n)
    at four i h (no n) =
        let d = nibble_small (sketch_in l) (regs_in l) four i h in
        let m = a.listed four i h (omega arith) in
        ap (λ (j : ℕ). get_or R j 0) (sym m.2) ∙ a.high four m.0 m.1 ∙ sym (b.high four m.0 m.1) ∙ ap (λ (j : ℕ). get_or S j 0) m.2

    go : Dec ((sketch_in l).kind ≡ 4) → R ≡ S
    go (yes four) = ext_get_or 0 R S (a.long ∙ sym b.long) (λ i h. let d : i < 2 ^ (sketch_in l).lg_k = rw a.long at h in at four i d (dec_lt _ _))
    go (no e) = a.plain e ∙ sym (b.plain e)
