-- The slots that entries list and those of the nibbles 15 are one set exactly if each entry's nibble is 15 and there are as many of both. Assumes nothing.
use mathlib.Core.Path.{◌≡◌, refl, sym, ap, ◌∙◌}
use mathlib.Core.Bool.{Bool, true, false, not}
use mathlib.Core.List.{List, [], map}
use Prim.Native.Nat.{ℕ, ◌+◌, ◌^◌, ◌<◌}
use native.Mathlib.Nat.{mod-lt, not-suc-le-zero}
use native.Mathlib.Omega.{arith}
use lib.Dec.{eqb}
use lib.ListN.{length, get_or, drop, length-map}
use lib.Pow.{pow_pos}
use borrow.Author.Tests.{eq-eqb, ne_eqb, eqb-false, le-ltb, not-true}
use Rattle.model.specs.Pick.{pick}
use Rattle.model.specs.Coupon.{value, slot, home}
use Rattle.model.specs.Packed.{unpacked}
use Rattle.model.specs.Registers.{count_of}
use Rattle.model.specs.Table.{used, filled}
use Rattle.model.specs.Answers.{Said, said}
use Rattle.model.specs.Faults.{fault_at, aux_fault}
use Rattle.model.specs.Sketch.{bytes_of, cells}
use Rattle.model.specs.Image.{homed, sketch_in, regs_in, compact_in, word_count, words_in, entries_in, aux_in}
use Rattle.model.specs.Claims.{EntryAt, RightTo, Listed, Entries}
use Rattle.model.specs.declared.Sketch.{Sketch}
use Rattle.model.proofs.order.Tells.{tells_one, tells_eq}
use Rattle.model.proofs.packing.Packing.{unpacked_none}
use Rattle.model.proofs.table.Sifted.{sifted_none, filled_used}
use Rattle.model.proofs.table.Counting.{marks, Marked, marks_same, marks_used, marks_all, count_marks}
use Rattle.model.proofs.table.FirstLaws.{true_not_false}
use Rattle.model.proofs.order.Tests.{cells_long}
use Rattle.model.proofs.registers.Lowest.{count_none, count_some}
use Rattle.model.proofs.image.Entries.{Apart, AuxFits, filled_all, from, right_high, right_apart, none_entries, entries_none}
use Rattle.model.proofs.image.Faults.{right_of}
use Rattle.model.proofs.image.Taken.{map_at, taken_slot, taken_value}

-- words of which none is empty are all used
used_all : (ws : List ℕ) → ((i : ℕ) → i < length ws → get_or ws i 0 ≡ 0 → ⊥) → used ws ≡ length ws
used_all ws h = sym (filled_used ws) ∙ ap length (filled_all ws (λ i l. ne_eqb (get_or ws i 0) 0 (h i l)))

-- a slot is listed, and its nibble is 15
abbrev has : ℕ → List ℕ → ℕ → Bool
has k es i = not (eqb (count_of i (map (home k) es)) 0)

abbrev fifteen : List ℕ → ℕ → Bool
fifteen nibbles i = eqb (get_or nibbles i 0) 15

has_lists : (k : ℕ) (es : List ℕ) (i : ℕ) → has k es i ≡ true → Listed k es i
has_lists k es i h =
    let n = eqb-false (count_of i (map (home k) es)) 0 (not-true _ h) in
    let m = count_some i (map (home k) es) (omega arith) in
    let d : m.0 < length es = rw length-map at m.1 in
    (get_or es m.0 0, (m.0, d, refl), sym (map_at (home k) es m.0 d) ∙ m.2)

lists_has : (k : ℕ) (es : List ℕ) (i : ℕ) → Listed k es i → has k es i ≡ true
lists_has k es i (w, m, e) =
    let d : m.0 < length (map (home k) es) = rw length-map m.1 in
    ap not (ne_eqb _ 0 (λ z. count_none i (map (home k) es) z m.0 d (map_at (home k) es m.0 m.1 ∙ ap (home k) m.2 ∙ e)))

-- entries of different slots, none empty: as many as slots that are listed
module _ (k : ℕ) (es : List ℕ) (some : 0 < k) (high : (i : ℕ) → i < length es → 0 < value (get_or es i 0)) (apart : Apart k es) where
  abbrev ws : List ℕ
  ws = map (homed k) es

  at : (i : ℕ) → i < length es → get_or ws i 0 ≡ homed k (get_or es i 0)
  at i d = map_at (homed k) es i d

  valued : (i : ℕ) → i < length es → homed k (get_or es i 0) ≡ 0 → ⊥
  valued i d z = let v : value (homed k (get_or es i 0)) ≡ 0 = rw z in omega (arith, high i d, taken_value k (get_or es i 0))

  marked : Marked ws (has k es) k
  marked = record {
    distinct = λ i j li lj hi hj e.
        let di : i < length es = rw length-map at li in
        let dj : j < length es = rw length-map at lj in
        apart i j di dj (sym (taken_slot k (get_or es i 0)) ∙ ap slot (sym (at i di)) ∙ e ∙ ap slot (at j dj) ∙ taken_slot k (get_or es j 0));
    from = λ x hx m.
        let d : m.0 < length es = rw length-map at m.1 in
        let e : slot x ≡ home k (get_or es m.0 0) = ap slot (sym m.2 ∙ at m.0 d) ∙ taken_slot k (get_or es m.0 0) in
        (rw e (mod-lt _ some), lists_has k es (slot x) (get_or es m.0 0, (m.0, d, refl), sym e));
    to = λ i l h.
        let (w, m, e) = has_lists k es i h in
        let d : m.0 < length ws = rw length-map m.1 in
        (get_or ws m.0 0, (λ z. valued m.0 m.1 (sym (at m.0 m.1) ∙ z)), (m.0, d, refl), ap slot (at m.0 m.1) ∙ taken_slot k (get_or es m.0 0) ∙ ap (home k) m.2 ∙ e);
  }

  entries_marks : length es ≡ marks (has k es) k
  entries_marks =
      sym (length-map es (homed k)) ∙ sym (used_all ws (λ i l z. let d : i < length es = rw length-map at l in valued i d (sym (at i d) ∙ z))) ∙ marks_used ws (has k es) k marked

-- ---- the entries in numbers, and as sets
module _ (s : Sketch) (nibbles es : List ℕ) (long : length nibbles ≡ 2 ^ s.lg_k) where
  abbrev k : ℕ
  k = 2 ^ s.lg_k

  abbrev Fits : Type 0
  Fits = AuxFits k s.cur_min s.aux_count nibbles es

  fifteens_marks : count_of 15 nibbles ≡ marks (fifteen nibbles) k
  fifteens_marks = count_marks 15 nibbles ∙ ap (marks (fifteen nibbles)) long

  pub fits_entries : AuxFits (2 ^ s.lg_k) s.cur_min s.aux_count nibbles es → Entries s nibbles es
  fits_entries h =
      let listed : (i : ℕ) → Listed k es i → get_or nibbles i 0 ≡ 15 = λ i (w, m, e). ap (λ (j : ℕ). get_or nibbles j 0) (sym (ap (home k) m.2 ∙ e)) ∙ (h.each m.0 m.1).1 in
      record {
        high = λ i l. (h.each i l).0;
        apart = h.apart;
        count = h.many;
        listed = λ i l. listed i;
        lists = λ i l e.
            has_lists k es i
            (marks_all (has k es) (fifteen nibbles) k (λ j d q. eq-eqb (get_or nibbles j 0) 15 (listed j (has_lists k es j q)))
            (sym (entries_marks k es (pow_pos s.lg_k) (λ j d. omega (arith, (h.each j d).0)) h.apart) ∙ h.many ∙ sym h.marked ∙ fifteens_marks) i l (eq-eqb (get_or nibbles i 0) 15 e));
      }

  entries_fits : Entries s nibbles es → Fits
  entries_fits h = record {
    each = λ i l. (h.high i l, h.listed (home k (get_or es i 0)) (mod-lt _ (pow_pos s.lg_k)) (get_or es i 0, (i, l, refl), refl));
    apart = h.apart;
    many = h.count;
    marked =
        fifteens_marks
        ∙ marks_same (fifteen nibbles) (has k es) k
        (λ i l. tells_one _ _ (tells_eq (get_or nibbles i 0) 15) ((λ q. h.listed i l (has_lists k es i q)), λ q e. true_not_false (lists_has k es i (h.lists i l e)) q))
        ∙ sym (entries_marks k es (pow_pos s.lg_k) (λ j d. omega (arith, h.high j d)) h.apart) ∙ h.count;
  }

-- nothing is wrong with any word, each entry's nibble is 15, and there are as many of both: then nothing is wrong, and no slot has to be looked at
pub even_none : (compact : Bool) (s : Sketch) (ns ws : List ℕ) → length ns ≡ 2 ^ s.lg_k → ((i : ℕ) → i < length ws → fault_at compact (2 ^ s.lg_k) s.cur_min ws i ≡ 0)
    → ((i : ℕ) → i < length ws → EntryAt ws i → get_or ns (home (2 ^ s.lg_k) (get_or ws i 0)) 0 ≡ 15) → length (filled ws) ≡ s.aux_count → count_of 15 ns ≡ s.aux_count
    → aux_fault compact (2 ^ s.lg_k) s.cur_min s.aux_count ws ns ≡ said 0 0
even_none compact s ns ws long none evens many marked =
    let k = 2 ^ s.lg_k in
    let low = s.cur_min in
    let right : RightTo compact k low ws (length ws) = λ i l. right_of compact k low ws i (le-ltb 0 (fault_at compact k low ws i) (omega (arith, none i l))) in
    entries_none compact s ns ws
    (fits_entries s ns (filled ws) long
    (record {
      each = λ i l. let p = from ws i l in (right_high compact k low ws right i l, ap (λ (w : ℕ). get_or ns (home k w) 0) (sym p.is) ∙ evens p.place p.inside p.entry);
      apart = right_apart compact k low ws right;
      many = many;
      marked = marked;
    }))
    (λ i l. (right i l).0)

-- ---- in an image
pub no_words : (l : List ℕ) → (sketch_in l).aux_count ≡ 0 → word_count l ≡ 0
unfolding word_count
no_words l e = rw e (go (compact_in l))
  where
    go : (b : Bool) → ◌≡◌ {A = ℕ} (pick b 0 0) 0
    go true = refl
    go false = refl

pub aux_other : (l : List ℕ) → ((sketch_in l).kind ≡ 4 → ⊥) → aux_in l ≡ said 0 0
unfolding aux_in
aux_other l n = rw (ne_eqb (sketch_in l).kind 4 n)

module _ (l : List ℕ) (four : (sketch_in l).kind ≡ 4) where
  abbrev ns : List ℕ
  ns = cells (sketch_in l) (regs_in l)

  pub by_words : aux_in l ≡ aux_fault (compact_in l) (2 ^ (sketch_in l).lg_k) (sketch_in l).cur_min (sketch_in l).aux_count (words_in l) (cells (sketch_in l) (regs_in l))
  unfolding aux_in
  by_words = rw (eq-eqb (sketch_in l).kind 4 four)

  -- where nothing is wrong, a table can be made of the entries
  pub aux_fits : (aux_in l).no ≡ 0 → AuxFits (2 ^ (sketch_in l).lg_k) (sketch_in l).cur_min (sketch_in l).aux_count (cells (sketch_in l) (regs_in l)) (entries_in l)
  unfolding entries_in
  aux_fits z = entries_fits (sketch_in l) ns (filled (words_in l)) (cells_long (sketch_in l) (regs_in l)) (none_entries (compact_in l) (sketch_in l) ns (words_in l) (ap (λ (f : Said). f.no) (sym by_words) ∙ z)).0

  -- and the other way, where no word is empty
  pub fits_aux : AuxFits (2 ^ (sketch_in l).lg_k) (sketch_in l).cur_min (sketch_in l).aux_count (cells (sketch_in l) (regs_in l)) (entries_in l)
      → ((i : ℕ) → i < length (words_in l) → EntryAt (words_in l) i) → (aux_in l).no ≡ 0
  unfolding entries_in
  fits_aux h full =
      ap (λ (f : Said). f.no) (by_words ∙ entries_none (compact_in l) (sketch_in l) ns (words_in l)
      (fits_entries (sketch_in l) ns (filled (words_in l)) (cells_long (sketch_in l) (regs_in l)) h) (λ i d e. true_not_false e.1 (full i d)))

  -- no words are counted, and no nibble is 15
  pub aux_empty : (sketch_in l).aux_count ≡ 0 → count_of 15 (cells (sketch_in l) (regs_in l)) ≡ 0 → aux_in l ≡ said 0 0
  aux_empty z none =
      by_words ∙ ap (λ (ws : List ℕ). aux_fault (compact_in l) (2 ^ (sketch_in l).lg_k) (sketch_in l).cur_min (sketch_in l).aux_count ws ns) (ap (λ (n : ℕ). unpacked 32 n (drop (40 + bytes_of (sketch_in l).kind (sketch_in l).lg_k) l)) (no_words l z) ∙ unpacked_none 32 _)
      ∙ entries_none (compact_in l) (sketch_in l) ns []
      (rw sifted_none
      (fits_entries (sketch_in l) ns [] (cells_long (sketch_in l) (regs_in l))
      (record { each = λ i d. absurd (not-suc-le-zero d); apart = λ i j d. absurd (not-suc-le-zero d); many = sym z; marked = none ∙ sym z })))
      (λ i d. absurd (not-suc-le-zero d))
