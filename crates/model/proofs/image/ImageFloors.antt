-- Merging straight from an image: its floors poured in and its words fed, in whichever form and order they stand there, are what opening and
-- then merging yields. Assumes nothing.
use mathlib.Core.Path.{◌≡◌, refl, sym, ap, ◌∙◌, subst}
use mathlib.Core.Bool.{Bool, true, false}
use mathlib.Core.List.{List, []}
use Prim.Native.Nat.{ℕ, ◌+◌, ◌%◌, ◌^◌, ◌≤◌, ◌<◌}
use native.Mathlib.Nat.{mod-lt, mod-eq_of_lt}
use native.Mathlib.Decide.{ℕ_discrete}
use native.Mathlib.Omega.{arith}
use lib.ListN.{length, get_or, drop, length-map}
use lib.Pow.{pow_pos}
use lib.Dec.{eqb}
use borrow.Author.Tests.{eq-eqb, ne_eqb}
use Rattle.model.specs.Pick.{pick}
use Rattle.model.specs.Coupon.{value, slot, home}
use Rattle.model.specs.Registers.{fed, joined}
use Rattle.model.specs.Packed.{Bytes, unpacked}
use Rattle.model.specs.Table.{base_for}
use Rattle.model.specs.Sketch.{bytes_of, area_of, table_in, cells, floors, registers, Good}
use Rattle.model.specs.Calls.{Out}
use Rattle.model.specs.Image.{sketch_in, regs_in, compact_in, word_count, words_in, entries_in, homed, open_no, open_of}
use Rattle.model.specs.declared.Sketch.{Sketch}
use Rattle.model.proofs.packing.Packing.{unpacked_none}
use Rattle.model.proofs.table.Sizes.{Sized, sized}
use Rattle.model.proofs.table.Sifted.{filled_from, filled_to}
use Rattle.model.proofs.table.Made.{made_from, made_to}
use Rattle.model.proofs.order.Tests.{counts_tells}
use Rattle.model.proofs.image.Opens.{Opens, open_says}
use Rattle.model.proofs.image.Entries.{AuxFits}
use Rattle.model.proofs.image.SameSlots.{aux_fits}
use Rattle.model.proofs.image.Taken.{map_at, taken_slot, taken_value, takens, taken_words, made_of, made_in}
use Rattle.model.proofs.image.Opening.{area_in, open_no_lem, opens_to, open_good}
use Rattle.model.proofs.registers.Floors.{Floored, floors_words, floored_as, good_floored}

-- the empty words say nothing
kept_words : {b : ℕ} {R F : List ℕ} (l : List ℕ) → Floored b R F (entries_in l) → Floored b R F (words_in l)
unfolding entries_in
kept_words l f = floored_as f (λ w m h. (w, (filled_from (words_in l) w m).0, refl, refl)) (λ u m h. (u, filled_to (words_in l) u m (λ z. omega arith), refl, refl))

-- the words of the table that open makes are the entries, each by its slot modulo k
module _ (s : Sketch) (regs es : List ℕ) (listed : AuxFits (2 ^ s.lg_k) s.cur_min s.aux_count (cells s regs) es) (ok : Sized (base_for s.lg_k) (2 ^ s.lg_k)) where
  home_taken : (w : ℕ) → home (2 ^ s.lg_k) (homed (2 ^ s.lg_k) w) ≡ home (2 ^ s.lg_k) w
  home_taken w = ap (λ (x : ℕ). x % 2 ^ s.lg_k) (taken_slot (2 ^ s.lg_k) w) ∙ mod-eq_of_lt (mod-lt (slot w) (pow_pos s.lg_k))

  made_words : {R F : List ℕ} → Floored s.lg_k R F (made_of s es) → Floored s.lg_k R F es
  made_words f =
      let k = 2 ^ s.lg_k in
      let can = taken_words s regs es listed ok in
      floored_as f
      (λ w m h.
      let n = made_from (takens s es) ok can w (λ z. let v : value w ≡ 0 = rw z in omega arith) m in
      let d : n.0 < length es = rw length-map at n.1 in
      let e : homed k (get_or es n.0 0) ≡ w = sym (map_at (homed k) es n.0 d) ∙ n.2 in
      (get_or es n.0 0, (n.0, d, refl), sym (home_taken (get_or es n.0 0)) ∙ ap (home k) e, sym (taken_value k (get_or es n.0 0)) ∙ ap value e))
      (λ u m h.
      let d : m.0 < length (takens s es) = rw length-map m.1 in
      let x = homed k u in
      let some : homed k u ≡ 0 → ⊥ = λ z. let v : value (homed k u) ≡ 0 = rw z in omega (arith, taken_value k u) in
      (x, made_to (takens s es) ok can x some (m.0, d, map_at (homed k) es m.0 m.1 ∙ ap (homed k) m.2), home_taken u, taken_value k u))

module _ (l regs aux scratch : List ℕ) (bytes : Bytes l) (opens : (open_of l regs aux scratch).no ≡ 0) where
  ok_no : open_no l (length regs) (length aux) (length scratch) ≡ 0
  ok_no = sym (open_no_lem l regs aux scratch) ∙ opens

  passed : Opens l (length regs) (length aux) (length scratch)
  passed = (open_says l _ _ _).0 ok_no

  good : Good (sketch_in l) (regs_in l) (area_in l aux)
  good = subst (λ (r : Out). Good r.sketch r.regs r.aux) (opens_to l regs aux scratch ok_no) (open_good l regs aux scratch bytes opens)

  module _ (h : (sketch_in l).kind ≡ 4 → ⊥) where
    none_table : table_in (sketch_in l) (area_in l aux) ≡ []
    unfolding table_in
    none_table = rw (ne_eqb (sketch_in l).kind 4 h)

    none_words : words_in l ≡ []
    unfolding word_count
    none_words = go (compact_in l)
      where
        count : (sketch_in l).aux_count ≡ 0
        count = (((counts_tells (sketch_in l)).0 passed.counted.counts).none h).1

        go : (c : Bool) → unpacked 32 (pick c (sketch_in l).aux_count (pick (eqb (sketch_in l).aux_count 0) 0 (2 ^ get_or l 4 0))) (drop (40 + bytes_of (sketch_in l).kind (sketch_in l).lg_k) l) ≡ []
        go true = rw count (unpacked_none 32 _)
        go false = rw count (unpacked_none 32 _)

  -- R is what opening yields, whatever memory it is lent
  abbrev R : List ℕ
  R = registers (sketch_in l) (regs_in l) (area_in l aux)

  held : Floored (sketch_in l).lg_k R (floors (sketch_in l) (regs_in l)) (table_in (sketch_in l) (area_in l aux))
  held = good_floored (sketch_in l) (regs_in l) (area_in l aux) good

  entries_floored : (sketch_in l).kind ≡ 4 → Floored (sketch_in l).lg_k (registers (sketch_in l) (regs_in l) (area_in l aux)) (floors (sketch_in l) (regs_in l)) (entries_in l)
  unfolding area_in area_of
  entries_floored e =
      let listed = aux_fits l e passed.bodied.entries in
      let ok = sized (sketch_in l).lg_k passed.sized.0 passed.sized.1 in
      let front : table_in (sketch_in l) (area_in l aux) ≡ made_of (sketch_in l) (entries_in l) = rw (eq-eqb (sketch_in l).kind 4 e) (made_in (sketch_in l) (regs_in l) (entries_in l) listed ok (length aux) e) in
      made_words (sketch_in l) (regs_in l) (entries_in l) listed ok (subst (Floored _ _ _) front held)

  image_floored : Floored (sketch_in l).lg_k R (floors (sketch_in l) (regs_in l)) (words_in l)
  image_floored = go (ℕ_discrete (sketch_in l).kind 4)
    where
      go : Dec ((sketch_in l).kind ≡ 4) → Floored (sketch_in l).lg_k R (floors (sketch_in l) (regs_in l)) (words_in l)
      go (yes e) = kept_words l (entries_floored e)
      go (no h) = subst (Floored _ _ _) (none_table h ∙ sym (none_words h)) held

  -- what merging straight from an image has to do to a target, and what that then holds
  pub open_merge : (a : ℕ) (T : List ℕ) → a ≤ (sketch_in l).lg_k
      → let o = open_of l regs aux scratch in fed (2 ^ a) (joined (2 ^ a) T (floors (sketch_in l) (regs_in l))) (words_in l) ≡ joined (2 ^ a) T (registers o.sketch o.regs o.aux)
  open_merge a T le =
      floors_words a (sketch_in l).lg_k image_floored le T
      ∙ ap (λ (r : Out). joined (2 ^ a) T (registers r.sketch r.regs r.aux)) (sym (opens_to l regs aux scratch ok_no))
