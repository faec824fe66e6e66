-- The table that open makes of an image's entries passes the tests of good order. Assumes nothing.
use mathlib.Core.Path.{◌≡◌, refl, sym, ap, ◌∙◌}
use mathlib.Core.Bool.{true}
use mathlib.Core.List.{List, [], ◌∷◌, map}
use Prim.Native.Nat.{ℕ, zero, suc, ◌-◌, ◌^◌, ◌≤◌, ◌<◌}
use native.Mathlib.Nat.{not-suc-le-zero, le_of_suc-le-suc, mod-lt, mod-le, lt_of_le_of_lt}
use native.Mathlib.Omega.{arith}
use lib.ListN.{length, get_or, replicate, length-append, length-replicate, length-map}
use lib.Seq.{take_at, drop_at}
use borrow.Author.Tests.{eq-eqb}
use Rattle.model.specs.Coupon.{value, slot, home}
use Rattle.model.specs.Table.{Member, Reached, used, table_size, made, laid, base_for, Makable}
use Rattle.model.specs.Sketch.{cells, table_in}
use Rattle.model.specs.Check.{table_fits}
use Rattle.model.specs.Image.{homed}
use Rattle.model.specs.declared.Sketch.{Sketch}
use Rattle.model.proofs.order.Tells.{tells_true}
use Rattle.model.proofs.table.Search.{slot_of_word, value_of_word}
use Rattle.model.proofs.table.Refill.{used_zeros}
use Rattle.model.proofs.table.Sizes.{Sized}
use Rattle.model.proofs.registers.Lowest.{count_le}
use Rattle.model.proofs.table.Shape.{shape_good}
use Rattle.model.proofs.table.Made.{made_used, made_size, made_shape, made_from}
use Rattle.model.proofs.order.Tests.{cells_long, WordFits, table_tells}
use Rattle.model.proofs.image.Entries.{AuxFits}

-- ---- an entry as a word of the table
pub map_at : (f : ℕ → ℕ) (l : List ℕ) (i : ℕ) → i < length l → get_or (map f l) i 0 ≡ f (get_or l i 0)
map_at f [] i h = absurd (not-suc-le-zero h)
map_at f (x ∷ l) zero h = refl
map_at f (x ∷ l) (suc i) h = map_at f l i (le_of_suc-le-suc h)

module _ (k w : ℕ) where
  home_small : home k w < 2 ^ 26
  home_small = lt_of_le_of_lt (mod-le (slot w) k) (omega arith)

  pub taken_slot : slot (homed k w) ≡ home k w
  taken_slot = slot_of_word (home k w) (value w) home_small

  pub taken_value : value (homed k w) ≡ value w
  taken_value = value_of_word (home k w) (value w) home_small (omega arith)

  taken_small : homed k w < 2 ^ 32
  taken_small = omega (arith, home_small)

-- ---- all of them
abbrev pub takens : Sketch → List ℕ → List ℕ
takens s es = map (homed (2 ^ s.lg_k)) es

module _ (s : Sketch) (regs es : List ℕ) (listed : AuxFits (2 ^ s.lg_k) s.cur_min s.aux_count (cells s regs) es) {base : ℕ} (ok : Sized base (2 ^ s.lg_k)) where
  -- each is an exception's
  taken_fits : (x : ℕ) → Member (takens s es) x → WordFits s.cur_min (cells s regs) x
  taken_fits x m =
      let k = 2 ^ s.lg_k in
      let i = m.0 in
      let h : i < length es = rw length-map at m.1 in
      let w = get_or es i 0 in
      let e : homed k w ≡ x = sym (map_at (homed k) es i h) ∙ m.2 in
      rw (← e)
      (record {
        inside = rw (taken_slot k w, cells_long s regs) (mod-lt (slot w) ok.some);
        token = rw (taken_slot k w) (listed.each i h).1;
        high = rw (taken_value k w) (listed.each i h).0;
        whole = taken_small k w;
      })

  -- none is empty, and their slots differ
  pub taken_words : Makable (takens s es)
  taken_words =
      let k = 2 ^ s.lg_k in
      record {
        few = rw length-map (omega (arith, ok.few, listed.many, listed.marked, count_le 15 (cells s regs), cells_long s regs));
        some = λ x m z. let f = (taken_fits x m).high in omega arith;
        distinct = λ i j li lj e.
            let di : i < length es = rw length-map at li in
            let dj : j < length es = rw length-map at lj in
            listed.apart i j di dj
            (sym (taken_slot k (get_or es i 0)) ∙ ap slot (sym (map_at (homed k) es i di)) ∙ e ∙ ap slot (map_at (homed k) es j dj) ∙ taken_slot k (get_or es j 0));
      }

-- ---- the table of them, in front of an area
abbrev pub made_of : Sketch → List ℕ → List ℕ
made_of s es = made (base_for s.lg_k) (takens s es)

module _ (s : Sketch) (regs es : List ℕ) (listed : AuxFits (2 ^ s.lg_k) s.cur_min s.aux_count (cells s regs) es) (ok : Sized (base_for s.lg_k) (2 ^ s.lg_k)) where
  can : Makable (takens s es)
  can = taken_words s regs es listed ok

  many : length (takens s es) ≡ s.aux_count
  many = length-map es (homed (2 ^ s.lg_k)) ∙ listed.many

  long : length (made_of s es) ≡ table_size (base_for s.lg_k) s.aux_count
  long = made_size (takens s es) ok can ∙ ap (table_size (base_for s.lg_k)) many

  -- it is the table that the record speaks of
  pub made_in : (room : ℕ) → s.kind ≡ 4 → table_in s (laid room (made_of s es)) ≡ made_of s es
  unfolding table_in laid
  made_in room four = rw (eq-eqb s.kind 4 four) (take_at (made_of s es) _ _ long)

  pub made_fits : (room : ℕ) → s.kind ≡ 4 → table_size (base_for s.lg_k) s.aux_count ≤ room → table_fits s regs (laid room (made_of s es)) ≡ true
  unfolding laid Reached
  made_fits room four fits =
      let t = made_of s es in
      let zeros = room - length t in
      tells_true _ (table_tells s regs (laid room t))
      (record {
        fits = omega (arith, length-append t (replicate zeros 0), length-replicate {A = ℕ} zeros 0, long);
        many = rw (made_in room four) (made_used (takens s es) ok can ∙ many);
        marked = listed.marked;
        behind = ap used (drop_at t _ _ long) ∙ used_zeros zeros;
        words = rw (made_in room four)
            (λ p l x. (taken_fits s regs es listed ok (get_or t p 0) (made_from (takens s es) ok can (get_or t p 0) x (p, l, refl)), shape_good (made_shape (takens s es) ok can) p l x));
      })
