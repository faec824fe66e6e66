-- Kind 4: the words of a table that passes its test, the empty ones passed over, are entries that open accepts, and open makes of them a table that
-- yields the same. Assumes nothing.
use mathlib.Core.Path.{◌≡◌, refl, sym, ap, ◌∙◌, subst}
use mathlib.Core.Logic.{inl, inr}
use mathlib.Core.List.{List}
use Prim.Native.Nat.{ℕ, ◌+◌, ◌*◌, ◌^◌, ◌<◌}
use native.Mathlib.Nat.{mod-eq_of_lt}
use native.Mathlib.Omega.{arith}
use lib.Dec.{ltb, lit<}
use lib.ListN.{length, get_or, length-map}
use lib.Seq.{ext_get_or}
use Rattle.model.specs.Pick.{pick}
use Rattle.model.specs.Coupon.{value, slot, home, word}
use Rattle.model.specs.Table.{Member, Reached, word_at, used, made, base_for, Makable, filled}
use Rattle.model.specs.Packed.{slot_at}
use Rattle.model.specs.Four.{registers4}
use Rattle.model.specs.Sketch.{cells, table_in}
use Rattle.model.specs.Image.{homed}
use Rattle.model.specs.declared.Sketch.{Sketch}
use Rattle.model.proofs.table.Order.{no_slot_twice, same_words}
use Rattle.model.proofs.table.Inserted.{kept_room}
use Rattle.model.proofs.table.Sizes.{Sized}
use Rattle.model.proofs.table.Shape.{Shape}
use Rattle.model.proofs.table.Made.{made_used, made_shape, made_from, made_to}
use Rattle.model.proofs.four.Reading.{length_registers, get_or_registers}
use Rattle.model.proofs.table.Sifted.{filled_from, filled_to, filled_used, sifted_distinct, sifted_none}
use Rattle.model.proofs.packing.ByteLists.{at_all}
use Rattle.model.proofs.order.Tests.{cells_long, WordFits, TableFits}
use Rattle.model.proofs.image.Entries.{AuxFits}
use Rattle.model.proofs.image.Taken.{map_at, takens, taken_words, made_of}

-- the words that write lists
abbrev pub listing : Sketch → List ℕ → List ℕ
listing s aux = filled (table_in s aux)

module _ (s : Sketch) (regs aux : List ℕ) (f : TableFits s regs aux) where
  abbrev t : List ℕ
  t = table_in s aux

  abbrev ws : List ℕ
  ws = listing s aux

  fits_table : (x : ℕ) → Member t x → (x ≡ 0 → ⊥) → WordFits s.cur_min (cells s regs) x
  fits_table x m h = rw (← m.2) (f.words m.0 m.1 (λ z. h (sym m.2 ∙ z))).0

  fits_at : (i : ℕ) → i < length ws → WordFits s.cur_min (cells s regs) (get_or ws i 0)
  fits_at i l = let r = filled_from t (get_or ws i 0) (i, l, refl) in fits_table (get_or ws i 0) r.0 r.1

  reached : Reached t
  unfolding Reached
  reached p l h = (f.words p l h).1

  -- a word's slot is below k, so it is its own
  at_home : (i : ℕ) → i < length ws → home (2 ^ s.lg_k) (get_or ws i 0) ≡ slot (get_or ws i 0)
  at_home i l = mod-eq_of_lt (rw cells_long at (fits_at i l).inside)

  pub listing_small : (i : ℕ) → get_or (listing s aux) i 0 < 2 ^ 32
  listing_small = at_all ws (lit< tt) (λ i l. (fits_at i l).whole)

  pub listing_listed : AuxFits (2 ^ s.lg_k) s.cur_min s.aux_count (cells s regs) (listing s aux)
  listing_listed =
      record {
        each = λ i l. let w = fits_at i l in (w.high, rw (at_home i l) w.token);
        apart = λ i j li lj e.
            sifted_distinct _ slot t (no_slot_twice t reached) i j li lj (some i li) (some j lj) (sym (at_home i li) ∙ e ∙ at_home j lj);
        many = filled_used t ∙ f.many;
        marked = f.marked;
      }
    where
      some : (i : ℕ) → i < length ws → get_or ws i 0 ≡ 0 → ⊥
      some i l z = let w = (fits_at i l).high in omega arith

  -- and so is the word
  taken_same : takens s (listing s aux) ≡ listing s aux
  taken_same =
      ext_get_or 0 (takens s ws) ws (length-map ws (homed (2 ^ s.lg_k)))
      (λ i l.
      let d : i < length ws = rw length-map at l in
      let w = (fits_at i d).whole in
      map_at (homed (2 ^ s.lg_k)) ws i d ∙ ap (λ (x : ℕ). word x (value (get_or ws i 0))) (at_home i d) ∙ omega arith)

  -- ---- the table that is made of them
  module _ (ok : Sized (base_for s.lg_k) (2 ^ s.lg_k)) (shape : Shape (base_for s.lg_k) t) where
    abbrev u : List ℕ
    u = made (base_for s.lg_k) ws

    can : Makable ws
    can = subst Makable taken_same (taken_words s regs ws listing_listed ok)

    same_yield : (sl : ℕ) → word_at u sl ≡ word_at t sl
    unfolding used
    same_yield sl = go shape (made_shape ws ok can)
      where
        go : Shape (base_for s.lg_k) t → Shape (base_for s.lg_k) u → word_at u sl ≡ word_at t sl
        go (inl e) k = rw (e, sifted_none)
        go (inr k) (inl e) = absurd (let z : used u ≡ 0 = ap used e in omega (arith, k.0, made_used ws ok can, listing_listed.many, f.many))
        go (inr k) (inr k') =
            same_words t u (kept_room _ t k.1 ok.four) (kept_room _ u k'.1 ok.four) reached k'.1.good
            (λ x h m. made_to ws ok can x h (filled_to t x m h))
            (λ x h m. (filled_from t x (made_from ws ok can x h m)).0) sl

    pub listing_registers : (low : ℕ) (bytes : List ℕ) → registers4 low (made_of s (listing s aux)) bytes ≡ registers4 low (table_in s aux) bytes
    listing_registers low bytes =
        ap (λ (l : List ℕ). registers4 low (made (base_for s.lg_k) l) bytes) taken_same
        ∙ ext_get_or 0 (registers4 low u bytes) (registers4 low t bytes) (length_registers low u bytes ∙ sym (length_registers low t bytes))
        (λ i l. let d : i < 2 * length bytes = rw length_registers at l in
        get_or_registers low u bytes i d ∙ ap (λ (w : ℕ). pick (ltb (slot_at 4 bytes i) 15) (low + slot_at 4 bytes i) (value w)) (same_yield i) ∙ sym (get_or_registers low t bytes i d))
