-- Nibbles and a table that fit each other, as the tests of good order ask it, are those of the registers that are read of them. Assumes nothing.
use mathlib.Core.Path.{◌≡◌, refl, sym, ◌∙◌, ap, ap₂, subst}
use mathlib.Core.Bool.{Bool, true, not}
use mathlib.Core.Logic.{◌⊎◌, inl, inr}
use mathlib.Core.List.{List, []}
use Prim.Native.Nat.{ℕ, ◌+◌, ◌^◌, ◌≤◌, ◌<◌}
use native.Mathlib.Omega.{arith}
use native.Mathlib.Decide.{ℕ_discrete, dec_lt}
use lib.Dec.{eqb}
use lib.ListN.{length, get_or}
use lib.Seq.{ext_get_or}
use borrow.Author.Tests.{eq-eqb, ne_eqb, eqb-false, lt-ltb, le-ltb, not-true}
use Rattle.model.specs.Coupon.{slot, value, word}
use Rattle.model.specs.Registers.{count_of}
use Rattle.model.specs.Table.{Member, Kept, Reached, Room, place, word_at, used, size_for, table_size}
use Rattle.model.specs.Four.{TableAt, Exception, nibble, values_from}
use Rattle.model.proofs.registers.Raising.{Small}
use Rattle.model.proofs.table.Order.{reads, word_slot, word_member, no_slot_twice}
use Rattle.model.proofs.table.Inserted.{size_fits, kept_room}
use Rattle.model.proofs.table.Inserts.{size_power}
use Rattle.model.proofs.table.Sizes.{Sized}
use Rattle.model.proofs.order.Tests.{WordFits}
use Rattle.model.proofs.table.Counting.{marks, Marked, marks_le, marks_used, marks_all, marks_zero, count_marks}
use Rattle.model.proofs.table.Shape.{size_some}
use Rattle.model.proofs.four.Reading.{length_values, get_or_values}

-- nibbles N and a table t of count words, at cur_min low
pub record Fit (low count : ℕ) (N t : List ℕ) : Type 0 where
  pub small : (i : ℕ) → i < length N → (get_or N i 0 ≡ 15 → ⊥) → low + get_or N i 0 ≤ 63
  pub counted : used t ≡ count
  pub fifteens : count_of 15 N ≡ count
  pub words : (p : ℕ) → p < length t → (get_or t p 0 ≡ 0 → ⊥) → WordFits low N (get_or t p 0) × (place t (slot (get_or t p 0)) ≡ p)

-- a word that is not past 32 bits
word_whole : (w : ℕ) → w < 2 ^ 32 → w ≡ word (slot w) (value w)
word_whole w h = omega arith

module _ {base low count : ℕ} {N t : List ℕ} (ok : Sized base (length N)) (nibbles : (i : ℕ) → i < length N → get_or N i 0 < 16) (size : length t ≡ table_size base count) (fit : Fit low count N t) where
  good : Reached t
  unfolding Reached
  good p l h = (fit.words p l h).1

  fits : (x : ℕ) → (x ≡ 0 → ⊥) → Member t x → WordFits low N x
  fits x hx m = subst (WordFits low N) m.2 (fit.words m.0 m.1 (λ z. hx (sym m.2 ∙ z))).0

  abbrev fifteen : ℕ → Bool
  fifteen i = eqb (get_or N i 0) 15

  tokens : count ≡ marks fifteen (length N)
  tokens = sym fit.fifteens ∙ count_marks 15 N

  kept : 0 < count → Kept base t
  kept h =
      let p = size_power base count ok.lg ok.power in
      let e : length t ≡ size_for base count = size ∙ size_some base count h in
      record {
        lg = p.0;
        power = e ∙ p.1;
        sized = e ∙ ap (size_for base) (sym fit.counted);
        load = omega (arith, fit.counted, size_fits base count (omega (arith, tokens, marks_le fifteen (length N), ok.few)) ok.four);
        good = good;
      }

  -- where a nibble is 15, the table has room, and a word for the slot: as many words as nibbles of 15, each of another slot of them
  module _ (s : ℕ) (l : s < length N) (e : get_or N s 0 ≡ 15) where
    room : Room t
    room = go (ℕ_discrete count 0)
      where
        go : Dec (count ≡ 0) → Room t
        go (yes z) = absurd (marks_zero fifteen (length N) (sym tokens ∙ z) s l (eq-eqb (get_or N s 0) 15 e))
        go (no h) = kept_room base t (kept (omega arith)) ok.four

    has : ℕ → Bool
    has i = not (eqb (word_at t i) 0)

    has_some : (i : ℕ) → has i ≡ true → word_at t i ≡ 0 → ⊥
    unfolding has
    has_some i h = eqb-false (word_at t i) 0 (not-true (eqb (word_at t i) 0) h)

    marked : Marked t has (length N)
    unfolding has
    marked = record {
      distinct = no_slot_twice t good;
      from = λ x hx m. ((fits x hx m).inside, ap not (ne_eqb (word_at t (slot x)) 0 (λ z. hx (sym (reads t x good hx m) ∙ z))));
      to = λ i k q. (word_at t i, has_some i q, word_member t i room, word_slot t i room (has_some i q));
    }

    found : word_at t s ≡ 0 → ⊥
    found =
        has_some s (marks_all has fifteen (length N)
        (λ i k q. eq-eqb (get_or N i 0) 15 (ap (λ (j : ℕ). get_or N j 0) (sym (word_slot t i room (has_some i q))) ∙ (fits (word_at t i) (has_some i q) (word_member t i room)).token))
        (sym (marks_used t has (length N) marked) ∙ fit.counted ∙ tokens) s l (eq-eqb (get_or N s 0) 15 e))

    word_at_lem : WordFits low N (word_at t s)
    word_at_lem = fits (word_at t s) found (word_member t s room)

    reg_high : get_or (values_from low t 0 N) s 0 ≡ value (word_at t s)
    reg_high = get_or_values low t N s l ∙ rw (le-ltb (get_or N s 0) 15 (omega arith)) refl

  reg_low : (s : ℕ) → s < length N → get_or N s 0 < 15 → get_or (values_from low t 0 N) s 0 ≡ low + get_or N s 0
  reg_low s l k = get_or_values low t N s l ∙ rw (lt-ltb (get_or N s 0) 15 k) refl

  long : length (values_from low t 0 N) ≡ length N
  long = length_values low t 0 N

  -- a nibble is below 15 or 15
  cases : (P : ℕ → Type 0) → ((s : ℕ) → s < length N → get_or N s 0 < 15 → P s) → ((s : ℕ) → s < length N → get_or N s 0 ≡ 15 → P s) → (s : ℕ) → s < length (values_from low t 0 N) → P s
  cases P f g s l = go (dec_lt (get_or N s 0) 15)
    where
      go : Dec (get_or N s 0 < 15) → P s
      go (yes h) = f s (rw long at l) h
      go (no h) = g s (rw long at l) (omega (arith, nibbles s (rw long at l)))

  pub checked_floor : (i : ℕ) → i < length (values_from low t 0 N) → low ≤ get_or (values_from low t 0 N) i 0
  checked_floor = cases (λ s. low ≤ get_or (values_from low t 0 N) s 0) (λ s l k. omega (arith, reg_low s l k)) (λ s l k. omega (arith, reg_high s l k, (word_at_lem s l k).high))

  pub checked_small : Small (values_from low t 0 N)
  checked_small =
      cases (λ s. get_or (values_from low t 0 N) s 0 ≤ 63) (λ s l k. omega (arith, reg_low s l k, fit.small s l (λ z. omega arith))) (λ s l k. omega (arith, reg_high s l k))

  pub checked_nibbles : (s : ℕ) → s < length (values_from low t 0 N) → get_or N s 0 ≡ nibble low (get_or (values_from low t 0 N) s 0)
  checked_nibbles =
      cases (λ s. get_or N s 0 ≡ nibble low (get_or (values_from low t 0 N) s 0)) (λ s l k. omega (arith, reg_low s l k)) (λ s l k. omega (arith, reg_high s l k, (word_at_lem s l k).high))

  pub checked_table : TableAt base low (values_from low t 0 N) t
  unfolding table_size
  checked_table = record {
    shape = shape (ℕ_discrete count 0);
    from = from;
    to = λ s l. cases (λ i. low + 15 ≤ get_or (values_from low t 0 N) i 0 → Member t (word i (get_or (values_from low t 0 N) i 0))) (λ i k n h. absurd (omega (arith, reg_low i k n))) to s l;
  }
    where
      shape : Dec (count ≡ 0) → (t ≡ []) ⊎ ((0 < used t) × Kept base t)
      shape (yes z) = inl (ext_get_or 0 t [] (size ∙ ap (table_size base) z) (λ i l. absurd (omega (arith, size ∙ ap (table_size base) z))))
      shape (no h) = inr (omega (arith, fit.counted), kept (omega arith))

      from : (x : ℕ) → (x ≡ 0 → ⊥) → Member t x → Exception low (values_from low t 0 N) x
      from x hx m =
          let w = fits x hx m in
          let is : get_or (values_from low t 0 N) (slot x) 0 ≡ value x = reg_high (slot x) w.inside w.token ∙ ap value (reads t x good hx m) in
          record { inside = rw long w.inside; right = rw is (word_whole x w.whole); high = rw is w.high }

      to : (s : ℕ) → s < length N → get_or N s 0 ≡ 15 → low + 15 ≤ get_or (values_from low t 0 N) s 0 → Member t (word s (get_or (values_from low t 0 N) s 0))
      to s l e h =
          subst (Member t) (word_whole (word_at t s) (word_at_lem s l e).whole ∙ ap₂ word (word_slot t s (room s l e) (found s l e)) (sym (reg_high s l e))) (word_member t s (room s l e))
