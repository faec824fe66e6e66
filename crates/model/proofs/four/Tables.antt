-- The table of R's exceptions: what it yields, how many words and how long it is, and what a rise of cur_min does to it. Assumes nothing.
use mathlib.Core.Path.{◌≡◌, sym, ◌∙◌, ap, subst}
use mathlib.Core.Logic.{inl, inr}
use mathlib.Core.List.{List}
use Prim.Native.Nat.{ℕ, zero, suc, ◌+◌, ◌^◌, ◌≤◌, ◌<◌}
use native.Mathlib.Omega.{arith}
use lib.Dec.{leb}
use lib.ListN.{length, get_or, take}
use lib.Seq.{take_at}
use borrow.Author.Tests.{le-leb, leb-true}
use Rattle.model.specs.Coupon.{slot, word}
use Rattle.model.specs.Registers.{above}
use Rattle.model.specs.Table.{Member, Kept, word_at, used, keeps, table_size, made, laid, Makable}
use Rattle.model.specs.Four.{Exception, TableAt, risen, climbed}
use Rattle.model.proofs.registers.Raising.{Small}
use Rattle.model.proofs.table.Members.{member_none}
use Rattle.model.proofs.table.Search.{slot_of_word, value_of_word}
use Rattle.model.proofs.table.Order.{reads, no_slot_twice}
use Rattle.model.proofs.table.Sizes.{Sized}
use Rattle.model.proofs.table.Counting.{marks_used, marks_le, above_marks}
use Rattle.model.proofs.table.Sifted.{keeps_from, keeps_to, keeps_few, sifted_distinct}
use Rattle.model.proofs.table.Shape.{Shape, shape_good, shape_size, size_shorter}
use Rattle.model.proofs.table.Made.{makable, made_size, made_shape, made_from, made_to}

pub word_some : (s v : ℕ) → 0 < v → word s v ≡ 0 → ⊥
word_some s v h e = omega arith

module _ {base low : ℕ} {R t : List ℕ} (ta : TableAt base low R t) where
  -- it is found at the front of its area
  pub table_in_lem : (room : ℕ) → take (table_size base (used t)) (laid room t) ≡ t
  unfolding laid
  table_in_lem room = take_at t _ (table_size base (used t)) (shape_size ta.shape)

  -- with an exception it is not empty
  pub table_kept : (s : ℕ) → s < length R → low + 15 ≤ get_or R s 0 → (0 < used t) × Kept base t
  table_kept s l h = go ta.shape
    where
      go : Shape base t → (0 < used t) × Kept base t
      go (inl e) = absurd (member_none (word s (get_or R s 0)) (subst (λ (u : List ℕ). Member u (word s (get_or R s 0))) e (ta.to s l h)))
      go (inr k) = k

  module _ (few : length R ≤ 2 ^ 21) where
    -- it has as many words as R has exceptions
    pub table_used : used t ≡ above (low + 15) R
    table_used = marks_used t (λ s. leb (low + 15) (get_or R s 0)) (length R) (record {
      distinct = no_slot_twice t (shape_good ta.shape);
      from = λ x hx m. let e = ta.from x hx m in (e.inside, le-leb (low + 15) (get_or R (slot x) 0) e.high);
      to = λ s l q.
          let h = leb-true (low + 15) (get_or R s 0) q in
          (word s (get_or R s 0), word_some s (get_or R s 0) (omega arith), ta.to s l h, slot_of_word s (get_or R s 0) (omega arith));
    }) ∙ sym (above_marks (low + 15) R)

    pub table_few : used t ≤ length R
    table_few = omega (arith, table_used, above_marks (low + 15) R, marks_le (λ s. leb (low + 15) (get_or R s 0)) (length R))

    -- what it yields for a slot
    pub table_word : (s : ℕ) → s < length R → low + 15 ≤ get_or R s 0 → word_at t s ≡ word s (get_or R s 0)
    table_word s l h =
        ap (word_at t) (sym (slot_of_word s (get_or R s 0) (omega arith))) ∙ reads t (word s (get_or R s 0)) (shape_good ta.shape) (word_some s (get_or R s 0) (omega arith)) (ta.to s l h)

-- the table that is made of the words of R's exceptions
pub made_table : {base low : ℕ} {R ws : List ℕ} → Sized base (length R) → Makable ws → ((x : ℕ) → (x ≡ 0 → ⊥) → Member ws x → Exception low R x)
    → ((s : ℕ) → s < length R → low + 15 ≤ get_or R s 0 → Member ws (word s (get_or R s 0))) → TableAt base low R (made base ws)
made_table {base} {low} {R} {ws} ok can from to = record {
  shape = made_shape ws ok can;
  from = λ x hx m. from x hx (made_from ws ok can x hx m);
  to = λ s l h. made_to ws ok can (word s (get_or R s 0)) (word_some s (get_or R s 0) (omega arith)) (to s l h);
}

-- ---- cur_min rises by one: the exceptions that stay
module _ {base low : ℕ} {R t : List ℕ} (ok : Sized base (length R)) (small : Small R) (ta : TableAt base low R t) where
  pub rise_words : Makable (keeps (suc low + 15) t)
  rise_words =
      makable (omega (arith, keeps_few (suc low + 15) t (omega arith), table_few ta ok.few, ok.few))
      (λ x m z. let r = keeps_from (suc low + 15) t x m in omega (arith, r.1)) (sifted_distinct _ slot t (no_slot_twice t (shape_good ta.shape)))

  pub table_rise : TableAt base (suc low) R (risen base (suc low) t)
  unfolding risen
  table_rise =
      made_table ok rise_words (λ x hx m. let r = keeps_from (suc low + 15) t x m in let e = ta.from x hx r.0 in record { inside = e.inside; right = e.right; high = omega (arith, r.1, e.right) })
      (λ s l h. keeps_to (suc low + 15) t (word s (get_or R s 0)) (ta.to s l (omega arith)) (omega (arith, value_of_word s (get_or R s 0) (omega (arith, ok.few)) (omega (arith, small s l)))))

  -- no longer than it was
  pub rise_shorter : length (risen base (suc low) t) ≤ length t
  unfolding risen
  rise_shorter =
      omega (arith, made_size (keeps (suc low + 15) t) ok rise_words, shape_size ta.shape, size_shorter base (length (keeps (suc low + 15) t)) (used t) (keeps_few (suc low + 15) t (omega arith)))

-- from low to low + n
pub table_climb : {base : ℕ} (low n : ℕ) {R : List ℕ} (t : List ℕ) → Sized base (length R) → Small R → TableAt base low R t
    → TableAt base (low + n) R (climbed base low n t) × (length (climbed base low n t) ≤ length t)
unfolding climbed
table_climb low zero t ok small ta = (rw (let z : low + 0 ≡ low = omega arith in z) ta, omega arith)
table_climb {base} low (suc n) {R} t ok small ta =
    let (r, l) = table_climb (suc low) n (risen base (suc low) t) ok small (table_rise ok small ta) in
    (rw (let z : low + suc n ≡ suc low + n = omega arith in z) r, omega (arith, rise_shorter ok small ta))
