-- The loop of `build`: its invariant, as a record, and a turn. Assumes nothing.
use mathlib.Core.Path.{◌≡◌, refl, sym, ◌∙◌, ap, subst}
use mathlib.Core.Bool.{Bool, true, false}
use mathlib.Core.List.{List, ◌∷◌}
use Prim.Native.Nat.{ℕ, suc, ◌+◌, ◌-◌, ◌*◌, ◌≤◌, ◌<◌}
use native.Mathlib.Nat.{add-zero}
use native.Mathlib.Numerals.{add-one}
use native.Mathlib.Omega.{arith}
use lib.Dec.{leb}
use lib.ListN.{length, get_or, take, drop, replicate, length-replicate, length-drop}
use lib.Seq.{drop-append-add, drop-drop, drop-cons, get_or-drop}
use borrow.Author.Tests.{leb-false}
use Rattle.model.specs.Pick.{pick}
use Rattle.model.specs.Coupon.{slot}
use Rattle.model.specs.Table.{Kept, word_at, used, replace, insert, inserts, made, laid, size_for, table_size, Makable}
use Rattle.model.proofs.table.Refill.{used_zeros}
use Rattle.model.proofs.table.Order.{length_replace}
use Rattle.model.proofs.table.Grown.{zeros_none, zeros_good, used_fresh}
use Rattle.model.proofs.table.Inserted.{kept_size, kept_room, size_fits, size_doubles}
use Rattle.model.proofs.table.Inserts.{Insertables, prefix, prefix_used, inserts_more, size_mono, size_base, next_some, next_absent}
use Rattle.aux_map.specs.Sizes.{Based}
use Rattle.aux_map.specs.Grow.{over, scratched, Insertable, Inserted}
use Rattle.aux_table.specs.Build.{Buildable}
use Rattle.aux_table.proofs.Laid.{take_laid, over_laid, laid_made, laid_zeros}
use Rattle.aux_table.proofs.Sizing.{size_some, size_zero}

-- the table after n of the words
abbrev after : ℕ → List ℕ → ℕ → List ℕ
after base ws n = inserts (replicate base 0) (take n ws)

-- after count of the words ws: the table is in the area of so much room, and the others stand in the scratch from j on
pub record Turn (base top room : ℕ) (ws area scratch : List ℕ) (size count j : ℕ) : Type 0 where
  pub at : top + count ≡ j
  pub upto : count ≤ length ws
  pub long : length scratch ≡ top + length ws
  pub wide : length area ≡ room
  pub sized : size ≡ length (after base ws count)
  pub table : area ≡ laid room (made base (take count ws))
  pub rest : drop j scratch ≡ drop count ws

-- a new table, of the base's size, is as it is kept
pub new_kept : (base : ℕ) → Based base → Kept base (replicate base 0)
new_kept base based = record {
  lg = based.lg;
  power = length-replicate base 0 ∙ based.power;
  sized = length-replicate base 0 ∙ sym (ap (size_for base) (used_zeros base) ∙ size_zero base based.four);
  load = omega (arith, used_zeros base);
  good = zeros_good base;
}

-- the words can be inserted into it
module _ (base : ℕ) (ws : List ℕ) (based : Based base) (words : Makable ws) where
  start : Insertables base (replicate base 0) ws
  start = record {
    four = based.four;
    kept = new_kept base based;
    few = omega (arith, used_zeros base, words.few);
    some = words.some;
    distinct = λ i j li lj hi hj e. words.distinct i j li lj e;
    apart = λ x y hx mx my e. zeros_none base x hx mx;
  }

  module _ (n : ℕ) (upto : n ≤ length ws) where
    ok_after : Insertables base (after base ws n) (drop n ws)
    ok_after = prefix base n (replicate base 0) ws start upto

    used_after : used (after base ws n) ≡ n
    used_after = prefix_used base n (replicate base 0) ws start upto ∙ omega (arith, used_zeros base)

    length_after : length (after base ws n) ≡ size_for base n
    length_after = ok_after.kept.sized ∙ ap (size_for base) used_after

module _ (area₀ scratch₀ : List ℕ) (base top : ℕ) (ok : Buildable area₀ scratch₀ base top) where
  pub turn_none : Turn base top (length area₀) (drop top scratch₀) area₀ scratch₀ base 0 top
  unfolding inserts
  turn_none = record {
    at = add-zero top;
    upto = omega arith;
    long = omega (arith, length-drop top scratch₀, ok.within);
    wide = refl;
    sized = sym (length-replicate base 0);
    table = ok.clean ∙ sym (laid_zeros (length area₀) 0 (omega arith));
    rest = refl;
  }

  pub spared_sum : table_size base (length (drop top scratch₀)) ≤ top + length (drop top scratch₀)
  spared_sum = omega (arith, ok.spared, length-drop top scratch₀, ok.within)

-- a turn, over the words, the room and the length of the scratch
module _ (base top room : ℕ) (ws : List ℕ) (based : Based base) (words : Makable ws) (fits : table_size base (length ws) ≤ room) (spared : table_size base (length ws) ≤ top + length ws)
    (area scratch : List ℕ) (size count j : ℕ) (turn : Turn base top room ws area scratch size count j) (more : j < length scratch) where
  count_lt : count < length ws
  count_lt = omega (arith, turn.at, turn.long)

  final : table_size base (length ws) ≡ size_for base (length ws)
  final = size_some base (length ws) (omega (arith, count_lt))

  base_fits : base ≤ room
  base_fits = omega (arith, size_base base (length ws), final, fits)

  ok_now : Insertables base (after base ws count) (drop count ws)
  ok_now = ok_after base ws based words count turn.upto

  used_now : used (after base ws count) ≡ count
  used_now = used_after base ws based words count turn.upto

  size_now : size ≡ size_for base count
  size_now = turn.sized ∙ length_after base ws based words count turn.upto

  laid_now : area ≡ laid room (after base ws count)
  laid_now = turn.table ∙ sym (laid_made room base (take count ws) base_fits)

  table_now : take size area ≡ after base ws count
  table_now = ap (take size) laid_now ∙ take_laid room size _ turn.sized

  size_upto : size ≤ size_for base (length ws)
  size_upto = omega (arith, size_now, size_mono base count (length ws) turn.upto)

  next_upto : size_for base (suc count) ≤ size_for base (length ws)
  next_upto = size_mono base (suc count) (length ws) count_lt

  twice_upto : 3 * size < 4 * (count + 1) → size + size ≤ size_for base (length ws)
  twice_upto h =
      let twice : size_for base (suc count) ≡ size_for base count + size_for base count =
      size_doubles base count (omega (arith, words.few, count_lt)) based.four (omega (arith, words.few, count_lt)) (omega (arith, ok_now.kept.load, used_now, turn.sized, size_now)) (omega (arith, size_now)) in
      omega (arith, twice, size_now, next_upto)

  word_is : get_or scratch j 0 ≡ get_or ws count 0
  word_is =
      ap (λ (k : ℕ). get_or scratch k 0) (sym (add-zero j)) ∙ sym (get_or-drop j scratch 0 0) ∙ ap (λ (l : List ℕ). get_or l 0 0) turn.rest
      ∙ get_or-drop count ws 0 0 ∙ ap (λ (k : ℕ). get_or ws k 0) (add-zero count)

  ok_head : Insertables base (after base ws count) (get_or scratch j 0 ∷ drop (suc count) ws)
  ok_head =
      subst (Insertables base (after base ws count)) (drop-cons ws count 0 count_lt ∙ ap (λ (x : ℕ). x ∷ drop (suc count) ws) (sym word_is)) ok_now

  pub insertable : Insertable area scratch size count (get_or scratch j 0)
  insertable = record {
    lg = ok_now.kept.lg;
    power = turn.sized ∙ ok_now.kept.power;
    four = omega (arith, turn.sized, kept_size base _ ok_now.kept based.four);
    load = omega (arith, ok_now.kept.load, used_now, turn.sized);
    counted = ap used table_now ∙ used_now;
    absent = ap (λ (l : List ℕ). word_at l (slot (get_or scratch j 0))) table_now ∙ next_absent base _ _ _ ok_head;
    some = next_some base _ _ _ ok_head;
    fits = omega (arith, size_upto, final, fits, turn.wide);
    wider = λ h. omega (arith, twice_upto h, final, fits, turn.wide);
    spared = λ h. omega (arith, size_upto, final, spared, turn.long);
  }

  -- the front of the scratch that growth uses ends before the words that are left
  before_rest : 3 * size < 4 * (count + 1) → size ≤ j + 1
  before_rest h = omega (arith, turn.at, size_upto, final, spared, size_fits base (length ws) words.few based.four)

  one_more : used (replace (after base ws count) (get_or scratch j 0)) ≡ count + 1
  one_more = used_fresh _ _ (kept_room base _ ok_now.kept based.four) (next_some base _ _ _ ok_head) (next_absent base _ _ _ ok_head) ∙ omega (arith, used_now)

  kept_rest : drop (j + 1) (scratched (replace (after base ws count) (get_or scratch j 0)) scratch) ≡ drop (j + 1) scratch
  unfolding scratched
  kept_rest = go (leb (4 * used (replace (after base ws count) (get_or scratch j 0))) (3 * length (replace (after base ws count) (get_or scratch j 0)))) refl
    where
      drop_over : (t : List ℕ) → length t ≤ j + 1 → drop (j + 1) (over t scratch) ≡ drop (j + 1) scratch
      drop_over t h =
          let e : j + 1 ≡ length t + (j + 1 - length t) = omega arith in
          ap (λ (k : ℕ). drop k (over t scratch)) e ∙ drop-append-add t (drop (length t) scratch) (j + 1 - length t) ∙ drop-drop (j + 1 - length t) (length t) scratch ∙ ap (λ (k : ℕ). drop k scratch) (sym e)

      go : (b : Bool) → leb (4 * used (replace (after base ws count) (get_or scratch j 0))) (3 * length (replace (after base ws count) (get_or scratch j 0))) ≡ b
          → drop (j + 1) (pick b scratch (over (replace (after base ws count) (get_or scratch j 0)) scratch)) ≡ drop (j + 1) scratch
      go true q = refl
      go false q =
          let long = length_replace (after base ws count) (get_or scratch j 0) in
          let full = leb-false (4 * used (replace (after base ws count) (get_or scratch j 0))) (3 * length (replace (after base ws count) (get_or scratch j 0))) q in
          drop_over (replace (after base ws count) (get_or scratch j 0)) (omega (arith, before_rest (omega (arith, full, one_more, long, turn.sized)), long, turn.sized))

  inserted : insert (take size area) (get_or scratch j 0) ≡ after base ws (count + 1)
  inserted =
      ap (λ (l : List ℕ). insert l (get_or scratch j 0)) table_now ∙ ap (insert (after base ws count)) word_is ∙ sym (inserts_more (replicate base 0) ws count count_lt)
      ∙ ap (after base ws) (sym (add-one count))

  long_next : length (after base ws (count + 1)) ≡ size_for base (suc count)
  long_next = ap (λ (n : ℕ). length (after base ws n)) (add-one count) ∙ length_after base ws based words (suc count) count_lt

  pub turn_more : (area' scratch' : List ℕ) (size' : ℕ) → length area' ≡ length area → length scratch' ≡ length scratch
      → Inserted area scratch size (get_or scratch j 0) size' area' scratch' → Turn base top room ws area' scratch' size' (count + 1) (j + 1)
  turn_more area' scratch' size' la ls done = record {
    at = omega (arith, turn.at);
    upto = omega (arith, count_lt);
    long = ls ∙ turn.long;
    wide = la ∙ turn.wide;
    sized = done.long ∙ ap length inserted;
    table =
        done.table ∙ ap (λ (l : List ℕ). over l area) inserted ∙ ap (over (after base ws (count + 1))) laid_now
        ∙ over_laid room (after base ws count) (after base ws (count + 1)) (omega (arith, long_next, size_mono base count (suc count) (omega arith), size_now, turn.sized)) (omega (arith, long_next, next_upto, final, fits))
        ∙ laid_made room base (take (count + 1) ws) base_fits;
    rest =
        ap (drop (j + 1)) (done.rest ∙ ap (λ (l : List ℕ). scratched (replace l (get_or scratch j 0)) scratch) table_now) ∙ kept_rest
        ∙ sym (drop-drop 1 j scratch) ∙ ap (drop 1) turn.rest ∙ drop-drop 1 count ws;
  }
