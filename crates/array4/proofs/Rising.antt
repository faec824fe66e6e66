-- One rise, in record, bytes and area: the nibbles, and all of it where there is no exception. Assumes nothing.
use mathlib.Core.Path.{◌≡◌, refl, sym, ◌∙◌, ap, subst}
use mathlib.Core.Logic.{◌⊎◌, inl, inr}
use mathlib.Core.List.{List, []}
use Prim.Native.Nat.{ℕ, suc, ◌+◌, ◌*◌, ◌≤◌, ◌<◌}
use native.Mathlib.Numerals.{add-one}
use native.Mathlib.Omega.{arith}
use native.Mathlib.Decide.{dec_lt}
use lib.Dec.{eqb}
use lib.ListN.{length, get_or}
use borrow.Author.Tests.{lt-ltb, le-ltb}
use Rattle.model.specs.Coupon.{word}
use Rattle.model.specs.Registers.{least, count_of}
use Rattle.model.specs.Packed.{slot_at, unpacked}
use Rattle.model.specs.Table.{base_for, Member, Kept, used, laid, made}
use Rattle.model.specs.Four.{State, state, nibble, risen}
use Rattle.model.specs.Sketch.{sketch_of}
use Rattle.model.specs.declared.Sketch.{Sketch}
use Rattle.model.proofs.order.Tells.{tells_one, tells_as, tells_eq}
use Rattle.model.proofs.table.Members.{member_none}
use Rattle.model.proofs.table.Refill.{used_zeros}
use Rattle.model.proofs.packing.Packing.{length_unpacked, get_or_unpacked}
use Rattle.model.proofs.table.Sizes.{Sized}
use Rattle.model.proofs.table.Counting.{marks, marks_same, count_marks}
use Rattle.model.proofs.registers.Lowest.{least_le, least_most, below_least}
use Rattle.model.proofs.four.Tables.{table_rise, rise_shorter}
use Rattle.array4.specs.Held.{Holds}
use Rattle.array4.specs.Rise.{lowered, Lowerable, Lowered, Rose}
use Rattle.array4.proofs.Holding.{holds_sized}
use Rattle.model.proofs.table.Sifted.{sifted_none}

-- ---- a nibble, lowered
pub low_nibble : (low v : ℕ) → low < v → v < low + 15 → lowered (nibble low v) ≡ nibble (suc low) v
low_nibble low v h k = rw (lt-ltb (nibble low v) 15 (omega arith)) (omega arith)

pub high_nibble : (low v : ℕ) → low + 15 ≤ v → lowered (nibble low v) ≡ 15
high_nibble low v h = rw (le-ltb (nibble low v) 15 (omega arith)) (omega arith)

-- it is zero where the register is at the next cur_min
zero_nibble : (low v : ℕ) → low < v → eqb (lowered (nibble low v)) 0 ≡ eqb v (suc low)
zero_nibble low v h = go (dec_lt v (low + 15))
  where
    go : Dec (v < low + 15) → eqb (lowered (nibble low v)) 0 ≡ eqb v (suc low)
    go (yes k) = ap (λ (x : ℕ). eqb x 0) (low_nibble low v h k) ∙ tells_one _ _ (tells_eq (nibble (suc low) v) 0) (tells_as _ (λ e. omega arith) (λ e. omega arith) (tells_eq v (suc low)))
    go (no k) = ap (λ (x : ℕ). eqb x 0) (high_nibble low v (omega arith)) ∙ tells_one _ _ (tells_eq 15 0) (tells_as _ (λ e. omega arith) (λ e. omega arith) (tells_eq v (suc low)))

module _ {lgk : ℕ} {a : State} {s : Sketch} {regs aux : List ℕ} (h : Holds lgk a s regs aux) (none : s.num_at_cur_min ≡ 0) where
  ok : Sized (base_for lgk) (length a.regs)
  ok = holds_sized h

  pub rise_under : s.cur_min < least a.regs
  rise_under = below_least a.regs s.cur_min (holds_sized h).some h.small h.floor (sym h.tally ∙ none)

  pub rise_floor : (i : ℕ) → i < length a.regs → suc s.cur_min ≤ get_or a.regs i 0
  rise_floor i l = omega (arith, rise_under, least_le a.regs i l)

  pub rise_small : s.cur_min < 63
  rise_small = omega (arith, rise_under, least_most a.regs)

  pub lowerable : Lowerable regs
  lowerable = record {
    few = omega (arith, h.long, (holds_sized h).few);
    above = λ i l. let k : i < length a.regs = omega (arith, h.long) in omega (arith, h.slots i k, rise_floor i k);
  }

  module _ {mid : List ℕ} {num : ℕ} (l : Lowered regs mid num) where
    pub mid_slot : (i : ℕ) → i < length a.regs → slot_at 4 mid i ≡ lowered (nibble s.cur_min (get_or a.regs i 0))
    mid_slot i k = l.slots i (omega (arith, h.long)) ∙ ap lowered (h.slots i k)

    tally' : num ≡ count_of (suc s.cur_min) a.regs
    tally' =
        l.tally ∙ ap (λ (n : ℕ). count_of 0 (unpacked 4 n mid)) h.long ∙ count_marks 0 N ∙ ap (marks (λ i. eqb (get_or N i 0) 0)) (length_unpacked 4 (length a.regs) mid)
        ∙ marks_same _ (λ i. eqb (get_or a.regs i 0) (suc s.cur_min)) (length a.regs)
        (λ i k. ap (λ (x : ℕ). eqb x 0) (get_or_unpacked 4 (length a.regs) mid i k ∙ mid_slot i k) ∙ zero_nibble s.cur_min (get_or a.regs i 0) (rise_floor i k))
        ∙ sym (count_marks (suc s.cur_min) a.regs)
      where
        N : List ℕ
        N = unpacked 4 (length a.regs) mid

    -- all that is the same with a table and without
    pub rise_build : (left : ℕ) (fin aux' : List ℕ) → left ≡ used (risen (base_for lgk) (suc s.cur_min) a.table) → length fin ≡ length regs
        → ((i : ℕ) → i < length a.regs → slot_at 4 fin i ≡ nibble (suc s.cur_min) (get_or a.regs i 0)) → length aux' ≡ length aux
        → aux' ≡ laid (length aux) (risen (base_for lgk) (suc s.cur_min) a.table)
        → Rose lgk s.cur_min a (sketch_of s.kind s.lg_k (s.cur_min + 1) num left) fin aux'
    rise_build left fin aux' el ef slots ea area = record {
      next = add-one s.cur_min;
      holds = subst (λ (n : ℕ). Holds lgk (state a.regs t) (sketch_of s.kind s.lg_k n num left) fin aux') (sym (add-one s.cur_min)) (record {
        kind = h.kind;
        size = h.size;
        low = h.low;
        high = h.high;
        many = h.many;
        long = ap (λ (n : ℕ). 2 * n) ef ∙ h.long;
        floor = rise_floor;
        small = h.small;
        table = table_rise ok h.small h.table;
        tally = tally';
        counted = el;
        slots = slots;
        fits = omega (arith, rise_shorter ok h.small h.table, h.fits, ea);
        area = area ∙ ap (λ (n : ℕ). laid n t) (sym ea);
      });
    }
      where
        t : List ℕ
        t = risen (base_for lgk) (suc s.cur_min) a.table

    -- no exceptions
    pub rose_plain : s.aux_count ≡ 0 → Rose lgk s.cur_min a (sketch_of s.kind s.lg_k (s.cur_min + 1) num s.aux_count) mid aux
    unfolding risen
    rose_plain z =
        rise_build s.aux_count mid aux (z ∙ sym (ap used none' ∙ used_zeros 0)) l.long (λ i k. mid_slot i k ∙ low_nibble s.cur_min (get_or a.regs i 0) (rise_floor i k) (plain i k)) refl (h.area ∙ ap (laid (length aux)) (empty ∙ sym none'))
      where
        empty : a.table ≡ []
        empty = go h.table.shape
          where
            go : (a.table ≡ []) ⊎ ((0 < used a.table) × Kept (base_for lgk) a.table) → a.table ≡ []
            go (inl e) = e
            go (inr k) = absurd (omega (arith, k.0, h.counted))

        none' : risen (base_for lgk) (suc s.cur_min) a.table ≡ []
        none' = ap (risen (base_for lgk) (suc s.cur_min)) empty ∙ ap (made (base_for lgk)) (sifted_none _)

        plain : (i : ℕ) → i < length a.regs → get_or a.regs i 0 < s.cur_min + 15
        plain i k = go (dec_lt (get_or a.regs i 0) (s.cur_min + 15))
          where
            go : Dec (get_or a.regs i 0 < s.cur_min + 15) → get_or a.regs i 0 < s.cur_min + 15
            go (yes e) = e
            go (no e) = absurd (member_none _ (subst (λ (t : List ℕ). Member t (word i (get_or a.regs i 0))) empty (h.table.to i k (omega arith))))
