-- One rise where there are exceptions: what `shift_to_bigger_cur_min` hands to `free` and `rebuild`, and what they leave. Assumes nothing.
use mathlib.Core.Path.{◌≡◌, refl, sym, ◌∙◌, ap, ap₂, subst, subst₂}
use mathlib.Core.Logic.{◌⊎◌, inl, inr}
use mathlib.Core.List.{List, []}
use Prim.Native.Nat.{ℕ, suc, ◌+◌, ◌^◌, ◌≤◌, ◌<◌}
use native.Mathlib.Omega.{arith}
use native.Mathlib.Decide.{ℕ_discrete, dec_lt}
use lib.ListN.{length, get_or, take}
use lib.Seq.{length-take-le}
use Rattle.model.specs.Coupon.{slot, value}
use Rattle.model.specs.Packed.{slot_at}
use Rattle.model.specs.Table.{base_for, table_size, Kept, used, keeps, made, laid}
use Rattle.model.specs.Four.{State, nibble, risen}
use Rattle.model.specs.Sketch.{sketch_of}
use Rattle.model.specs.declared.Sketch.{Sketch}
use Rattle.model.proofs.table.Search.{slot_of_word, value_of_word}
use Rattle.model.proofs.table.Refill.{used_zeros}
use Rattle.model.proofs.table.Sifted.{keeps_few}
use Rattle.model.proofs.table.Shape.{shape_size}
use Rattle.model.proofs.table.Made.{made_used}
use Rattle.model.proofs.four.Tables.{table_few, rise_words}
use Rattle.aux_map.proofs.Bases.{based}
use Rattle.aux_table.specs.Build.{Rebuildable, Rebuilt}
use Rattle.aux_table.proofs.Requires.{rebuild_met}
use Rattle.array4.specs.Held.{Holds}
use Rattle.array4.specs.Rise.{Lowered, Freeable, Freed, Rose}
use Rattle.array4.proofs.Holding.{holds_sized, holds_count, holds_front}
use Rattle.array4.proofs.Rising.{low_nibble, high_nibble, rise_floor, mid_slot, rise_build}

module _ {lgk : ℕ} {a : State} {s : Sketch} {regs aux : List ℕ} (h : Holds lgk a s regs aux) (none : s.num_at_cur_min ≡ 0) {mid : List ℕ} {num : ℕ} (l : Lowered regs mid num)
    (base size : ℕ) (eb : base ≡ base_for lgk) (es : size ≡ table_size base s.aux_count) where
  front : take size aux ≡ a.table
  front = holds_front h size (es ∙ ap (λ (n : ℕ). table_size n s.aux_count) eb)

  size_is : size ≡ length a.table
  size_is = es ∙ ap₂ table_size eb h.counted ∙ sym (shape_size h.table.shape)

  pub rise_fits : size ≤ length aux
  rise_fits = omega (arith, size_is, h.fits)

  pub rise_part : size ≡ length (take size aux)
  rise_part = sym (length-take-le size aux rise_fits)

  -- a word that is freed is of a slot that there is
  pub freeable : (v : ℕ) → 0 < v → Freeable (take size aux) v mid
  freeable v pos = subst (λ (t : List ℕ). Freeable t v mid) (sym front) (record {
    inside = λ p k e. let x = h.table.from (get_or a.table p 0) (λ z. omega arith) (p, k, refl) in omega (arith, x.inside, h.long, l.long);
  })

  pub rebuildable : (s.aux_count ≡ 0 → ⊥) → (scratch : List ℕ) → length aux ≤ length scratch → (limit : ℕ) → 0 < limit → Rebuildable aux scratch base size limit
  rebuildable some scratch spare limit above =
      subst₂ (λ (n m : ℕ). Rebuildable aux scratch n m limit) (sym eb) (sym size_is)
      (rebuild_met (base_for lgk) s.cur_min a.regs a.table (based lgk (omega (arith, h.low)) (omega (arith, h.high))) (omega (arith, (holds_sized h).few)) h.table aux scratch h.fits h.area spare
      (get_or a.table 0 0) limit (0, pos, refl) (omega (arith, h.counted, holds_count h)) above)
    where
      pos : 0 < length a.table
      pos = go h.table.shape
        where
          go : (a.table ≡ []) ⊎ ((0 < used a.table) × Kept (base_for lgk) a.table) → 0 < length a.table
          go (inl e) = absurd (some (h.counted ∙ ap used e ∙ used_zeros 0))
          go (inr k) = omega (arith, k.0, k.1.load)

  module _ {limit left : ℕ} {aux' : List ℕ} (r : Rebuilt aux base size limit left aux') where
    pub left_few : 0 < limit → left ≤ 2 ^ 21
    left_few pos = omega (arith, r.left, ap (λ (t : List ℕ). length (keeps limit t)) front, keeps_few limit a.table pos, table_few h.table (holds_sized h).few, (holds_sized h).few)

    -- the words of value low + 15 are freed, and those above it kept
    module _ {v : ℕ} {fin : List ℕ} (freed : Freed (take size aux) v (length (take size aux)) mid fin) (ev : v ≡ s.cur_min + 15) (el : limit ≡ suc s.cur_min + 15) where
      f : Freed a.table (s.cur_min + 15) (length a.table) mid fin
      f = subst₂ (λ (t : List ℕ) (n : ℕ). Freed t n (length t) mid fin) front ev freed

      pub rose_table : length aux' ≡ length aux
          → Rose lgk s.cur_min a (sketch_of s.kind s.lg_k (s.cur_min + 1) num left) fin aux'
      unfolding risen
      rose_table ea =
          rise_build h none l left fin aux' (r.left ∙ ap₂ (λ (n : ℕ) (t : List ℕ). length (keeps n t)) el front ∙ sym (made_used (keeps (suc s.cur_min + 15) a.table) (holds_sized h) (rise_words (holds_sized h) h.small h.table))) (freed.long ∙ l.long) slots ea
          (r.table ∙ ap₂ (λ (n : ℕ) (t : List ℕ). laid (length aux) (made base (keeps n t))) el front ∙ ap (λ (n : ℕ). laid (length aux) (made n (keeps (suc s.cur_min + 15) a.table))) eb)
        where
          slots : (i : ℕ) → i < length a.regs → slot_at 4 fin i ≡ nibble (suc s.cur_min) (get_or a.regs i 0)
          slots i k = go (ℕ_discrete (get_or a.regs i 0) (s.cur_min + 15))
            where
              other : (get_or a.regs i 0 ≡ s.cur_min + 15 → ⊥) → (p : ℕ) → p < length a.table → value (get_or a.table p 0) ≡ s.cur_min + 15 → slot (get_or a.table p 0) ≡ i → ⊥
              other n p q e z =
                  let x = h.table.from (get_or a.table p 0) (λ y. omega arith) (p, q, refl) in
                  let v : value (get_or a.table p 0) ≡ get_or a.regs (slot (get_or a.table p 0)) 0 =
                  ap value x.right ∙ value_of_word _ _ (omega (arith, x.inside, (holds_sized h).few)) (omega (arith, h.small _ x.inside)) in
                  n (ap (λ (j : ℕ). get_or a.regs j 0) (sym z) ∙ sym v ∙ e)

              kept : (get_or a.regs i 0 ≡ s.cur_min + 15 → ⊥) → Dec (get_or a.regs i 0 < s.cur_min + 15) → slot_at 4 mid i ≡ nibble (suc s.cur_min) (get_or a.regs i 0)
              kept n (yes q) = mid_slot h none l i k ∙ low_nibble s.cur_min (get_or a.regs i 0) (rise_floor h none i k) q
              kept n (no q) = mid_slot h none l i k ∙ high_nibble s.cur_min (get_or a.regs i 0) (omega arith) ∙ above (dec_lt (s.cur_min + 15) (get_or a.regs i 0))
                where
                  above : Dec (s.cur_min + 15 < get_or a.regs i 0) → 15 ≡ nibble (suc s.cur_min) (get_or a.regs i 0)
                  above (yes z) = omega arith
                  above (no z) = absurd (n (omega arith))

              go : Dec (get_or a.regs i 0 ≡ s.cur_min + 15) → slot_at 4 fin i ≡ nibble (suc s.cur_min) (get_or a.regs i 0)
              go (yes e) =
                  let m = h.table.to i k (omega arith) in
                  let there : slot (get_or a.table m.0 0) ≡ i = ap slot m.2 ∙ slot_of_word i (get_or a.regs i 0) (omega (arith, (holds_sized h).few)) in
                  let v : value (get_or a.table m.0 0) ≡ s.cur_min + 15 = ap value m.2 ∙ value_of_word i (get_or a.regs i 0) (omega (arith, (holds_sized h).few)) (omega (arith, h.small i k)) ∙ e in
                  ap (slot_at 4 fin) (sym there) ∙ f.moved m.0 m.1 v ∙ omega arith
              go (no e) = f.left i (other e) ∙ kept e (dec_lt (get_or a.regs i 0) (s.cur_min + 15))
