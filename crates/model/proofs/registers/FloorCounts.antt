-- Floors and words, counted: each word moves one register from its floor, which is cur_min + 15, to the word's value. Assumes nothing.
use mathlib.Core.Path.{◌≡◌, refl, sym, ap, ◌∙◌, subst}
use mathlib.Core.Bool.{Bool, true, false}
use mathlib.Core.Logic.{◌⊎◌, inl, inr}
use mathlib.Core.List.{List, [], ◌∷◌, map}
use Prim.Native.Nat.{ℕ, zero, suc, ◌+◌, ◌^◌, ◌≤◌, ◌<◌, zero-le, suc-le-suc}
use native.Mathlib.Nat.{not-suc-le-zero, le_of_suc-le-suc, mod-eq_of_lt}
use native.Mathlib.Omega.{arith}
use lib.Dec.{eqb}
use lib.ListN.{length, get_or, set}
use Rattle.model.specs.Pick.{pick}
use Rattle.model.specs.Coupon.{value, slot, home}
use Rattle.model.specs.Registers.{raise, fed, least, count_of}
use Rattle.model.specs.Packed.{slot_at}
use Rattle.model.specs.Table.{base_for, used, keeps, Kept}
use Rattle.model.specs.Four.{Exception}
use Rattle.model.specs.Sketch.{cells, floors, table_in, registers, Good}
use Rattle.model.specs.declared.Sketch.{Sketch}
use Rattle.model.proofs.packing.Packing.{get_or_unpacked}
use Rattle.model.proofs.table.Order.{no_slot_twice}
use Rattle.model.proofs.table.Grown.{Distinct}
use Rattle.model.proofs.table.Sifted.{keeps_from, keeps_to, sifted_distinct}
use Rattle.model.proofs.calls.Has.{registers_long}
use Rattle.model.proofs.four.FourGood as four
use Rattle.model.proofs.registers.Raising.{length_raise, raise_other}
use Rattle.model.proofs.image.Entries.{Apart}
use Rattle.model.proofs.registers.Floors.{Floored, fed_floors, floored_as, good_floored, floors_at, word_value}

-- one register changed
count_set : (v : ℕ) (L : List ℕ) (s x : ℕ) → s < length L → count_of v (set L s x) + pick (eqb (get_or L s 0) v) 1 0 ≡ count_of v L + pick (eqb x v) 1 0
unfolding count_of
count_set v [] s x h = absurd (not-suc-le-zero h)
count_set v (y ∷ L) zero x h = go (eqb y v) (eqb x v)
  where
    go : (a b : Bool) → pick b (suc (count_of v L)) (count_of v L) + pick a 1 0 ≡ pick a (suc (count_of v L)) (count_of v L) + pick b 1 0
    go true true = refl
    go true false = omega arith
    go false true = omega arith
    go false false = refl
count_set v (y ∷ L) (suc s) x h = go (eqb y v) (count_set v L s x (le_of_suc-le-suc h))
  where
    go : (a : Bool) → count_of v (set L s x) + pick (eqb (get_or L s 0) v) 1 0 ≡ count_of v L + pick (eqb x v) 1 0
        → pick a (suc (count_of v (set L s x))) (count_of v (set L s x)) + pick (eqb (get_or L s 0) v) 1 0 ≡ pick a (suc (count_of v L)) (count_of v L) + pick (eqb x v) 1 0
    go true e = omega arith
    go false e = e

raise_set : (L : List ℕ) (s x : ℕ) → get_or L s 0 ≤ x → raise L s x ≡ set L s x
unfolding raise
raise_set L s x h = ap (λ (y : ℕ). set L s y) (omega arith)

-- words of different slots, each for a register of L that is at top, none below it
pub record Tops (k top : ℕ) (L es : List ℕ) : Type 0 where
  pub inside : (i : ℕ) → i < length es → home k (get_or es i 0) < length L
  pub top_is : (i : ℕ) → i < length es → get_or L (home k (get_or es i 0)) 0 ≡ top
  pub high : (i : ℕ) → i < length es → top ≤ value (get_or es i 0)
  pub apart : Apart k es

-- of each value so many: the words move so many registers away from top, and one to each one's value
pub moves : (k top v : ℕ) (es L : List ℕ) → Tops k top L es → count_of v (fed k L es) + pick (eqb top v) (length es) 0 ≡ count_of v L + count_of v (map value es)
unfolding fed count_of
moves k top v [] L t = go (eqb top v)
  where
    go : (a : Bool) → count_of v L + pick a 0 0 ≡ count_of v L + 0
    go true = refl
    go false = refl
moves k top v (w ∷ es) L t = go (eqb top v) (eqb (value w) v) step (moves k top v es (raise L (home k w) (value w)) tops)
  where
    stored : raise L (home k w) (value w) ≡ set L (home k w) (value w)
    stored = raise_set L (home k w) (value w) (omega (arith, t.top_is 0 (suc-le-suc zero-le), t.high 0 (suc-le-suc zero-le)))

    step : count_of v (raise L (home k w) (value w)) + pick (eqb top v) 1 0 ≡ count_of v L + pick (eqb (value w) v) 1 0
    step = rw stored (subst (λ (x : ℕ). count_of v (set L (home k w) (value w)) + pick (eqb x v) 1 0 ≡ count_of v L + pick (eqb (value w) v) 1 0) (t.top_is 0 (suc-le-suc zero-le)) (count_set v L (home k w) (value w) (t.inside 0 (suc-le-suc zero-le))))

    other : (i : ℕ) → i < length es → home k w ≡ home k (get_or es i 0) → ⊥
    other i l e = let z : zero ≡ suc i = t.apart 0 (suc i) (suc-le-suc zero-le) (suc-le-suc l) e in omega arith

    tops : Tops k top (raise L (home k w) (value w)) es
    tops = record {
      inside = λ i l. rw (length_raise L (home k w) (value w)) (t.inside (suc i) (suc-le-suc l));
      top_is = λ i l. raise_other L (home k w) (home k (get_or es i 0)) (value w) (other i l) ∙ t.top_is (suc i) (suc-le-suc l);
      high = λ i l. t.high (suc i) (suc-le-suc l);
      apart = λ i j li lj e. let z : suc i ≡ suc j = t.apart (suc i) (suc j) (suc-le-suc li) (suc-le-suc lj) e in omega arith;
    }

    go : (a b : Bool) → count_of v (raise L (home k w) (value w)) + pick a 1 0 ≡ count_of v L + pick b 1 0
        → count_of v (fed k (raise L (home k w) (value w)) es) + pick a (length es) 0 ≡ count_of v (raise L (home k w) (value w)) + count_of v (map value es)
        → count_of v (fed k (raise L (home k w) (value w)) es) + pick a (suc (length es)) 0 ≡ count_of v L + pick b (suc (count_of v (map value es))) (count_of v (map value es))
    go true true p q = omega arith
    go true false p q = omega arith
    go false true p q = omega arith
    go false false p q = omega arith

-- the registers of floors and words, counted
counted_floors : {b top : ℕ} {R F es : List ℕ} → Floored b R F es → Tops (2 ^ b) top F es → (v : ℕ) → count_of v R + pick (eqb top v) (length es) 0 ≡ count_of v F + count_of v (map value es)
counted_floors {b} {top} {R} {F} {es} f t v = subst (λ (x : List ℕ). count_of v x + pick (eqb top v) (length es) 0 ≡ count_of v F + count_of v (map value es)) (fed_floors f) (moves (2 ^ b) top v es F t)

-- ---- a kind 4 sketch in good order: its table's words that are not empty
module _ (s : Sketch) (regs aux : List ℕ) (g : Good s regs aux) (e : s.kind ≡ 4) where
  abbrev R : List ℕ
  R = registers s regs aux

  abbrev es : List ℕ
  es = keeps 1 (table_in s aux)

  words_floored : Floored s.lg_k R (floors s regs) es
  words_floored = floored_as (good_floored s regs aux g) (λ w m h. (w, keeps_to 1 (table_in s aux) w m h, refl, refl)) (λ u m h. (u, (keeps_from 1 (table_in s aux) u m).0, refl, refl))

  exception : (i : ℕ) → i < length es → Exception (least R) R (get_or es i 0)
  exception i l =
      let m = keeps_from 1 (table_in s aux) (get_or es i 0) (i, l, refl) in
      (four.table s regs aux e g).from (get_or es i 0) (λ z. let v : value (get_or es i 0) ≡ 0 = rw z in omega (arith, m.1)) m.0

  inside : (i : ℕ) → i < length es → slot (get_or es i 0) < 2 ^ s.lg_k
  inside i l = rw (← registers_long s regs aux g) (exception i l).inside

  home_slot : (i : ℕ) → i < length es → home (2 ^ s.lg_k) (get_or es i 0) ≡ slot (get_or es i 0)
  home_slot i l = mod-eq_of_lt (inside i l)

  distinct : Distinct (table_in s aux)
  distinct = go (four.table s regs aux e g).shape
    where
      go : (table_in s aux ≡ []) ⊎ ((0 < used (table_in s aux)) × Kept (base_for s.lg_k) (table_in s aux)) → Distinct (table_in s aux)
      go (inl z) = λ i j li. absurd (not-suc-le-zero (rw z at li))
      go (inr k) = no_slot_twice (table_in s aux) k.1.good

  words_top : Tops (2 ^ s.lg_k) (s.cur_min + 15) (floors s regs) es
  unfolding cells
  words_top = record {
    inside = λ i l. rw (home_slot i l, words_floored.long) (inside i l);
    top_is = λ i l.
        let n = slot (get_or es i 0) in
        let d = inside i l in
        let cell : get_or (cells s regs) n 0 ≡ slot_at 4 regs n = get_or_unpacked s.kind (2 ^ s.lg_k) regs n d ∙ rw e in
        let x = exception i l in
        let nib = four.nibble_is s regs aux e g n x.inside in
        let low = four.low_is s regs aux e g in
        let tall = x.high in
        let is = floors_at s regs aux g n d in
        rw (home_slot i l) (omega arith);
    high = λ i l.
        let x = exception i l in
        let v : value (get_or es i 0) ≡ get_or R (slot (get_or es i 0)) 0 = ap value x.right ∙ word_value s regs aux g e (slot (get_or es i 0)) (inside i l) in
        omega (arith, v, x.high, four.low_is s regs aux e g);
    apart = λ i j li lj q.
        let some : (n : ℕ) → n < length es → get_or es n 0 ≡ 0 → ⊥ = λ n l z. let v : value (get_or es n 0) ≡ 0 = rw z in omega (arith, (keeps_from 1 (table_in s aux) (get_or es n 0) (n, l, refl)).1) in
        sifted_distinct _ slot (table_in s aux) distinct i j li lj (some i li) (some j lj) (sym (home_slot i li) ∙ q ∙ home_slot j lj);
  }

  pub counts_moved : (v : ℕ) → count_of v (registers s regs aux) + pick (eqb (s.cur_min + 15) v) (length (keeps 1 (table_in s aux))) 0 ≡ count_of v (floors s regs) + count_of v (map value (keeps 1 (table_in s aux)))
  counts_moved v = counted_floors words_floored words_top v

  -- where there is a word, its floor is a register's value
  pub floor_small : 0 < length (keeps 1 (table_in s aux)) → s.cur_min + 15 < 64
  floor_small l = omega (arith, words_top.high 0 l)
