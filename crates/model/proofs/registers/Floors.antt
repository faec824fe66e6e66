-- Floors and words: to pour in a sketch's floors and then to feed its exception words, as if they were coupons, is to pour in its registers.
-- Assumes nothing.
use mathlib.Core.Path.{◌≡◌, sym, ap, ◌∙◌, subst}
use mathlib.Core.Logic.{◌⊎◌, inl, inr, ⊎_elim}
use mathlib.Core.List.Memᴰ
use mathlib.Core.List.{List, [], ◌∷◌, Memᴰ}
use Prim.Native.Nat.{ℕ, max, ◌+◌, ◌%◌, ◌^◌, ◌≤◌, ◌<◌}
use native.Mathlib.Nat.{le_trans, zero-add, mod-lt, mod-eq_of_lt}
use native.Mathlib.Decide.{ℕ_discrete, dec_lt}
use native.Mathlib.Omega.{arith}
use lib.ListN.{length, get_or, length-map}
use lib.Seq.{ext_get_or}
use lib.Pow.{pow_pos}
use borrow.Author.Tests.{ne_eqb}
use Rattle.model.specs.Coupon.{value, slot, home, word}
use Rattle.model.specs.Registers.{fed, joined, least, largest}
use Rattle.model.specs.Packed.{slot_at}
use Rattle.model.specs.Table.{Member}
use Rattle.model.specs.Sketch.{low_of, record_of, cells, floors, table_in, registers, Good}
use Rattle.model.specs.declared.Sketch.{Sketch}
use Rattle.model.proofs.table.Members.{member_head, member_tail, member_cases, member_none}
use Rattle.model.proofs.packing.Packing.{get_or_unpacked}
use Rattle.model.proofs.registers.Lowest.{least_le}
use Rattle.model.proofs.registers.Raising.{length_fed, length_poured}
use Rattle.model.proofs.table.Search.{slot_of_word, value_of_word}
use Rattle.model.proofs.order.Tests.{cells_long}
use Rattle.model.proofs.image.Taken.{map_at}
use Rattle.model.proofs.order.Plain.{plain_cells}
use Rattle.model.proofs.calls.Has.{registers_long}
use Rattle.model.proofs.registers.Largest.{fed_at, most, poured_at, largest_above, largest_least, most_above, most_least, home_home}
use Rattle.model.proofs.four.FourGood as four

-- R, of 2 ^ b registers, is F and the words of ws: no floor is above its register, and one that is below it has a word; no word says more
-- than its register is. An empty word says nothing, so ws may have any number of them, and its words stand in any order.
pub record Floored (b : ℕ) (R F ws : List ℕ) : Type 0 where
  pub many : length R ≡ 2 ^ b
  pub long : length F ≡ 2 ^ b
  pub under : (n : ℕ) → n < 2 ^ b → get_or F n 0 ≤ get_or R n 0
  pub meets : (n : ℕ) → n < 2 ^ b → (get_or F n 0 ≡ get_or R n 0) ⊎ ((w : ℕ) × Member ws w × (home (2 ^ b) w ≡ n) × (value w ≡ get_or R n 0))
  pub says : (w : ℕ) → Member ws w → value w ≤ get_or R (home (2 ^ b) w) 0

-- ---- a word of a list, the two ways it is spoken of
mem : (w : ℕ) (ws : List ℕ) → Member ws w → Memᴰ w ws
mem w [] m = absurd (member_none w m)
mem w (x ∷ ws) m = ⊎_elim (λ (e : w ≡ x). Memᴰ.head e) (λ (n : Member ws w). Memᴰ.tail (mem w ws n)) (member_cases x w ws m)

member : (w : ℕ) (ws : List ℕ) → Memᴰ w ws → Member ws w
member w [] m = absurd (Memᴰ.not-nil m)
member w (x ∷ ws) m =
    ⊎_elim (λ (e : w ≡ x). subst (Member (x ∷ ws)) (sym e) (member_head x ws)) (λ (n : Memᴰ w ws). member_tail x w ws (member w ws n)) (Memᴰ.cases_cons m)

-- ---- the law
module _ (a b : ℕ) {R F ws : List ℕ} (f : Floored b R F ws) (le : a ≤ b) where
  -- where source slot n goes, and where a word goes
  goes : (w n i : ℕ) → home (2 ^ b) w ≡ n → (0 + n) % 2 ^ a ≡ i → home (2 ^ a) w ≡ i
  goes w n i q e = sym (home_home a b w le) ∙ ap (λ (x : ℕ). x % 2 ^ a) (q ∙ sym (zero-add n)) ∙ e

  most_is : (i : ℕ) → max (most (2 ^ a) i 0 F) (largest (2 ^ a) i ws) ≡ most (2 ^ a) i 0 R
  most_is i =
      let up : most (2 ^ a) i 0 R ≤ max (most (2 ^ a) i 0 F) (largest (2 ^ a) i ws) =
      most_least (2 ^ a) i 0 R _ (λ n h e.
      let l : n < 2 ^ b = rw (← f.many) h in
      ⊎_elim
      (λ (q : get_or F n 0 ≡ get_or R n 0). omega (arith, most_above (2 ^ a) i 0 F n (rw f.long l) e))
      (λ (w, m, q, v). omega (arith, v, largest_above (2 ^ a) i ws w (mem w ws m) (goes w n i q e)))
      (f.meets n l)) in
      let floors : most (2 ^ a) i 0 F ≤ most (2 ^ a) i 0 R =
      most_least (2 ^ a) i 0 F _ (λ n h e. let l : n < 2 ^ b = rw (← f.long) h in le_trans (f.under n l) (most_above (2 ^ a) i 0 R n (rw f.many l) e)) in
      let words : largest (2 ^ a) i ws ≤ most (2 ^ a) i 0 R =
      largest_least (2 ^ a) i ws _ (λ w m e.
      le_trans (f.says w (member w ws m)) (most_above (2 ^ a) i 0 R (home (2 ^ b) w) (rw f.many (mod-lt (slot w) (pow_pos b))) (ap (λ (x : ℕ). x % 2 ^ a) (zero-add (home (2 ^ b) w)) ∙ home_home a b w le ∙ e))) in
      omega arith

  pub floors_words : (T : List ℕ) → fed (2 ^ a) (joined (2 ^ a) T F) ws ≡ joined (2 ^ a) T R
  floors_words T =
      let k = 2 ^ a in
      let long : length (fed k (joined k T F) ws) ≡ length T = length_fed k (joined k T F) ws ∙ length_poured k T 0 F in
      ext_get_or 0 _ _ (long ∙ sym (length_poured k T 0 R))
      (λ i h.
      let l : i < length T = rw long at h in
      let m : i < length (joined k T F) = rw (length_poured k T 0 F) l in
      omega (arith, fed_at k (joined k T F) ws i m, poured_at k T 0 F i l, poured_at k T 0 R i l, most_is i))

-- a sketch's registers are its floors fed its words
pub fed_floors : {b : ℕ} {R F ws : List ℕ} → Floored b R F ws → fed (2 ^ b) F ws ≡ R
fed_floors {b} {R} {F} {ws} f =
    ext_get_or 0 _ R (length_fed (2 ^ b) F ws ∙ f.long ∙ sym f.many)
    (λ i h.
    let l : i < length F = rw (length_fed (2 ^ b) F ws) at h in
    let d : i < 2 ^ b = rw (← f.long) l in
    let up : largest (2 ^ b) i ws ≤ get_or R i 0 = largest_least (2 ^ b) i ws _ (λ w m e. rw (← e) (f.says w (member w ws m))) in
    let down : get_or R i 0 ≤ max (get_or F i 0) (largest (2 ^ b) i ws) =
    ⊎_elim (λ (q : get_or F i 0 ≡ get_or R i 0). omega arith) (λ (w, m, q, v). omega (arith, v, largest_above (2 ^ b) i ws w (mem w ws m) q)) (f.meets i d) in
    omega (arith, fed_at (2 ^ b) F ws i l, f.under i d))

-- other words for the same registers
pub floored_as : {b : ℕ} {R F ws us : List ℕ} → Floored b R F ws
    → ((w : ℕ) → Member ws w → 0 < value w → (u : ℕ) × Member us u × (home (2 ^ b) u ≡ home (2 ^ b) w) × (value u ≡ value w))
    → ((u : ℕ) → Member us u → 0 < value u → (w : ℕ) × Member ws w × (home (2 ^ b) w ≡ home (2 ^ b) u) × (value w ≡ value u))
    → Floored b R F us
floored_as {b} {R} {F} {ws} {us} f to from = record { many = f.many; long = f.long; under = f.under; meets = λ n l. meets n l (f.meets n l); says = says }
  where
    meets : (n : ℕ) → n < 2 ^ b → (get_or F n 0 ≡ get_or R n 0) ⊎ ((w : ℕ) × Member ws w × (home (2 ^ b) w ≡ n) × (value w ≡ get_or R n 0))
        → (get_or F n 0 ≡ get_or R n 0) ⊎ ((u : ℕ) × Member us u × (home (2 ^ b) u ≡ n) × (value u ≡ get_or R n 0))
    meets n l (inl e) = inl e
    meets n l (inr (w, m, q, v)) = go (dec_lt 0 (value w))
      where
        go : Dec (0 < value w) → (get_or F n 0 ≡ get_or R n 0) ⊎ ((u : ℕ) × Member us u × (home (2 ^ b) u ≡ n) × (value u ≡ get_or R n 0))
        go (yes h) = let (u, p, e, x) = to w m h in inr (u, p, e ∙ q, x ∙ v)
        go (no h) = inl (omega (arith, f.under n l, v))

    says : (u : ℕ) → Member us u → value u ≤ get_or R (home (2 ^ b) u) 0
    says u m = go (dec_lt 0 (value u))
      where
        go : Dec (0 < value u) → value u ≤ get_or R (home (2 ^ b) u) 0
        go (yes h) = let (w, p, e, x) = from u m h in rw (← e, ← x) (f.says w p)
        go (no h) = omega arith

-- ---- a sketch in good order, of any kind, is its floors and the words of its table
module _ (s : Sketch) (regs aux : List ℕ) (g : Good s regs aux) where
  abbrev R : List ℕ
  R = registers s regs aux

  floors_long : length (floors s regs) ≡ 2 ^ s.lg_k
  unfolding floors
  floors_long = length-map (cells s regs) (◌+◌ s.cur_min) ∙ cells_long s regs

  pub floors_at : (n : ℕ) → n < 2 ^ s.lg_k → get_or (floors s regs) n 0 ≡ s.cur_min + get_or (cells s regs) n 0
  unfolding floors
  floors_at n l = map_at (◌+◌ s.cur_min) (cells s regs) n (rw (cells_long s regs) l)

  module _ (e : s.kind ≡ 4) where
    inside : (n : ℕ) → n < 2 ^ s.lg_k → n < length R
    inside n l = rw (registers_long s regs aux g) l

    floor_is : (n : ℕ) → n < 2 ^ s.lg_k → (get_or (floors s regs) n 0 ≤ get_or R n 0) × (get_or R n 0 < least R + 15 → get_or (floors s regs) n 0 ≡ get_or R n 0)
    unfolding cells
    floor_is n l =
        let cell : get_or (cells s regs) n 0 ≡ slot_at 4 regs n = get_or_unpacked s.kind (2 ^ s.lg_k) regs n l ∙ rw e in
        let is = floors_at n l in
        let bottom = four.low_is s regs aux e g in
        let nib = four.nibble_is s regs aux e g n (inside n l) in
        let low = least_le R n (inside n l) in
        (omega arith, λ (k : get_or R n 0 < least R + 15). omega arith)

    few : 2 ^ s.lg_k < 2 ^ 26
    few = omega (arith, (four.sizes s regs aux e g).few, registers_long s regs aux g)

    home_word : (n v : ℕ) → n < 2 ^ s.lg_k → home (2 ^ s.lg_k) (word n v) ≡ n
    home_word n v l = ap (λ (x : ℕ). x % 2 ^ s.lg_k) (slot_of_word n v (omega (arith, few))) ∙ mod-eq_of_lt l

    pub word_value : (n : ℕ) → n < 2 ^ s.lg_k → value (word n (get_or R n 0)) ≡ get_or R n 0
    word_value n l = value_of_word n (get_or R n 0) (omega (arith, few)) (omega (arith, g.small n (inside n l)))

    four_floored : Floored s.lg_k R (floors s regs) (table_in s aux)
    four_floored = record { many = registers_long s regs aux g; long = floors_long; under = λ n l. (floor_is n l).0; meets = λ n l. meets n l (dec_lt (get_or R n 0) (least R + 15)); says = λ w m. says w m (ℕ_discrete w 0) }
      where
        meets : (n : ℕ) → n < 2 ^ s.lg_k → Dec (get_or R n 0 < least R + 15)
            → (get_or (floors s regs) n 0 ≡ get_or R n 0) ⊎ ((w : ℕ) × Member (table_in s aux) w × (home (2 ^ s.lg_k) w ≡ n) × (value w ≡ get_or R n 0))
        meets n l (yes h) = inl ((floor_is n l).1 h)
        meets n l (no h) = inr (word n (get_or R n 0), (four.table s regs aux e g).to n (inside n l) (omega arith), home_word n (get_or R n 0) l, word_value n l)

        says : (w : ℕ) → Member (table_in s aux) w → Dec (w ≡ 0) → value w ≤ get_or R (home (2 ^ s.lg_k) w) 0
        says w m (yes z) = let v : value w ≡ 0 = rw z in omega arith
        says w m (no z) =
            let x = (four.table s regs aux e g).from w z m in
            let l : slot w < 2 ^ s.lg_k = rw (← registers_long s regs aux g) x.inside in
            let v : value w ≡ get_or R (slot w) 0 = ap value x.right ∙ word_value (slot w) l in
            rw (mod-eq_of_lt l) (omega arith)

  -- the cells of the other kinds are the registers, and cur_min is 0
  plain_floored : (s.kind ≡ 4 → ⊥) → Floored s.lg_k R (floors s regs) (table_in s aux)
  unfolding table_in record_of low_of
  plain_floored h =
      let zero-low : s.cur_min ≡ 0 = ap (λ x. x.cur_min) g.record_is ∙ rw (ne_eqb s.kind 4 h) in
      let is : (n : ℕ) → n < 2 ^ s.lg_k → get_or (floors s regs) n 0 ≡ get_or R n 0 = λ n l. floors_at n l ∙ ap (λ (x : ℕ). x + get_or (cells s regs) n 0) zero-low ∙ zero-add (get_or (cells s regs) n 0) ∙ ap (λ (x : List ℕ). get_or x n 0) (sym (plain_cells s regs aux h)) in
      record { many = registers_long s regs aux g; long = floors_long; under = λ n l. omega (arith, is n l); meets = λ n l. inl (is n l); says = λ w m. absurd (member_none w (rw (ne_eqb s.kind 4 h) at m)) }

  pub good_floored : Floored s.lg_k R (floors s regs) (table_in s aux)
  good_floored = go (ℕ_discrete s.kind 4)
    where
      go : Dec (s.kind ≡ 4) → Floored s.lg_k R (floors s regs) (table_in s aux)
      go (yes e) = four_floored e
      go (no h) = plain_floored h
