-- Zeros counted byte after byte. Assumes nothing.
use mathlib.Core.Path.{◌≡◌, refl, sym, ◌∙◌, ap, ap₂, subst}
use mathlib.Core.List.{List, [], ◌∷◌}
use Prim.Native.Nat.{ℕ, zero, suc, ◌+◌, ◌-◌, ◌*◌, ◌/◌, ◌%◌, ◌^◌, ◌≤◌, ◌<◌}
use native.Mathlib.Omega.{arith}
use native.Mathlib.Decide.{ℕ_discrete}
use lib.Bits.{bit_and, and_mask}
use lib.Dec.{eqb}
use lib.ListN.{length, get_or, take, drop, length-take, length-drop, drop_of_length-le}
use lib.Seq.{get_or-take, get_or-drop}
use Rattle.std.proofs.lemmas.List.{take-append-drop}
use borrow.Author.Tests.{eq-eqb, ne_eqb}
use Rattle.model.specs.Pick.{pick}
use Rattle.model.specs.Registers.{count_of}
use Rattle.model.specs.Packed.{Bytes, slot_at, unpacked}
use Rattle.model.proofs.packing.ByteLists.{bytes_take, bytes_drop}
use Rattle.model.proofs.packing.Packing.{Filled, filled_all, length_unpacked, get_or_unpacked, slot_window, window, window_two}
use Rattle.model.proofs.registers.Lowest.{count_le, count_next, count_append}
use Rattle.survey_six.specs.Six.{Flag, Both, Groups}

-- where the last cell of a byte begins, by the byte's place in its group of three
abbrev pub begins_at : ℕ → ℕ
begins_at p = get_or (64 ∷ 16 ∷ 4 ∷ []) p 0

-- how many cells that begin in byte n or after it are zero: n + (n + 2) / 3 begin before
unfoldable pub left : List ℕ → ℕ → ℕ
left regs n = count_of 0 (drop (n + (n + 2) / 3) (unpacked 6 ((length regs - 1) / 3 * 4) regs))

abbrev pub cells : List ℕ → List ℕ
cells regs = unpacked 6 ((length regs - 1) / 3 * 4) regs

abbrev mark : ℕ → ℕ
mark n = pick (eqb n 0) 1 0

-- ---- one cell
flag_mark : {P : Type 0} {r : ℕ} (cell : ℕ) → Flag P r → (P → cell ≡ 0) → (cell ≡ 0 → P) → r ≡ mark cell
flag_mark {P} {r} cell f to from = go (ℕ_discrete cell 0)
  where
    go : Dec (cell ≡ 0) → r ≡ mark cell
    go (yes e) = rw (eq-eqb cell 0 e) (f.yes (from e))
    go (no e) = rw (ne_eqb cell 0 e) (f.no (λ p. e (to p)))

pub both_most : {byte next begins r : ℕ} → Both byte next begins r → r ≤ 2
both_most q = omega (arith, q.is, q.first.most, q.last.most)

-- ---- the ends
pub left_all : (regs : List ℕ) → left regs 0 ≡ count_of 0 (cells regs)
unfolding left
left_all regs = refl

pub left_none : (regs : List ℕ) → Groups regs → (n : ℕ) → n + 1 ≡ length regs → left regs n ≡ 0
unfolding left count_of
left_none regs g n e =
    let l : length (cells regs) ≤ n + (n + 2) / 3 = omega (arith, g.threes, length_unpacked 6 ((length regs - 1) / 3 * 4) regs) in
    rw (drop_of_length-le (cells regs) l)

pub left_few : (regs : List ℕ) → left regs 0 ≤ 2 * length regs
left_few regs = omega (arith, left_all regs, count_le 0 (cells regs), length_unpacked 6 ((length regs - 1) / 3 * 4) regs)

left_at : (regs : List ℕ) (n s : ℕ) → n + (n + 2) / 3 ≡ s → left regs n ≡ count_of 0 (drop s (cells regs))
unfolding left
left_at regs n s e = ap (λ (m : ℕ). count_of 0 (drop m (cells regs))) e

-- ---- byte j
module _ (regs : List ℕ) (g : Groups regs) (bytes : Bytes regs) (j : ℕ) (l : j + 1 < length regs) where
  -- the cell s that begins with bit r of it
  cell_at : (s r : ℕ) → 6 * s ≡ 8 * j + r → r ≤ 6 → get_or (cells regs) s 0 ≡ (get_or regs (j + 1) 0 * 256 + get_or regs j 0) / 2 ^ r % 2 ^ 6
  cell_at s r e h = get_or_unpacked 6 ((length regs - 1) / 3 * 4) regs s (omega (arith, g.threes)) ∙ slot_window 6 s 2 j r regs bytes e (omega arith) ∙ ap (λ (w : ℕ). w / 2 ^ r % 2 ^ 6) (sym (window_two regs j))

  counted : (s : ℕ) → 6 * s < 8 * j + 8 → count_of 0 (drop s (cells regs)) ≡ mark (get_or (cells regs) s 0) + count_of 0 (drop (s + 1) (cells regs))
  counted s h = let q : s < length (cells regs) = omega (arith, g.threes, length_unpacked 6 ((length regs - 1) / 3 * 4) regs) in count_next 0 (cells regs) s q

  abbrev b : ℕ
  b = get_or regs j 0

  abbrev n : ℕ
  n = get_or regs (j + 1) 0

  -- the first byte of a group
  turn_0 : (s x : ℕ) → j ≡ 3 * s → Both b n 64 x → x + left regs (j + 1) ≡ left regs j
  turn_0 s x e q =
      let m : bit_and n 15 ≡ n % 16 = and_mask n 4 in
      let c₀ = cell_at (4 * s) 0 (omega arith) (omega arith) in
      let c₁ = cell_at (4 * s + 1) 6 (omega arith) (omega arith) in
      let f₀ = flag_mark (get_or (cells regs) (4 * s) 0) q.first (λ h. omega (arith, bytes j)) (λ z. omega (arith, bytes j)) in
      let f₁ = flag_mark (get_or (cells regs) (4 * s + 1) 0) q.last (λ h. omega (arith, bytes j, h.0, h.1)) (λ z. (omega (arith, bytes j), omega (arith, bytes j))) in
      omega (arith, q.is, left_at regs j (4 * s) (omega arith), left_at regs (j + 1) (4 * s + 1 + 1) (omega arith), counted (4 * s) (omega arith), counted (4 * s + 1) (omega arith))

  turn_1 : (s x : ℕ) → j ≡ 3 * s + 1 → Both b n 16 x → x + left regs (j + 1) ≡ left regs j
  turn_1 s x e q =
      let m : bit_and n 3 ≡ n % 4 = and_mask n 2 in
      let c = cell_at (4 * s + 2) 4 (omega arith) (omega arith) in
      let f = flag_mark (get_or (cells regs) (4 * s + 2) 0) q.last (λ h. omega (arith, bytes j, h.0, h.1)) (λ z. (omega (arith, bytes j), omega (arith, bytes j))) in
      let none : q.a ≡ 0 = q.first.no (λ h. omega arith) in
      omega (arith, q.is, left_at regs j (4 * s + 2) (omega arith), left_at regs (j + 1) (4 * s + 2 + 1) (omega arith), counted (4 * s + 2) (omega arith))

  turn_2 : (s x : ℕ) → j ≡ 3 * s + 2 → Both b n 4 x → x + left regs (j + 1) ≡ left regs j
  turn_2 s x e q =
      let m : bit_and n 0 ≡ n % 1 = and_mask n 0 in
      let c = cell_at (4 * s + 3) 2 (omega arith) (omega arith) in
      let f = flag_mark (get_or (cells regs) (4 * s + 3) 0) q.last (λ h. omega (arith, bytes j, h.0)) (λ z. (omega (arith, bytes j), omega arith)) in
      let none : q.a ≡ 0 = q.first.no (λ h. omega arith) in
      omega (arith, q.is, left_at regs j (4 * s + 3) (omega arith), left_at regs (j + 1) (4 * s + 3 + 1) (omega arith), counted (4 * s + 3) (omega arith))

  pub left_turn : (begins x : ℕ) → begins ≡ begins_at (j % 3) → Both b n begins x → x + left regs (j + 1) ≡ left regs j
  left_turn begins x is q = go (ℕ_discrete (j % 3) 0) (ℕ_discrete (j % 3) 1)
    where
      at : (p : ℕ) → j % 3 ≡ p → Both b n (begins_at p) x
      at p e = subst (λ (m : ℕ). Both b n m x) (is ∙ ap (λ (p : ℕ). begins_at p) e) q

      go : Dec (j % 3 ≡ 0) → Dec (j % 3 ≡ 1) → x + left regs (j + 1) ≡ left regs j
      go (yes e) _ = turn_0 (j / 3) x (omega arith) (at 0 e)
      go (no _) (yes e) = turn_1 (j / 3) x (omega arith) (at 1 e)
      go (no d) (no e) = let f : j % 3 ≡ 2 = omega arith in turn_2 (j / 3) x (omega arith) (at 2 f)

-- no byte's last cell begins below bit 2
pub begins_most : (begins p : ℕ) → p < 3 → begins ≡ begins_at p → 4 ≤ begins
begins_most begins zero l e = omega arith
begins_most begins (suc zero) l e = omega arith
begins_most begins (suc (suc zero)) l e = omega arith
begins_most begins (suc (suc (suc p))) l e = absurd (omega arith)

-- ---- the bytes up to byte 3 * t, one more, and those from there on

-- a cell is told by its two bytes, wherever they lie
same_slot : (xs ys : List ℕ) → Bytes xs → Bytes ys → (d i s : ℕ) → 6 * s ≡ 6 * i + 8 * d → get_or ys (6 * i / 8) 0 ≡ get_or xs (6 * i / 8 + d) 0 → get_or ys (6 * i / 8 + 1) 0 ≡ get_or xs (6 * i / 8 + d + 1) 0 → slot_at 6 ys i ≡ slot_at 6 xs s
same_slot xs ys hx hy d i s e low high =
    let j = 6 * i / 8 in
    let r = 6 * i % 8 in
    let same : window 2 ys j ≡ window 2 xs (j + d) = omega (arith, low, high, window_two ys j, window_two xs (j + d)) in
    slot_window 6 i 2 j r ys hy (omega arith) (omega arith) ∙ ap (λ (w : ℕ). w / 2 ^ r % 2 ^ 6) same ∙ sym (slot_window 6 s 2 (j + d) r xs hx (omega arith) (omega arith))

module _ (regs : List ℕ) (g : Groups regs) (bytes : Bytes regs) (t : ℕ) (l : 3 * t < length regs) where
  abbrev begin : List ℕ
  begin = take (3 * t + 1) regs

  abbrev others : List ℕ
  others = drop (3 * t) regs

  long : length (cells regs) ≡ (length regs - 1) / 3 * 4
  long = length_unpacked 6 ((length regs - 1) / 3 * 4) regs

  long_begin : length begin ≡ 3 * t + 1
  long_begin = omega (arith, length-take (3 * t + 1) regs)

  long_others : length others ≡ length regs - 3 * t
  long_others = length-drop (3 * t) regs

  few_begin : (length begin - 1) / 3 * 4 ≡ 4 * t
  few_begin = omega (arith, long_begin)

  few_others : (length others - 1) / 3 * 4 ≡ (length regs - 1) / 3 * 4 - 4 * t
  few_others = omega (arith, long_others, g.threes)

  begin_cells : take (4 * t) (cells regs) ≡ cells begin
  begin_cells =
      filled_all 6 (4 * t) begin (take (4 * t) (cells regs)) (omega (arith, length-take (4 * t) (cells regs), long, g.threes)) at
      ∙ ap (λ (k : ℕ). unpacked 6 k begin) (sym few_begin)
    where
      at : Filled (slot_at 6 begin) (take (4 * t) (cells regs)) (4 * t)
      at i h =
          let j = 6 * i / 8 in
          get_or-take (4 * t) (cells regs) i 0 h
          ∙ get_or_unpacked 6 ((length regs - 1) / 3 * 4) regs i (omega (arith, g.threes))
          ∙ sym (same_slot regs begin bytes (bytes_take (3 * t + 1) regs bytes) 0 i i (omega arith)
          (get_or-take (3 * t + 1) regs j 0 (omega arith) ∙ ap (λ (j : ℕ). get_or regs j 0) (omega arith))
          (get_or-take (3 * t + 1) regs (j + 1) 0 (omega arith) ∙ ap (λ (j : ℕ). get_or regs j 0) (omega arith)))

  other_cells : drop (4 * t) (cells regs) ≡ cells others
  other_cells =
      filled_all 6 ((length regs - 1) / 3 * 4 - 4 * t) others (drop (4 * t) (cells regs)) (omega (arith, length-drop (4 * t) (cells regs), long)) at
      ∙ ap (λ (k : ℕ). unpacked 6 k others) (sym few_others)
    where
      at : Filled (slot_at 6 others) (drop (4 * t) (cells regs)) ((length regs - 1) / 3 * 4 - 4 * t)
      at i h =
          let j = 6 * i / 8 in
          get_or-drop (4 * t) (cells regs) i 0
          ∙ get_or_unpacked 6 ((length regs - 1) / 3 * 4) regs (4 * t + i) (omega arith)
          ∙ sym (same_slot regs others bytes (bytes_drop (3 * t) regs bytes) (3 * t) i (4 * t + i) (omega arith)
          (get_or-drop (3 * t) regs j 0 ∙ ap (λ (j : ℕ). get_or regs j 0) (omega arith))
          (get_or-drop (3 * t) regs (j + 1) 0 ∙ ap (λ (j : ℕ). get_or regs j 0) (omega arith)))

  pub count_parts : count_of 0 (cells begin) + count_of 0 (cells others) ≡ count_of 0 (cells regs)
  count_parts =
      sym (ap (count_of 0) (sym (take-append-drop (4 * t) (cells regs))) ∙ count_append 0 (take (4 * t) (cells regs)) (drop (4 * t) (cells regs)) ∙ ap₂ (λ (xs ys : List ℕ). count_of 0 xs + count_of 0 ys) begin_cells other_cells)
