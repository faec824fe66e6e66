-- Cells counted byte after byte, and the largest, over the width. Assumes nothing.
use mathlib.Core.Path.{◌≡◌, refl, sym, ◌∙◌, ap, subst}
use mathlib.Core.Bool.{Bool, true, false}
use mathlib.Core.Logic.{⊎_elim}
use mathlib.Core.List.{List, [], ◌∷◌}
use Prim.Native.Nat.{ℕ, zero, suc, max, ◌+◌, ◌*◌, ◌/◌, ◌%◌, ◌^◌, ◌≤◌, ◌<◌}
use native.Mathlib.Nat.{mul-zero}
use native.Mathlib.Numerals.{add-one}
use native.Mathlib.Omega.{arith}
use lib.Dec.{eqb}
use lib.ListN.{length, get_or, take, drop}
use Rattle.std.specs.List.{sum_by}
use Rattle.std.specs.Simd.{first_chunks}
use Rattle.std.proofs.lemmas.List.{drop-drop}
use Rattle.std.proofs.lemmas.List.Sums.{sum_by-cons, sum_by-take-drop}
use Rattle.model.specs.Pick.{pick}
use Rattle.model.specs.Registers.{count_of}
use Rattle.model.specs.Packed.{Bytes, number, digits, unpacked}
use Rattle.model.proofs.packing.ByteLists.{bytes_take, bytes_drop}
use Rattle.model.proofs.packing.Digits.{digits_append, digits_shifted}
use Rattle.model.proofs.packing.Packing.{get_or_unpacked, unpacked_none}
use Rattle.packed.proofs.Cells.{get_one}
use Rattle.survey_whole.specs.Whole.{Width, plain, highest, most}

-- the cells of bytes, and the largest of the first n
abbrev pub cells : ℕ → List ℕ → List ℕ
cells w regs = unpacked w (8 / w * length regs) regs

abbrev pub top : ℕ → List ℕ → ℕ → ℕ
top w regs = most (λ i. plain w (get_or (cells w regs) i 0))

-- what holds of both widths
pub by_width : (P : ℕ → Type 0) → P 4 → P 8 → {w : ℕ} → Width w → P w
by_width P four eight width = ⊎_elim (λ e. subst P (sym e) four) (λ e. subst P (sym e) eight) width.is

-- ---- cells that are v

-- of a byte
abbrev pub hit : ℕ → ℕ → ℕ → ℕ
hit w v byte = pick (eqb w 8) (pick (eqb byte v) 1 0) (pick (eqb (byte % 16) v) 1 0 + pick (eqb (byte / 16) v) 1 0)

pub hit_most : (w v byte : ℕ) → hit w v byte ≤ 2
hit_most w v byte = go (eqb w 8) (eqb byte v) (eqb (byte % 16) v) (eqb (byte / 16) v)
  where
    one : (b : Bool) → pick b 1 0 ≤ 1
    one true = omega arith
    one false = omega arith

    go : (wide b low high : Bool) → pick wide (pick b 1 0) (pick low 1 0 + pick high 1 0) ≤ 2
    go true b low high = omega (arith, one b)
    go false b low high = omega (arith, one low, one high)

pub hits_few : (w v : ℕ) (regs : List ℕ) → sum_by (hit w v) regs ≤ 2 * length regs
hits_few w v [] = omega arith
hits_few w v (b ∷ bs) = omega (arith, sum_by-cons (hit w v) b bs, hit_most w v b, hits_few w v bs)

one_more : (b : Bool) (r : ℕ) → pick b (suc r) r ≡ pick b 1 0 + r
one_more true r = omega arith
one_more false r = omega arith

-- the cells of a byte and of those after it
two_cells : (b : ℕ) (bs : List ℕ) → b < 256 → cells 4 (b ∷ bs) ≡ b % 16 ∷ (b / 16 ∷ cells 4 bs)
unfolding unpacked number
two_cells b bs l =
    let n = number 256 bs in
    let m = n * 256 + b in
    let long : 2 * suc (length bs) ≡ 2 + 2 * length bs = omega arith in
    let low : m % 16 ≡ b % 16 = omega arith in
    let high : m / 16 % 16 ≡ b / 16 = omega arith in
    let others : m / 256 ≡ n = omega arith in
    ap (λ (k : ℕ). digits 16 k m) long
    ∙ digits_append 16 2 (2 * length bs) m
    ∙ rw (digits_shifted 16 1 m, low, high, others) refl

one_cell : (b : ℕ) (bs : List ℕ) → b < 256 → cells 8 (b ∷ bs) ≡ b ∷ cells 8 bs
unfolding unpacked number
one_cell b bs l =
    let n = number 256 bs in
    let m = n * 256 + b in
    let long : 1 * suc (length bs) ≡ 1 + 1 * length bs = omega arith in
    let low : m % 256 ≡ b = omega arith in
    let others : m / 256 ≡ n = omega arith in
    ap (λ (k : ℕ). digits 256 k m) long
    ∙ digits_append 256 1 (1 * length bs) m
    ∙ rw (digits_shifted 256 0 m, low, others) refl

count_cons : {w : ℕ} → Width w → (v b : ℕ) (bs : List ℕ) → b < 256 → count_of v (cells w (b ∷ bs)) ≡ hit w v b + count_of v (cells w bs)
unfolding count_of
count_cons width v b bs l =
    by_width (λ w. count_of v (cells w (b ∷ bs)) ≡ hit w v b + count_of v (cells w bs))
    (let r = count_of v (cells 4 bs) in
    rw (two_cells b bs l) (omega (arith, one_more (eqb (b % 16) v) (pick (eqb (b / 16) v) (suc r) r), one_more (eqb (b / 16) v) r)))
    (rw (one_cell b bs l) (one_more (eqb b v) (count_of v (cells 8 bs)))) width

pub count_is : {w : ℕ} → Width w → (v : ℕ) (regs : List ℕ) → Bytes regs → count_of v (cells w regs) ≡ sum_by (hit w v) regs
unfolding count_of
count_is {w} width v [] bytes = rw (mul-zero (8 / w), unpacked_none w []) refl
count_is {w} width v (b ∷ bs) bytes =
    count_cons width v b bs (bytes 0) ∙ ap (λ (n : ℕ). hit w v b + n) (count_is width v bs (λ i. bytes (suc i))) ∙ sym (sum_by-cons (hit w v) b bs)

-- ---- a part of the bytes, and what is left after it
-- m bytes from byte i on
pub part_turn : {w : ℕ} → Width w → (v n m i : ℕ) (regs : List ℕ) → Bytes regs → n ≡ count_of v (cells w (take m (drop i regs))) → n + sum_by (hit w v) (drop (i + m) regs) ≡ sum_by (hit w v) (drop i regs)
part_turn {w} width v n m i regs bytes e =
    let all = drop i regs in
    let part = count_is width v (take m all) (bytes_take m all (bytes_drop i regs bytes)) in
    omega (arith, e, part, sum_by-take-drop (hit w v) all m, ap (sum_by (hit w v)) (drop-drop m i regs))

pub chunk_at : (n k i : ℕ) (xs d : _) → i < k → get_or (first_chunks {X = ℕ} n k xs) i d ≡ take n (drop (n * i) xs)
chunk_at n zero i xs d l = absurd (omega arith)
chunk_at n (suc k) zero xs d l = rw (mul-zero n)
chunk_at n (suc k) (suc i) xs d l =
    let e : n + n * i ≡ n * suc i = omega arith in
    chunk_at n k i (drop n xs) d (omega arith) ∙ ap (take n) (drop-drop (n * i) n xs ∙ ap (λ (j : ℕ). drop j xs) e)

-- ---- the largest
pub top_none : (w : ℕ) (regs : List ℕ) → 0 ≡ top w regs (8 / w * 0)
unfolding most
top_none w regs = rw (mul-zero (8 / w))

module _ (w : ℕ) (regs : List ℕ) (s n : ℕ) (is : n ≡ get_or (cells w regs) s 0) where
  top_cell : top w regs (s + 1) ≡ max (top w regs s) (plain w n)
  unfolding most
  top_cell = rw (add-one s, is)

-- ---- byte j
module _ (regs : List ℕ) (bytes : Bytes regs) (j : ℕ) (l : j < length regs) where
  -- its cell that begins with its bit r
  cell_is : (w s r : ℕ) → w * s ≡ 8 * j + r → w + r ≤ 8 → s < 8 / w * length regs → get_or regs j 0 / 2 ^ r % 2 ^ w ≡ get_or (cells w regs) s 0
  cell_is w s r at fits inside = get_one w s j r regs bytes at fits ∙ sym (get_or_unpacked w (8 / w * length regs) regs s inside)

  low_is : get_or regs j 0 % 16 ≡ get_or (cells 4 regs) (2 * j) 0
  low_is = omega (arith, cell_is 4 (2 * j) 0 (omega arith) (omega arith) (omega arith))

  high_is : get_or regs j 0 / 16 ≡ get_or (cells 4 regs) (2 * j + 1) 0
  high_is = omega (arith, bytes j, cell_is 4 (2 * j + 1) 4 (omega arith) (omega arith) (omega arith))

  byte_is : get_or regs j 0 ≡ get_or (cells 8 regs) (1 * j) 0
  byte_is = omega (arith, bytes j, cell_is 8 (1 * j) 0 (omega arith) (omega arith) (omega arith))

  next_4 : 2 * (j + 1) ≡ 2 * j + 1 + 1
  next_4 = omega arith

  next_8 : 1 * (j + 1) ≡ 1 * j + 1
  next_8 = omega arith

  pub top_turn : {w : ℕ} → Width w → (m x : ℕ) → m ≡ top w regs (8 / w * j) → x ≡ max m (highest w (get_or regs j 0)) → x ≡ top w regs (8 / w * (j + 1))
  top_turn width m x =
      by_width (λ w. m ≡ top w regs (8 / w * j) → x ≡ max m (highest w (get_or regs j 0)) → x ≡ top w regs (8 / w * (j + 1)))
      (λ e q. rw next_4 (omega (arith, top_cell 4 regs (2 * j) _ low_is, top_cell 4 regs (2 * j + 1) _ high_is)))
      (λ e q. rw next_8 (omega (arith, top_cell 8 regs (1 * j) _ byte_is))) width
