-- Registers packed in bytes: the laws, over the width w, the slot s and the number a of bytes that a window has. Assumes nothing.
use mathlib.Core.Path.{◌≡◌, refl, sym, ap, ap₂, ◌∙◌, subst, subst₂}
use mathlib.Core.Logic.{◌≢◌}
use mathlib.Core.List.{List, [], ◌∷◌, ◌++◌}
use Prim.Native.Nat.{ℕ, zero, suc, ◌+◌, ◌-◌, ◌*◌, ◌/◌, ◌%◌, ◌^◌, ◌≤◌, ◌<◌, max}
use native.Mathlib.Nat.{pow-zero, pow-suc, mod-one, mod-lt, mod-eq_of_lt, div-div-eq-div-mul, div-add-mod', one-le-pow, sub-add_cancel, mul-le-mul_right, mod-le, div-mul-le_self, le_trans, lt_of_lt_of_le, div-lt_iff_lt-mul, le_of_lt, le_refl, one-mul, mul_comm, zero-add, add-zero, not-suc-le-zero}
use native.Mathlib.Decide.{ℕ_discrete, dec_lt}
use native.Mathlib.Omega.{arith}
use native.Mathlib.Numerals.{add-one, add-two}
use lib.ListN.{length, get_or, set, drop, length-set}
use lib.Seq.{get_or-set_same, get_or-set_other, drop-set-lt, set-get_or, set_out, ext_get_or}
use lib.Dec.{lit<, lit≤}
use lib.Arith.{digits_lt, digits_div, mod-mul}
use lib.Pow.{pow_pos, pow-add, pow_mono, shr-shr, shr_lt, field, mod-mod-pow}
use Rattle.model.specs.Packed.{Bytes, number, digits, slot_at, unpacked, packed, Put}
use Rattle.model.specs.Registers.{raise}
use Rattle.model.proofs.packing.Digits.{pow_mul, digits_none, length_digits, digits_append, digits_low, get_or_digits, digit_lt, number_digits, digits_number, digit_number, number_set, Changed, digits_changed, digits_inj, drop_digits, number_lt}

-- the number of the a bytes from j on
abbrev pub window : ℕ → List ℕ → ℕ → ℕ
window zero bs j = 0
window (suc a) bs j = window a bs (suc j) * 256 + get_or bs j 0

pub window_number : (a : ℕ) (bs : List ℕ) → Bytes bs → (j : ℕ) → number 256 bs / 256 ^ j % 256 ^ a ≡ window a bs j
window_number zero bs h j = ap (λ (x : ℕ). number 256 bs / 256 ^ j % x) (pow-zero 256) ∙ mod-one (number 256 bs / 256 ^ j)
window_number (suc a) bs h j =
    ap (λ (x : ℕ). number 256 bs / 256 ^ j % x) (pow-suc 256 a)
    ∙ mod-mul (number 256 bs / 256 ^ j) (one-le-pow a 256 (lit< tt)) (lit< tt)
    ∙ ap₂ (λ (x y : ℕ). x % 256 ^ a * 256 + y)
    (div-div-eq-div-mul (number 256 bs) (256 ^ j) 256 ∙ ap (λ (x : ℕ). number 256 bs / x) (sym (pow-suc 256 j)))
    (digit_number 256 bs h j)
    ∙ ap (λ (x : ℕ). x * 256 + get_or bs j 0) (window_number a bs h (suc j))

-- a field of w bits from r on is in the b low bits
field_low : (n w r b : ℕ) → w + r ≤ b → n % 2 ^ b / 2 ^ r % 2 ^ w ≡ n / 2 ^ r % 2 ^ w
field_low n w r b h =
    sym (field (n % 2 ^ b) w r)
    ∙ ap (λ (x : ℕ). x / 2 ^ r) (ap (λ (x : ℕ). n % 2 ^ x % 2 ^ (w + r)) (sym (sub-add_cancel h)) ∙ mod-mod-pow n (b - (w + r)) (w + r))
    ∙ field n w r

-- ---- a slot, read through a window
pub slot_window : (w s a j r : ℕ) (bs : List ℕ) → Bytes bs → w * s ≡ 8 * j + r → w + r ≤ 8 * a → slot_at w bs s ≡ window a bs j / 2 ^ r % 2 ^ w
unfolding slot_at
slot_window w s a j r bs h e l =
    ap (λ (x : ℕ). number 256 bs / 2 ^ x % 2 ^ w) e
    ∙ ap (λ (x : ℕ). x % 2 ^ w) (sym (shr-shr (number 256 bs) (8 * j) r) ∙ ap (λ (x : ℕ). number 256 bs / x / 2 ^ r) (pow_mul 2 8 j))
    ∙ sym (field_low (number 256 bs / 256 ^ j) w r (8 * a) l)
    ∙ ap (λ (x : ℕ). x / 2 ^ r % 2 ^ w) (ap (λ (x : ℕ). number 256 bs / 256 ^ j % x) (pow_mul 2 8 a) ∙ window_number a bs h j)

-- ---- a window with v in the place of its w bits from r on
module _ (w r b v x y : ℕ) (l : w + r ≤ b) (hv : v < 2 ^ w) (hx : x < 2 ^ b) (e : y + (x / 2 ^ r % 2 ^ w) * 2 ^ r ≡ x + v * 2 ^ r) where
  split_new : y ≡ (x / 2 ^ r / 2 ^ w * 2 ^ w + v) * 2 ^ r + x % 2 ^ r
  split_new =
      let f : (x / 2 ^ r / 2 ^ w * 2 ^ w + x / 2 ^ r % 2 ^ w) * 2 ^ r + x % 2 ^ r ≡ x = ap (λ (z : ℕ). z * 2 ^ r + x % 2 ^ r) (div-add-mod' (x / 2 ^ r) (2 ^ w)) ∙ div-add-mod' x (2 ^ r) in
      omega arith

  pub new_lt : y < 2 ^ b
  new_lt =
      let k : ℕ = b - (w + r) in
      let hq : x / 2 ^ r / 2 ^ w < 2 ^ k = rw (shr-shr x r w) (shr_lt k (r + w) (subst (λ (z : ℕ). x < 2 ^ z) (omega arith) hx)) in
      let pw : 2 ^ k * 2 ^ w * 2 ^ r ≡ 2 ^ b = ap (λ (z : ℕ). z * 2 ^ r) (sym (pow-add 2 k w)) ∙ sym (pow-add 2 (k + w) r) ∙ ap (λ (z : ℕ). 2 ^ z) (omega arith) in
      subst₂ (λ (p q : ℕ). p < q) (sym split_new) pw (digits_lt (digits_lt hq hv) (mod-lt x (pow_pos r)))

-- the old field is within the window
pub old_le : (w r x : ℕ) → (x / 2 ^ r % 2 ^ w) * 2 ^ r ≤ x
old_le w r x = le_trans (mul-le-mul_right (2 ^ r) (mod-le (x / 2 ^ r) (2 ^ w))) (div-mul-le_self x (2 ^ r))

-- the window as the code works it out: the old field is taken off, and the new one added
module _ (w r b v x : ℕ) where
  pub exchange : x - (x / 2 ^ r % 2 ^ w) * 2 ^ r + v * 2 ^ r + (x / 2 ^ r % 2 ^ w) * 2 ^ r ≡ x + v * 2 ^ r
  exchange = omega (arith, old_le w r x)

  pub exchange_lt : w + r ≤ b → v < 2 ^ w → x < 2 ^ b → x - (x / 2 ^ r % 2 ^ w) * 2 ^ r + v * 2 ^ r < 2 ^ b
  exchange_lt l hv hx = new_lt w r b v x (x - (x / 2 ^ r % 2 ^ w) * 2 ^ r + v * 2 ^ r) l hv hx exchange

-- ---- a store through a window
joined : (n m x y o v B R : ℕ) → m + x * B ≡ n + y * B → y + o * R ≡ x + v * R → m + o * (B * R) ≡ n + v * (B * R)
joined n m x y o v B R p q =
    let q' : (y + o * R) * B ≡ (x + v * R) * B = ap (λ (z : ℕ). z * B) q in
    omega arith

pub put_window : (w s a j r v y : ℕ) (before after : List ℕ) → Bytes before → w * s ≡ 8 * j + r → w + r ≤ 8 * a → v < 2 ^ w
    → length after ≡ length before
    → number 256 after + window a before j * 256 ^ j ≡ number 256 before + y * 256 ^ j
    → y + (window a before j / 2 ^ r % 2 ^ w) * 2 ^ r ≡ window a before j + v * 2 ^ r
    → Put w before s v after
unfolding unpacked slot_at
put_window w s a j r v y before after h e l hv hl hn hy =
    let step : number 256 after + window a before j / 2 ^ r % 2 ^ w * (256 ^ j * 2 ^ r) ≡ number 256 before + v * (256 ^ j * 2 ^ r) = joined (number 256 before) (number 256 after) (window a before j) y (window a before j / 2 ^ r % 2 ^ w) v (256 ^ j) (2 ^ r) hn hy in
    let old : window a before j / 2 ^ r % 2 ^ w ≡ number 256 before / (2 ^ w) ^ s % 2 ^ w = sym (slot_window w s a j r before h e l) ∙ ap (λ (z : ℕ). number 256 before / z % 2 ^ w) (pow_mul 2 w s) in
    let pw : 256 ^ j * 2 ^ r ≡ (2 ^ w) ^ s = ap (λ (z : ℕ). z * 2 ^ r) (sym (pow_mul 2 8 j)) ∙ sym (pow-add 2 (8 * j) r) ∙ ap (λ (z : ℕ). 2 ^ z) (sym e) ∙ pow_mul 2 w s in
    let ch : Changed (2 ^ w) s v (number 256 before) (number 256 after) = subst₂ (λ (o q : ℕ). number 256 after + o * q ≡ number 256 before + v * q) old pw step in
    record { long = hl; slots = λ k. digits_changed (2 ^ w) k s v (number 256 before) (number 256 after) (pow_pos w) hv ch }

-- the window of two bytes, as the code reads it
pub window_two : (bs : List ℕ) (j : ℕ) → get_or bs (j + 1) 0 * 256 + get_or bs j 0 ≡ window 2 bs j
window_two bs j = rw add-one (omega arith)

-- one store and two stores, in the number
pub number_set_one : (bs : List ℕ) (j x : ℕ) → j < length bs → number 256 (set bs j x) + window 1 bs j * 256 ^ j ≡ number 256 bs + x * 256 ^ j
number_set_one bs j x h = rw zero-add (number_set 256 bs j x h)

pub number_set_two : (bs : List ℕ) (j x y : ℕ) → suc j < length bs
    → number 256 (set (set bs j x) (suc j) y) + window 2 bs j * 256 ^ j ≡ number 256 bs + (y * 256 + x) * 256 ^ j
number_set_two bs j x y h =
    let first = number_set 256 bs j x (le_of_lt h) in
    let second : number 256 (set (set bs j x) (suc j) y) + get_or bs (suc j) 0 * (256 ^ j * 256) ≡ number 256 (set bs j x) + y * (256 ^ j * 256) =
    subst₂ (λ (p q : ℕ). number 256 (set (set bs j x) (suc j) y) + p * q ≡ number 256 (set bs j x) + y * q) (get_or-set_other bs j (suc j) x 0 (omega arith)) (pow-suc 256 j)
    (number_set 256 (set bs j x) (suc j) y (simp length-set h)) in
    omega arith

-- the same as a function reads and writes them: x is the window of two bytes, y the one that takes its place
module _ (w s j r x : ℕ) (bs : List ℕ) (h : Bytes bs) (e : w * s ≡ 8 * j + r) (l : w + r ≤ 16) (read : x ≡ get_or bs (j + 1) 0 * 256 + get_or bs j 0) where
  pub get_two : x / 2 ^ r % 2 ^ w ≡ slot_at w bs s
  get_two = ap (λ (z : ℕ). z / 2 ^ r % 2 ^ w) (read ∙ window_two bs j) ∙ sym (slot_window w s 2 j r bs h e l)

  pub put_two : (v y : ℕ) → v < 2 ^ w → j + 1 < length bs → y + x / 2 ^ r % 2 ^ w * 2 ^ r ≡ x + v * 2 ^ r → Put w bs s v (set (set bs j (y % 256)) (j + 1) (y / 256))
  put_two v y hv hj new =
      put_window w s 2 j r v y bs (set (set bs j (y % 256)) (j + 1) (y / 256)) h e l hv (simp length-set)
      (rw (add-one j) (subst (λ (z : ℕ). number 256 (set (set bs j (y % 256)) (suc j) (y / 256)) + window 2 bs j * 256 ^ j ≡ number 256 bs + z * 256 ^ j) (div-add-mod' y 256) (number_set_two bs j (y % 256) (y / 256) (omega arith))))
      (subst (λ (z : ℕ). y + z / 2 ^ r % 2 ^ w * 2 ^ r ≡ z + v * 2 ^ r) (read ∙ window_two bs j) new)

-- ---- what a store leaves
pub length_unpacked : (w k : ℕ) (bs : List ℕ) → length (unpacked w k bs) ≡ k
unfolding unpacked
length_unpacked w k bs = length_digits (2 ^ w) k (number 256 bs)

pub get_or_unpacked : (w k : ℕ) (bs : List ℕ) (s : ℕ) → s < k → get_or (unpacked w k bs) s 0 ≡ slot_at w bs s
unfolding unpacked slot_at
get_or_unpacked w k bs s h = get_or_digits (2 ^ w) k (number 256 bs) s h ∙ ap (λ (x : ℕ). number 256 bs / x % 2 ^ w) (sym (pow_mul 2 w s))

pub slot_lt : (w : ℕ) (bs : List ℕ) (s : ℕ) → slot_at w bs s < 2 ^ w
unfolding slot_at
slot_lt w bs s = mod-lt (number 256 bs / 2 ^ (w * s)) (pow_pos w)

pub put_same : {w s v : ℕ} {before after : List ℕ} → Put w before s v after → slot_at w after s ≡ v
put_same {w} {s} {v} {before} {after} p =
    sym (get_or_unpacked w (suc s) after s (le_refl (suc s)))
    ∙ ap (λ (l : List ℕ). get_or l s 0) (p.slots (suc s))
    ∙ get_or-set_same (unpacked w (suc s) before) s v 0 (rw length_unpacked (le_refl (suc s)))

pub put_other : {w s v : ℕ} {before after : List ℕ} → Put w before s v after → (t : ℕ) → t ≢ s → slot_at w after t ≡ slot_at w before t
put_other {w} {s} {v} {before} {after} p t ne =
    sym (get_or_unpacked w (suc t) after t (le_refl (suc t)))
    ∙ ap (λ (l : List ℕ). get_or l t 0) (p.slots (suc t))
    ∙ get_or-set_other (unpacked w (suc t) before) s t v 0 ne
    ∙ get_or_unpacked w (suc t) before t (le_refl (suc t))

-- a store of what stands there leaves everything
pub put_none : (w s : ℕ) (bs : List ℕ) → Put w bs s (slot_at w bs s) bs
put_none w s bs = record { long = refl; slots = λ k. pick k (dec_lt s k) }
  where
    pick : (k : ℕ) → Dec (s < k) → unpacked w k bs ≡ set (unpacked w k bs) s (slot_at w bs s)
    pick k (yes h) = sym (set-get_or (unpacked w k bs) s 0) ∙ ap (set (unpacked w k bs) s) (get_or_unpacked w k bs s h)
    pick k (no h) = sym (set_out (unpacked w k bs) s (slot_at w bs s) (rw (length_unpacked w k bs) (omega arith)))

-- the number above the k low registers is kept, so the spare bits are
pub put_above : {w s v : ℕ} {before after : List ℕ} → Put w before s v after → (k : ℕ) → s < k → 0 < w → number 256 after / 2 ^ (w * k) ≡ number 256 before / 2 ^ (w * k)
unfolding unpacked
put_above {w} {s} {v} {before} {after} p k h hw =
    ap (λ (x : ℕ). number 256 after / x) (pow_mul 2 w k)
    ∙ digits_inj (2 ^ w) (number 256 after / (2 ^ w) ^ k) (number 256 before / (2 ^ w) ^ k) (le_trans (lit≤ tt) (pow_mono hw))
    (λ m. sym (drop_digits (2 ^ w) k m (number 256 after)) ∙ ap (drop k) (p.slots (k + m)) ∙ drop-set-lt k (digits (2 ^ w) (k + m) (number 256 before)) s v h ∙ drop_digits (2 ^ w) k m (number 256 before))
    ∙ ap (λ (x : ℕ). number 256 before / x) (sym (pow_mul 2 w k))

-- ---- there and back
pub packed_unpacked : (w k : ℕ) (bs : List ℕ) → Bytes bs → number 256 bs < 2 ^ (w * k) → packed w (length bs) (unpacked w k bs) ≡ bs
unfolding packed unpacked
packed_unpacked w k bs h l =
    ap (digits 256 (length bs)) (number_digits (2 ^ w) k (number 256 bs) (pow_pos w) ∙ mod-eq_of_lt (subst (λ (x : ℕ). number 256 bs < x) (pow_mul 2 w k) l))
    ∙ digits_number 256 bs h

pub unpacked_packed : (w n : ℕ) (vs : List ℕ) → ((i : ℕ) → get_or vs i 0 < 2 ^ w) → w * length vs ≤ 8 * n → unpacked w (length vs) (packed w n vs) ≡ vs
unfolding packed unpacked
unpacked_packed w n vs h l =
    ap (digits (2 ^ w) (length vs))
    (number_digits 256 n (number (2 ^ w) vs) (lit< tt)
    ∙ mod-eq_of_lt (lt_of_lt_of_le (number_lt (2 ^ w) vs h) (subst₂ (λ (x y : ℕ). x ≤ y) (pow_mul 2 w (length vs)) (pow_mul 2 8 n) (pow_mono l))))
    ∙ digits_number (2 ^ w) vs h

-- a byte is a register of 8 bits
pub packed_bytes : (w n : ℕ) (vs : List ℕ) → Bytes (packed w n vs)
unfolding packed
packed_bytes w n vs = digit_lt 256 n (number (2 ^ w) vs) (lit< tt)

pub unpacked_8 : (bs : List ℕ) → Bytes bs → unpacked 8 (length bs) bs ≡ bs
unfolding unpacked
unpacked_8 bs h = digits_number 256 bs h

-- no bytes, and no cells
pub packed_none : (w : ℕ) (vs : List ℕ) → packed w 0 vs ≡ []
unfolding packed
packed_none w vs = digits_none 256 (number (2 ^ w) vs)

pub unpacked_none : (w : ℕ) (bs : List ℕ) → unpacked w 0 bs ≡ []
unfolding unpacked
unpacked_none w bs = digits_none (2 ^ w) (number 256 bs)

-- a cell alone, and a cell of b whole bytes: its own bytes, followed by those of the other cells
pub packed_one : (w n v : ℕ) → packed w n (v ∷ []) ≡ digits 256 n v
unfolding packed number
packed_one w n v = ap (digits 256 n) (omega arith)

pub packed_cons : (b n v : ℕ) (vs : List ℕ) → v < 256 ^ b → packed (8 * b) (b + n) (v ∷ vs) ≡ digits 256 b v ++ packed (8 * b) n vs
unfolding packed number
packed_cons b n v vs h =
    let m = number (2 ^ (8 * b)) vs in
    ap (λ (c : ℕ). digits 256 (b + n) (m * c + v)) (pow_mul 2 8 b)
    ∙ digits_append 256 b n (m * 256 ^ b + v)
    ∙ ap₂ {C = List ℕ} (λ x y. x ++ y) (digits_low 256 b m v (lit< tt)) (ap (digits 256 n) (digits_div m h))

-- bytes are fixed by their registers
pub same_bytes : (w k : ℕ) (xs ys : List ℕ) → Bytes xs → Bytes ys → length xs ≡ length ys → number 256 xs < 2 ^ (w * k) → number 256 ys < 2 ^ (w * k) → unpacked w k xs ≡ unpacked w k ys → xs ≡ ys
same_bytes w k xs ys hx hy l lx ly e =
    sym (packed_unpacked w k xs hx lx) ∙ ap₂ (packed w) l e ∙ packed_unpacked w k ys hy ly

-- all bits covered
pub covered : (w k : ℕ) (bs : List ℕ) → Bytes bs → 8 * length bs ≤ w * k → number 256 bs < 2 ^ (w * k)
covered w k bs h l = lt_of_lt_of_le (subst (λ (x : ℕ). number 256 bs < x) (sym (pow_mul 2 8 (length bs))) (number_lt 256 bs h)) (pow_mono l)

-- a last byte that is spare and zero
pub spare : (w k n : ℕ) (bs : List ℕ) → Bytes bs → length bs ≡ suc n → get_or bs n 0 ≡ 0 → 8 * n ≡ w * k → number 256 bs < 2 ^ (w * k)
spare w k n bs h l z e =
    subst (λ (x : ℕ). number 256 bs < x) (sym (pow_mul 2 8 n) ∙ ap (λ (x : ℕ). 2 ^ x) e)
    (subst (λ (x : ℕ). number 256 bs < x) (one-mul (256 ^ n)) ((div-lt_iff_lt-mul pos).0 below))
  where
    pos : 0 < 256 ^ n
    pos = one-le-pow n 256 (lit< tt)

    few : number 256 bs / 256 ^ n < 256
    few = (div-lt_iff_lt-mul pos).1 (subst (λ (x : ℕ). number 256 bs < x) (ap (λ (x : ℕ). 256 ^ x) l ∙ pow-suc 256 n ∙ mul_comm (256 ^ n) 256) (number_lt 256 bs h))

    below : number 256 bs / 256 ^ n < 1
    below = omega (arith, few, digit_number 256 bs h n)

-- ---- filling a list from the front
-- the first n elements of l are f's
abbrev pub Filled : (ℕ → ℕ) → List ℕ → ℕ → Type 0
Filled f l n = (i : ℕ) → i < n → get_or l i 0 ≡ f i

pub filled_none : (f : ℕ → ℕ) (l : List ℕ) → Filled f l 0
filled_none f l i h = absurd (not-suc-le-zero h)

pub filled_more : (f : ℕ → ℕ) (l : List ℕ) (n m x : ℕ) → m ≡ n + 1 → Filled f l n → n < length l → x ≡ f n → Filled f (set l n x) m
filled_more f l n m x e h k ex i hi = pick (ℕ_discrete i n)
  where
    pick : Dec (i ≡ n) → get_or (set l n x) i 0 ≡ f i
    pick (yes p) = subst (λ (j : ℕ). get_or (set l n x) j 0 ≡ f j) (sym p) (get_or-set_same l n x 0 k ∙ ex)
    pick (no ne) = get_or-set_other l n i x 0 ne ∙ h i (omega arith)

pub filled_all : (w k : ℕ) (bs l : List ℕ) → length l ≡ k → Filled (slot_at w bs) l k → l ≡ unpacked w k bs
filled_all w k bs l e h =
    ext_get_or 0 l (unpacked w k bs) (e ∙ sym (length_unpacked w k bs)) (λ i hi. h i (omega arith) ∙ sym (get_or_unpacked w k bs i (omega arith)))

-- ---- four registers of 6 bits, from three bytes
pub window_three : (bs : List ℕ) (j : ℕ) → (get_or bs (j + 2) 0 * 256 + get_or bs (j + 1) 0) * 256 + get_or bs j 0 ≡ window 3 bs j
window_three bs j = rw (add-one, add-two) (omega arith)

module _ (bs : List ℕ) (s j x : ℕ) (h : Bytes bs) (fours : s % 4 ≡ 0) (place : j ≡ s / 4 * 3) (read : x ≡ (get_or bs (j + 2) 0 * 256 + get_or bs (j + 1) 0) * 256 + get_or bs j 0) where
  -- register t of the group
  of_group : (t : ℕ) → t < 4 → x / 2 ^ (6 * t) % 64 ≡ slot_at 6 bs (s + t)
  of_group t l =
      ap (λ (z : ℕ). z / 2 ^ (6 * t) % 64) (read ∙ window_three bs j)
      ∙ sym (slot_window 6 (s + t) 3 j (6 * t) bs h (omega arith) (omega arith))

  pub filled_group : (l : List ℕ) → Filled (slot_at 6 bs) l s → s + 3 < length l
      → Filled (slot_at 6 bs) (set (set (set (set l s (x % 64)) (s + 1) (x / 64 % 64)) (s + 2) (x / 4096 % 64)) (s + 3) (x / 262144 % 64)) (s + 4)
  filled_group l f k =
      let f₁ = filled_more (slot_at 6 bs) l s (s + 1) (x % 64) refl f (omega arith) (omega (arith, of_group 0 (lit< tt), ap (slot_at 6 bs) (add-zero s))) in
      let l₁ = set l s (x % 64) in
      let f₂ = filled_more (slot_at 6 bs) l₁ (s + 1) (s + 2) (x / 64 % 64) (omega arith) f₁ (simp length-set (omega arith)) (of_group 1 (lit< tt)) in
      let l₂ = set l₁ (s + 1) (x / 64 % 64) in
      let f₃ = filled_more (slot_at 6 bs) l₂ (s + 2) (s + 3) (x / 4096 % 64) (omega arith) f₂ (simp length-set (omega arith)) (of_group 2 (lit< tt)) in
      let l₃ = set l₂ (s + 2) (x / 4096 % 64) in
      filled_more (slot_at 6 bs) l₃ (s + 3) (s + 4) (x / 262144 % 64) (omega arith) f₃ (simp length-set (omega arith)) (of_group 3 (lit< tt))

-- a spare byte stays
pub put_spare : {w s v : ℕ} {before after : List ℕ} → Put w before s v after → Bytes before → Bytes after → 0 < w → (k n : ℕ) → s < k → 8 * n ≡ w * k → get_or after n 0 ≡ get_or before n 0
put_spare {w} {s} {v} {before} {after} p hb ha hw k n h e =
    sym (digit_number 256 after ha n)
    ∙ ap (λ (x : ℕ). x % 256) (ap (λ (x : ℕ). number 256 after / x) pw ∙ put_above p k h hw ∙ ap (λ (x : ℕ). number 256 before / x) (sym pw))
    ∙ digit_number 256 before hb n
  where
    pw : 256 ^ n ≡ 2 ^ (w * k)
    pw = sym (pow_mul 2 8 n) ∙ ap (λ (x : ℕ). 2 ^ x) e

-- ---- a register raised in place
pub put_raised : {w s : ℕ} (v : ℕ) {before after : List ℕ} → Put w before s (max (slot_at w before s) v) after → (k : ℕ) → s < k → unpacked w k after ≡ raise (unpacked w k before) s v
unfolding raise
put_raised {w} {s} v {before} p k h = p.slots k ∙ ap (λ (x : ℕ). set (unpacked w k before) s (max x v)) (sym (get_or_unpacked w k before s h))
