-- The fields of an image are read back: cells behind other bytes and in front of them, the bytes of a header, its two counts. Assumes nothing.
use mathlib.Core.Path.{◌≡◌, refl, sym, ap, ap₂, ◌∙◌, subst}
use mathlib.Core.Bool.{Bool, true, false}
use mathlib.Core.Logic.{◌⊎◌, inl, inr}
use mathlib.Core.List.{List, [], ◌∷◌, ◌++◌, append_assoc}
use Prim.Native.Nat.{ℕ, zero, suc, ◌+◌, ◌*◌, ◌/◌, ◌%◌, ◌^◌, ◌<◌}
use native.Mathlib.Nat.{mod-eq_of_lt, pow-zero, pow-suc}
use native.Mathlib.Decide.{ℕ_discrete}
use native.Mathlib.Omega.{arith}
use lib.Arith.{digits_div}
use lib.Dec.{eqb, lit<}
use lib.Ieee.{binary64, to_bits}
use lib.ListN.{length, get_or, drop, length-append}
use lib.Pow.{pow_pos, shr-shr}
use lib.Seq.{drop_at}
use Rattle.model.specs.Packed.{Bytes, number, digits, slot_at, unpacked, packed}
use Rattle.model.specs.Pick.{pick}
use Rattle.model.specs.Sketch.{sketch_of, is_kind}
use Rattle.model.specs.Sums.{kxq0, kxq1}
use Rattle.model.specs.Image.{mode_of, flags_of, magic, header, kind_of, sketch_in}
use Rattle.model.specs.declared.Sketch.{Sketch}
use Rattle.model.proofs.packing.Digits.{pow_mul, number_digits, digits_number, digits_low, number_lt}
use Rattle.model.proofs.packing.Packing.{get_or_unpacked, packed_bytes}
use Rattle.model.proofs.packing.Lengths.{six_or_eight}
use Rattle.model.proofs.packing.ByteLists.{length_packed, bytes_append}

-- ---- cells among other bytes
number_append : (c : ℕ) (xs ys : List ℕ) → number c (xs ++ ys) ≡ number c ys * c ^ length xs + number c xs
unfolding number
number_append c [] ys = rw pow-zero (omega arith)
number_append c (x ∷ xs) ys = rw (number_append c xs ys, pow-suc) (omega arith)

-- behind as many bytes as s cells take
pub slot_behind : (w s i : ℕ) (xs ys : List ℕ) → Bytes xs → 8 * length xs ≡ w * s → slot_at w (xs ++ ys) (s + i) ≡ slot_at w ys i
unfolding slot_at
slot_behind w s i xs ys b e =
    ap (λ (x : ℕ). number 256 (xs ++ ys) / 2 ^ x % 2 ^ w) (let z : w * (s + i) ≡ 8 * length xs + w * i = omega arith in z)
    ∙ ap (λ (x : ℕ). x % 2 ^ w)
    (sym (shr-shr (number 256 (xs ++ ys)) (8 * length xs) (w * i))
    ∙ ap (λ (x : ℕ). x / 2 ^ (w * i)) (ap₂ (λ (x y : ℕ). x / y) (number_append 256 xs ys) (pow_mul 2 8 (length xs)) ∙ digits_div (number 256 ys) (number_lt 256 xs b)))

-- in front, where they fill their bytes
pub unpacked_front : (w n : ℕ) (vs t : List ℕ) → ((i : ℕ) → get_or vs i 0 < 2 ^ w) → w * length vs ≡ 8 * n → unpacked w (length vs) (packed w n vs ++ t) ≡ vs
unfolding packed unpacked
unpacked_front w n vs t h e =
    ap (digits (2 ^ w) (length vs))
    (number_append 256 (packed w n vs) t
    ∙ ap₂ (λ (x y : ℕ). number 256 t * x + y) (ap (λ (x : ℕ). 256 ^ x) (length_packed w n vs) ∙ sym full)
    (number_digits 256 n (number (2 ^ w) vs) (lit< tt) ∙ mod-eq_of_lt (subst (λ (x : ℕ). number (2 ^ w) vs < x) full (number_lt (2 ^ w) vs h))))
    ∙ digits_low (2 ^ w) (length vs) (number 256 t) (number (2 ^ w) vs) (pow_pos w)
    ∙ digits_number (2 ^ w) vs h
  where
    full : (2 ^ w) ^ length vs ≡ 256 ^ n
    full = sym (pow_mul 2 w (length vs)) ∙ ap (λ (x : ℕ). 2 ^ x) e ∙ pow_mul 2 8 n

-- ---- a header, in front of anything
pub length_header : (s : Sketch) (R : List ℕ) → length (header s R) ≡ 40
unfolding header
length_header s R = simp (length-append, length_packed)

pub from_40 : (s : Sketch) (R t : List ℕ) → drop 40 (header s R ++ t) ≡ t
from_40 s R t = drop_at (header s R) t 40 (length_header s R)

-- ---- its record
-- the numbers of a record fit into the fields
pub record FieldsFit (s : Sketch) : Type 0 where
  pub known : is_kind s.kind ≡ true
  pub lg : s.lg_k < 256
  pub low : s.cur_min < 256
  pub num : s.num_at_cur_min < 2 ^ 32
  pub count : s.aux_count < 2 ^ 32

pick_lt : (b : Bool) {m n c : ℕ} → m < c → n < c → pick b m n < c
pick_lt true h k = h
pick_lt false h k = k

mode_back : (kind : ℕ) → is_kind kind ≡ true → kind_of (mode_of kind) ≡ kind
unfolding kind_of
mode_back kind h = go (ℕ_discrete kind 4)
  where
    other : (kind ≡ 6) ⊎ (kind ≡ 8) → kind_of (mode_of kind) ≡ kind
    other (inl e) = rw e
    other (inr e) = rw e

    go : Dec (kind ≡ 4) → kind_of (mode_of kind) ≡ kind
    go (yes e) = rw e
    go (no e) = other (six_or_eight kind h e)

module _ (s : Sketch) (R : List ℕ) (h : FieldsFit s) where
  abbrev doubles : List ℕ
  doubles = 0 ∷ to_bits binary64 (kxq0 R) ∷ to_bits binary64 (kxq1 R) ∷ []

  abbrev counts : List ℕ
  counts = s.num_at_cur_min ∷ s.aux_count ∷ []

  -- what stands in front of the counts
  abbrev front : List ℕ
  front = magic ++ ((s.lg_k ∷ 0 ∷ flags_of s.kind ∷ s.cur_min ∷ mode_of s.kind ∷ []) ++ packed 64 24 doubles)

  front_bytes : Bytes front
  front_bytes zero = lit< tt
  front_bytes (suc zero) = lit< tt
  front_bytes (suc (suc zero)) = lit< tt
  front_bytes (suc (suc (suc zero))) = h.lg
  front_bytes (suc (suc (suc (suc zero)))) = lit< tt
  front_bytes (suc (suc (suc (suc (suc zero))))) = pick_lt (eqb s.kind 4) (lit< tt) (lit< tt)
  front_bytes (suc (suc (suc (suc (suc (suc zero)))))) = h.low
  front_bytes (suc (suc (suc (suc (suc (suc (suc zero))))))) = pick_lt (eqb s.kind 8) (lit< tt) (pick_lt (eqb s.kind 6) (lit< tt) (lit< tt))
  front_bytes (suc (suc (suc (suc (suc (suc (suc (suc i)))))))) = packed_bytes 64 24 doubles i

  pub header_bytes_lem : Bytes (header s R)
  unfolding header
  header_bytes_lem = bytes_append front (packed 32 8 counts) front_bytes (packed_bytes 32 8 counts)

  counts_fit_lem : (i : ℕ) → get_or counts i 0 < 2 ^ 32
  counts_fit_lem zero = h.num
  counts_fit_lem (suc zero) = h.count
  counts_fit_lem (suc (suc i)) = lit< tt

  count_at : (t : List ℕ) (i : ℕ) → i < 2 → slot_at 32 (header s R ++ t) (8 + i) ≡ get_or counts i 0
  unfolding header
  count_at t i l =
      ap (λ (x : List ℕ). slot_at 32 x (8 + i)) (append_assoc front (packed 32 8 counts) t)
      ∙ slot_behind 32 8 i front (packed 32 8 counts ++ t) front_bytes (simp length_packed)
      ∙ sym (get_or_unpacked 32 2 (packed 32 8 counts ++ t) i l)
      ∙ ap (λ (x : List ℕ). get_or x i 0) (unpacked_front 32 8 counts t counts_fit_lem refl)

  pub sketch_back : (t : List ℕ) → sketch_in (header s R ++ t) ≡ s
  unfolding sketch_in header
  sketch_back t = λ i. sketch_of (mode_back s.kind h.known i) s.lg_k s.cur_min (count_at t 0 (lit< tt) i) (count_at t 1 (lit< tt) i)
