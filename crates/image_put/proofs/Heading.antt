-- The header of the book is the three parts that the code puts one after the other. Assumes nothing.
use mathlib.Core.Path.{◌≡◌, refl, ap, ap₂, ◌∙◌}
use mathlib.Core.List.{List, [], ◌∷◌, ◌++◌, append_assoc}
use Prim.Native.Nat.{ℕ, ◌+◌, ◌≤◌}
use native.Mathlib.Omega.{arith}
use lib.Ieee.{Float, binary64, to_bits}
use lib.ListN.{length, length-append}
use Rattle.model.specs.Packed.{digits, packed}
use Rattle.model.specs.Sums.{kxq0, kxq1}
use Rattle.model.specs.Image.{magic, flags_of, mode_of, header}
use Rattle.model.specs.declared.Sketch.{Sketch}
use Rattle.model.proofs.image.Fields.{FieldsFit}
use Rattle.model.proofs.packing.Digits.{length_digits}
use Rattle.model.proofs.packing.Packing.{packed_one, packed_cons}
use Rattle.sums.proofs.Octets.{sums_packed}
use Rattle.image_put.specs.Parts.{over, field_bytes, sum_bytes, count_bytes, header_bytes}
use Rattle.image_put.proofs.Over.{next}

pub fields_long : (s : Sketch) → length (field_bytes s) ≡ 16
unfolding field_bytes
fields_long s = refl

-- two cells of n bytes, one behind the other
pub pair_long : (n x y : ℕ) → length (digits 256 n x ++ digits 256 n y) ≡ n + n
pair_long n x y = simp (length-append, length_digits)

pub sums_long : (x y : Float) → length (sum_bytes x y) ≡ 16
unfolding sum_bytes
sums_long x y = pair_long 8 (to_bits binary64 x) (to_bits binary64 y)

pub counts_long : (s : Sketch) → length (count_bytes s) ≡ 8
unfolding count_bytes
counts_long s = pair_long 4 s.num_at_cur_min s.aux_count

pub heading_long : (s : Sketch) (x y : Float) → length (header_bytes s x y) ≡ 40
unfolding header_bytes
heading_long s x y = simp (length-append, fields_long, sums_long, counts_long)

-- the three puts
pub header_put : (d : List ℕ) {a b c : List ℕ} (s : Sketch) (x y : Float) → 40 ≤ length d → a ≡ over d 0 (field_bytes s) → b ≡ over a 16 (sum_bytes x y) → c ≡ over b 32 (count_bytes s)
    → c ≡ over d 0 (header_bytes s x y)
unfolding header_bytes
header_put d s x y h p q r =
    let long : length (field_bytes s ++ sum_bytes x y) ≡ 32 = simp (length-append, fields_long, sums_long) in
    next d 0 32 (field_bytes s ++ sum_bytes x y) (count_bytes s) refl refl
    (next d 0 16 (field_bytes s) (sum_bytes x y) refl refl p q (omega (arith, fields_long s)) (omega (arith, sums_long x y))) r (omega (arith, long)) (omega (arith, counts_long s))
    ∙ ap (over d 0) (append_assoc (field_bytes s) (sum_bytes x y) (count_bytes s))

counts_are : (s : Sketch) → FieldsFit s → packed 32 8 (s.num_at_cur_min ∷ s.aux_count ∷ []) ≡ count_bytes s
unfolding count_bytes
counts_are s f =
    packed_cons 4 4 s.num_at_cur_min (s.aux_count ∷ []) f.num ∙ ap (λ (l : List ℕ). digits 256 4 s.num_at_cur_min ++ l) (packed_one 32 4 s.aux_count)

pub header_is : (s : Sketch) (R : List ℕ) → FieldsFit s → header s R ≡ header_bytes s (kxq0 R) (kxq1 R)
unfolding header header_bytes field_bytes sum_bytes
header_is s R f = ap₂ (λ (x y : List ℕ). magic ++ ((s.lg_k ∷ 0 ∷ flags_of s.kind ∷ s.cur_min ∷ mode_of s.kind ∷ []) ++ (x ++ y))) (sums_packed R) (counts_are s f)
