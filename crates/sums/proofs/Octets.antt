-- The sums as the image's header has them: doubles, by their bytes. Assumes nothing.
use mathlib.Core.Path.{◌≡◌, ap, ap₂, ◌∙◌}
use mathlib.Core.List.{List, [], ◌∷◌, ◌++◌}
use Prim.Native.Nat.{ℕ}
use lib.Dec.{lit<}
use lib.ListN.{replicate}
use lib.Ieee.{binary64, to_bits}
use lib.Ieee.Bits.{to_bits-lt}
use Rattle.model.specs.Packed.{digits, packed}
use Rattle.model.specs.Sums.{scaled, kxq0, kxq1}
use Rattle.model.proofs.packing.Digits.{digits_zero}
use Rattle.model.proofs.packing.Packing.{packed_one}
use Rattle.sums.proofs.Dyadic.{ratio_fits}
use Rattle.model.proofs.packing.Packing.{packed_cons}

-- the header's three: the HIP sum, which is +0, and the two sums
pub sums_packed : (R : List ℕ) → packed 64 24 (0 ∷ to_bits binary64 (kxq0 R) ∷ to_bits binary64 (kxq1 R) ∷ []) ≡ replicate 8 0 ++ (digits 256 8 (to_bits binary64 (kxq0 R)) ++ digits 256 8 (to_bits binary64 (kxq1 R)))
sums_packed R =
    let low = to_bits binary64 (kxq0 R) in
    let high = to_bits binary64 (kxq1 R) in
    packed_cons 8 16 0 (low ∷ high ∷ []) (lit< tt)
    ∙ ap₂ {C = List ℕ} (λ x y. x ++ y) (digits_zero 256 8)
    (packed_cons 8 8 low (high ∷ []) (to_bits-lt binary64 (kxq0 R) (ratio_fits 31 (scaled 0 R))) ∙ ap (λ (l : List ℕ). digits 256 8 low ++ l) (packed_one 64 8 high))
