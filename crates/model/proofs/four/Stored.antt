-- Kind 4's register bytes: their slots are the nibbles of the registers, and no other bytes have these slots. Assumes nothing.
use mathlib.Core.Path.{◌≡◌, sym, ◌∙◌, ap, subst}
use mathlib.Core.List.{List, map}
use Prim.Native.Nat.{ℕ, ◌*◌, ◌/◌, ◌%◌, ◌<◌}
use native.Mathlib.Omega.{arith}
use lib.ListN.{length, get_or, length-map, get_or-map}
use lib.Seq.{ext_get_or}
use Rattle.model.specs.Packed.{Bytes, slot_at, unpacked, packed}
use Rattle.model.specs.Four.{nibble, stored_at}
use Rattle.model.proofs.packing.Digits.{length_digits}
use Rattle.model.proofs.packing.Packing.{length_unpacked, get_or_unpacked, unpacked_packed, packed_bytes, same_bytes, covered}

nibble_at : (low : ℕ) (R : List ℕ) (i : ℕ) → get_or (map (nibble low) R) i 0 ≡ nibble low (get_or R i 0)
nibble_at low R i = subst (λ (d : ℕ). get_or (map (nibble low) R) i d ≡ nibble low (get_or R i 0)) (let z : nibble low 0 ≡ 0 = omega arith in z) (get_or-map (nibble low) R i 0)

module _ (low : ℕ) (R : List ℕ) where
  bytes_stored : Bytes (stored_at low R)
  unfolding stored_at
  bytes_stored = packed_bytes 4 (length R / 2) (map (nibble low) R)

  pub length_stored : length (stored_at low R) ≡ length R / 2
  unfolding stored_at packed
  length_stored = length_digits 256 (length R / 2) _

  module _ (even : length R % 2 ≡ 0) where
    pub stored_slots : (s : ℕ) → s < length R → slot_at 4 (stored_at low R) s ≡ nibble low (get_or R s 0)
    unfolding stored_at
    stored_slots s l =
        let back : unpacked 4 (length R) (stored_at low R) ≡ map (nibble low) R =
        rw length-map at (unpacked_packed 4 (length R / 2) (map (nibble low) R) (λ i. omega (arith, nibble_at low R i)) (rw length-map (omega arith))) in
        sym (get_or_unpacked 4 (length R) (stored_at low R) s l) ∙ ap (λ (x : List ℕ). get_or x s 0) back ∙ nibble_at low R s

    pub stored_only : (bytes : List ℕ) → Bytes bytes → 2 * length bytes ≡ length R → ((s : ℕ) → s < length R → slot_at 4 bytes s ≡ nibble low (get_or R s 0)) → bytes ≡ stored_at low R
    stored_only bytes by long slots =
        same_bytes 4 (length R) bytes (stored_at low R) by bytes_stored (omega (arith, length_stored))
        (covered 4 (length R) bytes by (omega arith)) (covered 4 (length R) (stored_at low R) bytes_stored (omega (arith, length_stored)))
        (ext_get_or 0 (unpacked 4 (length R) bytes) (unpacked 4 (length R) (stored_at low R)) (simp length_unpacked)
        (λ i l. let k : i < length R = rw length_unpacked at l in
        get_or_unpacked 4 (length R) bytes i k ∙ slots i k ∙ sym (get_or_unpacked 4 (length R) (stored_at low R) i k ∙ stored_slots i k)))
