-- The image of a sketch in good order: its parts, its length, its bytes; and what write leaves. Assumes nothing.
use mathlib.Core.Path.{◌≡◌, refl, sym, ap, ap₂, ◌∙◌, subst}
use mathlib.Core.Bool.{true}
use mathlib.Core.List.{List, ◌++◌}
use Prim.Native.Nat.{ℕ, ◌+◌, ◌*◌, ◌^◌, ◌≤◌}
use native.Mathlib.Omega.{arith}
use lib.ListN.{length, drop, length-append}
use lib.Pow.{pow_mono}
use Rattle.model.specs.Packed.{Bytes, packed}
use Rattle.model.specs.Sketch.{bytes_of, registers, Shaped, Good}
use Rattle.model.specs.Check.{counts_fit, good_of}
use Rattle.model.specs.Image.{header, image_of, image_in, Written, wrote, write_no, write_of}
use Rattle.model.specs.declared.Sketch.{Sketch}
use Rattle.model.proofs.calls.Picked.{picked_no}
use Rattle.model.proofs.order.Tells.{tells_le}
use Rattle.model.proofs.calls.Ladder.{Says, says_as, says_pass, says_last, says_next, check_says}
use Rattle.model.proofs.packing.ByteLists.{length_packed, bytes_append}
use Rattle.model.proofs.packing.Packing.{packed_bytes}
use Rattle.model.proofs.order.Tests.{good_asks, counts_tells, cur_min_most}
use Rattle.model.proofs.image.Listing.{listing}
use Rattle.model.proofs.image.Fields.{FieldsFit, length_header, header_bytes_lem}

-- the record of a sketch in good order fits into the fields
pub good_small : (s : Sketch) (len : ℕ) → Shaped s.kind s.lg_k len → counts_fit s ≡ true → FieldsFit s
good_small s len h e =
    let c = (counts_tells s).0 e in
    let k : 2 ^ s.lg_k ≤ 2 ^ 21 = pow_mono h.high in
    record { known = h.kind_known; lg = omega (arith, h.high); low = omega (arith, cur_min_most s c); num = omega (arith, c.num); count = omega (arith, c.count) }

module _ (s : Sketch) (regs aux : List ℕ) (g : Good s regs aux) where
  -- the header, the register bytes themselves, the words listed
  pub image_parts : image_in s regs aux ≡ header s (registers s regs aux) ++ (regs ++ packed 32 (4 * length (listing s aux)) (listing s aux))
  unfolding image_in image_of
  image_parts =
      ap₂ (λ (r : Sketch) (l : List ℕ). header r (registers s regs aux) ++ (l ++ packed 32 (4 * length (listing s aux)) (listing s aux))) (sym g.record_is) (sym g.bytes_are)

  pub image_long : length (image_in s regs aux) ≡ 40 + bytes_of s.kind s.lg_k + 4 * length (listing s aux)
  image_long = ap length image_parts ∙ simp (length-append, length_header, length_packed) (omega (arith, g.shaped.long))

  pub image_bytes : good_of s regs aux ≡ true → Bytes regs → Bytes (image_in s regs aux)
  image_bytes e b =
      let small = good_small s (length regs) g.shaped ((good_asks s regs aux).0 e).counts in
      subst Bytes (sym image_parts) (bytes_append (header s (registers s regs aux)) _ (header_bytes_lem s (registers s regs aux) small) (bytes_append regs _ b (packed_bytes 32 _ (listing s aux))))

-- ---- write
module _ (s : Sketch) (regs aux buf : List ℕ) where
  pub write_no_lem : (write_of s regs aux buf).no ≡ write_no s regs aux buf
  unfolding write_of
  write_no_lem = picked_no (write_no s regs aux buf) _ _ (λ (w : Written). w.no) refl refl

  -- it refuses a sketch that is not in good order, and a buffer that is too short
  pub write_says : Says (write_no s regs aux buf) ((Shaped s.kind s.lg_k (length regs) × (good_of s regs aux ≡ true)) × (length (image_in s regs aux) ≤ length buf))
  unfolding write_no
  write_says =
      says_as _ (says_next _ _ (check_says true s regs aux) (says_next _ _ (says_pass _ 15 (tells_le (length (image_in s regs aux)) (length buf))) says_last))
      (λ p. search) (λ p. ((p.0.0, (refl, p.0.1)), (p.1, tt)))

  -- else it leaves the image, and behind it what stood there
  pub writes : write_no s regs aux buf ≡ 0 → write_of s regs aux buf ≡ wrote 0 (length (image_in s regs aux)) (image_in s regs aux ++ drop (length (image_in s regs aux)) buf)
  unfolding write_of
  writes e = rw e
