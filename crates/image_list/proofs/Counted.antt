-- The count of an image of coupons, by its layout: where its bytes are, and what they say. Assumes nothing.
use mathlib.Core.Path.{◌≡◌, refl, sym}
use mathlib.Core.Bool.{Bool, true, false}
use mathlib.Core.List.{List}
use Prim.Native.Nat.{ℕ, ◌+◌, ◌≤◌, ◌<◌}
use native.Mathlib.Omega.{arith}
use lib.Dec.{eqb}
use lib.ListN.{length, get_or, drop}
use Rattle.model.specs.Pick.{pick}
use Rattle.model.specs.Packed.{Bytes, slot_at}
use Rattle.model.specs.Lists.{Layout, list_layout, set_layout, layout_in, coupon_count}
use Rattle.model.proofs.packing.Packing.{slot_lt}
use Rattle.model.proofs.image.CouponLines.{byte_slot}

-- what holds of both layouts holds of an image's
pub each_layout : (P : Layout → Type 0) (l : List ℕ) → P set_layout → P list_layout → P (layout_in l)
each_layout P l s t = go (eqb (get_or l 0 0) 3)
  where
    go : (b : Bool) → P (pick b set_layout list_layout)
    go true = s
    go false = t

module _ (l : List ℕ) where
  abbrev y : Layout
  y = layout_in l

  -- a count of one byte
  pub byte_inside : y.bits ≡ 8 → y.words ≤ length l → y.count < length l
  byte_inside = each_layout (λ x. x.bits ≡ 8 → x.words ≤ length l → x.count < length l) l (λ e h. omega arith) (λ e h. omega arith)

  pub byte_count : Bytes l → y.bits ≡ 8 → get_or l y.count 0 ≡ coupon_count l
  unfolding coupon_count
  byte_count b = each_layout (λ x. x.bits ≡ 8 → get_or l x.count 0 ≡ slot_at x.bits (drop x.count l) 0) l (λ e. absurd (omega arith)) (λ e. sym (byte_slot l 6 b))

  -- a count of four
  pub word_inside : (y.bits ≡ 8 → ⊥) → y.words ≤ length l → y.count + 4 ≤ length l
  word_inside = each_layout (λ x. (x.bits ≡ 8 → ⊥) → x.words ≤ length l → x.count + 4 ≤ length l) l (λ e h. omega arith) (λ e h. absurd (e refl))

  pub word_count_lem : (y.bits ≡ 8 → ⊥) → slot_at 32 (drop y.count l) 0 ≡ coupon_count l
  unfolding coupon_count
  word_count_lem = each_layout (λ x. (x.bits ≡ 8 → ⊥) → slot_at 32 (drop x.count l) 0 ≡ slot_at x.bits (drop x.count l) 0) l (λ e. refl) (λ e. absurd (e refl))

  -- it has 32 bits at most, and so have the words' bytes
  pub count_small : coupon_count l < 4294967296
  unfolding coupon_count
  count_small = each_layout (λ x. slot_at x.bits (drop x.count l) 0 < 4294967296) l (slot_lt 32 (drop 8 l) 0) (let h = slot_lt 8 (drop 6 l) 0 in omega arith)
