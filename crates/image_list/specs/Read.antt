-- The book's layout and fields of an image of coupons as the code has them, and what is known of one once its preamble has passed.
use Rattle.std.specs.Prelude.{◌≡◌, List, ℕ}
use Rattle.model.specs.Lists as book
use Rattle.model.specs.Lists.{layout_in, coupon_count, preamble_no}
use Rattle.image_list.specs.declared.Layout.{Layout}
use Rattle.image_list.specs.declared.Coupons.{Coupons}

-- a layout as the code has it
abbrev pub layout_as : book.Layout → Layout
layout_as y = record { preamble = y.preamble; mode = y.mode; count = y.count; bits = y.bits; words = y.words }

-- where the words begin, and how many there are
abbrev pub coupons_at : List ℕ → Coupons
coupons_at l = record { words = (layout_in l).words; count = coupon_count l }

-- what was read of an image whose preamble has passed
pub record Read (l : List ℕ) (c : Coupons) : Type 0 where
  pub passed : preamble_no l ≡ 0
  pub is : c ≡ coupons_at l
