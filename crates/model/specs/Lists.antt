-- Coupon lists and coupon sets, the compact images of stations that have read little, and what feed_image does for every input (document 02, CR 2).
use Rattle.std.specs.Prelude.{ℕ, ◌+◌, ◌*◌, ◌%◌, List, [], ◌∷◌, eqb, leb, length, get_or, drop}
use Rattle.model.specs.Pick.{pick, both, first_of, first}
use Rattle.model.specs.Coupon.{is_empty}
use Rattle.model.specs.Packed.{slot_at, unpacked}
use Rattle.model.specs.Check.{lgk_no, scratch_fits, check_no}
use Rattle.model.specs.Calls.{Out, refused_at, batch_of}
use Rattle.model.specs.Image.{compact_in}
use Rattle.model.specs.declared.Sketch.{Sketch}

-- how such an image is laid out: what its byte 0 says, the low two bits of its mode, where its count stands and in how many bits, where its words begin
pub record Layout : Type 0 where
  pub preamble : ℕ
  pub mode : ℕ
  pub count : ℕ
  pub bits : ℕ
  pub words : ℕ

-- one, by its parts
abbrev pub layout : ℕ → ℕ → ℕ → ℕ → ℕ → Layout
layout preamble mode count bits words = record { preamble = preamble; mode = mode; count = count; bits = bits; words = words }

-- a list's
abbrev pub list_layout : Layout
list_layout = layout 2 0 6 8 8

-- a set's
abbrev pub set_layout : Layout
set_layout = layout 3 1 8 32 12

-- by byte 0: a set's for 3, else a list's
abbrev pub layout_of : ℕ → Layout
layout_of byte = pick (eqb byte 3) set_layout list_layout

-- ---- the fields of any list of bytes, by the layout that byte 0 asks for
-- the layout
abbrev pub layout_in : List ℕ → Layout
layout_in l = layout_of (get_or l 0 0)

-- how many words it has
unfoldable pub coupon_count : List ℕ → ℕ
coupon_count l = slot_at (layout_in l).bits (drop (layout_in l).count l) 0

-- the words, in their order
abbrev pub coupons_in : List ℕ → List ℕ
coupons_in l = unpacked 32 (coupon_count l) (drop (layout_in l).words l)

-- where the first zero word stands, and the count where there is none
unfoldable pub empty_in : List ℕ → ℕ
empty_in l = first (λ i. is_empty (get_or (coupons_in l) i 0)) (coupon_count l)

-- ---- the refusals, in document 02's order
-- 7, 8, 7, 9, 2, 26: what stands before the words
unfoldable pub preamble_no : List ℕ → ℕ
preamble_no l =
    let y = layout_in l in
    first_of (
    pick (leb 8 (length l)) 0 7
    ∷ pick (both (eqb (get_or l 0 0) y.preamble) (both (eqb (get_or l 1 0) 1) (eqb (get_or l 2 0) 7))) 0 8
    ∷ pick (leb y.words (length l)) 0 7
    ∷ pick (eqb (get_or l 7 0 % 4) y.mode) 0 9
    ∷ lgk_no (get_or l 3 0)
    ∷ pick (compact_in l) 0 26
    ∷ []
    )

-- 7, 27, 5: the words are there, none is zero, and a sketch of this lg_k is no finer
unfoldable pub coupons_no : ℕ → List ℕ → ℕ
coupons_no lgk l =
    first_of (
    pick (leb ((layout_in l).words + 4 * coupon_count l) (length l)) 0 7
    ∷ pick (eqb (empty_in l) (coupon_count l)) 0 27
    ∷ pick (leb lgk (get_or l 3 0)) 0 5
    ∷ []
    )

-- the sketch's checks, as in feed, and then these
unfoldable pub feed_image_no : Sketch → List ℕ → List ℕ → List ℕ → List ℕ → ℕ
feed_image_no s regs aux scratch l = first_of (check_no (scratch_fits s.kind (length aux) (length scratch)) s regs aux ∷ preamble_no l ∷ coupons_no s.lg_k l ∷ [])

-- the place of an answer: that of the first zero word for 27
unfoldable pub empty_place : List ℕ → ℕ → ℕ
empty_place l n = pick (eqb n 27) (empty_in l) 0

-- feed_image: the words in order, until one finds no room; all of them have been looked at before
unfoldable pub feed_image_of : Sketch → List ℕ → List ℕ → List ℕ → List ℕ → Out
feed_image_of s regs aux scratch l =
    let n = feed_image_no s regs aux scratch l in
    pick (eqb n 0) (batch_of s regs aux (coupons_in l)) (refused_at n (empty_place l n) s regs aux)
