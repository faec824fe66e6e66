-- The ladders of an image of coupons and of feed_image, one law for each place where a function returns; and what is known where one has passed. Assumes nothing.
use mathlib.Core.Path.{◌≡◌, refl, ◌∙◌, ap, ap₂}
use mathlib.Core.Bool.{Bool, true, false}
use mathlib.Core.List.{List, [], ◌∷◌}
use Prim.Native.Nat.{ℕ, ◌+◌, ◌*◌, ◌/◌, ◌%◌, ◌≤◌, ◌<◌}
use native.Mathlib.Omega.{arith}
use lib.Dec.{eqb}
use lib.ListN.{length, get_or}
use borrow.Author.Tests.{eq-eqb, ne_eqb, le-leb, lt-leb}
use Rattle.model.specs.Pick.{pick, both, first_of}
use Rattle.model.specs.Answers.{said}
use Rattle.model.specs.Check.{lgk_no, scratch_fits, check_no}
use Rattle.model.specs.Image.{compact_in}
use Rattle.model.specs.Lists.{Layout, layout_in, coupon_count, empty_in, preamble_no, coupons_no, feed_image_no, empty_place}
use Rattle.model.specs.declared.Sketch.{Sketch}
use Rattle.model.proofs.order.Tells.{tells_le, tells_pass}
use Rattle.model.proofs.calls.Ladder.{Says, says_self, says_pass, says_next, says_last}
use Rattle.model.proofs.calls.Rungs.{pass, stop, done, through, halt, last}

module _ (l : List ℕ) where
  abbrev y : Layout
  y = layout_in l

  abbrev pub begun : Bool
  begun = both (eqb (get_or l 0 0) y.preamble) (both (eqb (get_or l 1 0) 1) (eqb (get_or l 2 0) 7))

  -- ---- what stands before the words
  pub short_8 : length l < 8 → 7 ≡ preamble_no l
  unfolding preamble_no
  short_8 h = stop _ 7 _ refl (lt-leb 8 _ h)

  module _ (a : 8 ≤ length l) where
    pub other_header : begun ≡ false → 8 ≡ preamble_no l
    unfolding preamble_no
    other_header e = pass _ 7 _ (le-leb 8 _ a) (stop _ 8 _ refl e)

    module _ (b : begun ≡ true) where
      pub short_set : length l < y.words → 7 ≡ preamble_no l
      unfolding preamble_no
      short_set h = pass _ 7 _ (le-leb 8 _ a) (pass _ 8 _ b (stop _ 7 _ refl (lt-leb _ _ h)))

      module _ (c : y.words ≤ length l) where
        pub other_mode : (get_or l 7 0 % 4 ≡ y.mode → ⊥) → 9 ≡ preamble_no l
        unfolding preamble_no
        other_mode h = pass _ 7 _ (le-leb 8 _ a) (pass _ 8 _ b (pass _ 7 _ (le-leb _ _ c) (stop _ 9 _ refl (ne_eqb _ _ h))))

        module _ (d : get_or l 7 0 % 4 ≡ y.mode) where
          -- the last two: LGK, FORM
          sized : {m : ℕ} → m ≡ first_of (lgk_no (get_or l 3 0) ∷ pick (compact_in l) 0 26 ∷ []) → m ≡ preamble_no l
          unfolding preamble_no
          sized e = pass _ 7 _ (le-leb 8 _ a) (pass _ 8 _ b (pass _ 7 _ (le-leb _ _ c) (pass _ 9 _ (eq-eqb _ _ d) e)))

          pub other_size : 2 ≡ lgk_no (get_or l 3 0) → 2 ≡ preamble_no l
          other_size e = sized (halt _ _ e (λ z. omega arith))

          module _ (e : lgk_no (get_or l 3 0) ≡ 0) where
            pub other_form : (get_or l 5 0 / 8 % 2 ≡ 1 → ⊥) → 26 ≡ preamble_no l
            unfolding compact_in
            other_form h = sized (through _ _ e (stop _ 26 _ refl (ne_eqb _ _ h)))

            pub preamble_right : get_or l 5 0 / 8 % 2 ≡ 1 → 0 ≡ preamble_no l
            unfolding compact_in
            preamble_right h = sized (through _ _ e (pass _ 26 _ (eq-eqb _ _ h) done))

  -- where it has passed, the words begin within the image
  says : Says (preamble_no l) ((8 ≤ length l) × ((begun ≡ true) × ((y.words ≤ length l) × ((eqb (get_or l 7 0 % 4) y.mode ≡ true) × ((lgk_no (get_or l 3 0) ≡ 0) × ((compact_in l ≡ true) × Unit {0}))))))
  unfolding preamble_no
  says =
      says_next _ _ (says_pass _ 6 (tells_le 8 (length l))) (says_next _ _ (says_pass _ 7 (tells_pass begun)) (says_next _ _ (says_pass _ 6 (tells_le y.words (length l)))
      (says_next _ _ (says_pass _ 8 (tells_pass (eqb (get_or l 7 0 % 4) y.mode))) (says_next _ _ (says_self (lgk_no (get_or l 3 0))) (says_next _ _ (says_pass _ 25 (tells_pass (compact_in l))) says_last)))))

  pub preamble_long : preamble_no l ≡ 0 → (8 ≤ length l) × (y.words ≤ length l)
  preamble_long e = let p = says.0 e in (p.0, p.1.1.0)

  -- ---- the words, and the sketch
  module _ (lgk : ℕ) where
    abbrev Told : ℕ → ℕ → Type 0
    Told n p = said n p ≡ said (coupons_no lgk l) (empty_place l (coupons_no lgk l))

    told : (n p : ℕ) → n ≡ coupons_no lgk l → p ≡ empty_place l n → Told n p
    told n p e f = ap₂ said e (f ∙ ap (empty_place l) e)

    pub short_words : length l < y.words + 4 * coupon_count l → Told 7 0
    unfolding coupons_no empty_place
    short_words h = told 7 0 (stop _ 7 _ refl (lt-leb _ _ h)) refl

    module _ (a : y.words + 4 * coupon_count l ≤ length l) where
      pub empty_word : (empty_in l ≡ coupon_count l → ⊥) → Told 27 (empty_in l)
      unfolding coupons_no empty_place
      empty_word h = told 27 (empty_in l) (pass _ 7 _ (le-leb _ _ a) (stop _ 27 _ refl (ne_eqb _ _ h))) refl

      module _ (b : empty_in l ≡ coupon_count l) where
        pub too_fine : get_or l 3 0 < lgk → Told 5 0
        unfolding coupons_no empty_place
        too_fine h = told 5 0 (pass _ 7 _ (le-leb _ _ a) (pass _ 27 _ (eq-eqb _ _ b) (stop _ 5 _ refl (lt-leb _ _ h)))) refl

        pub coupons_right : lgk ≤ get_or l 3 0 → Told 0 0
        unfolding coupons_no empty_place
        coupons_right h = told 0 0 (pass _ 7 _ (le-leb _ _ a) (pass _ 27 _ (eq-eqb _ _ b) (pass _ 5 _ (le-leb _ _ h) done))) refl

    -- where they have passed, the words are there
    pub coupons_long : coupons_no lgk l ≡ 0 → y.words + 4 * coupon_count l ≤ length l
    unfolding coupons_no
    coupons_long e =
        ((says_next _ _ (says_pass _ 6 (tells_le (y.words + 4 * coupon_count l) (length l)))
        (says_next _ _ (says_pass _ 26 (tells_pass (eqb (empty_in l) (coupon_count l)))) (says_next _ _ (says_pass _ 4 (tells_le lgk (get_or l 3 0))) says_last))).0 e).0

-- ---- the call: the sketch's checks, and then these
module _ (s : Sketch) (regs aux scratch l : List ℕ) where
  abbrev mine : ℕ
  mine = check_no (scratch_fits s.kind (length aux) (length scratch)) s regs aux

  pub image_sketch : (n : ℕ) → n ≡ mine → (n ≡ 0 → ⊥) → n ≡ feed_image_no s regs aux scratch l
  unfolding feed_image_no
  image_sketch n e h = halt mine _ e h

  module _ (good : mine ≡ 0) where
    pub image_preamble : (n : ℕ) → n ≡ preamble_no l → (n ≡ 0 → ⊥) → n ≡ feed_image_no s regs aux scratch l
    unfolding feed_image_no
    image_preamble n e h = through mine _ good (halt (preamble_no l) _ e h)

    pub image_coupons : preamble_no l ≡ 0 → (n : ℕ) → n ≡ coupons_no s.lg_k l → n ≡ feed_image_no s regs aux scratch l
    unfolding feed_image_no
    image_coupons b n e = through mine _ good (through (preamble_no l) _ b (last (coupons_no s.lg_k l) e))
