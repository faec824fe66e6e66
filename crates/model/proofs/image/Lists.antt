-- Of feed_image: when it is not refused, that it is then feed's batch, its numbers, and its place. Assumes nothing.
use mathlib.Core.Path.{◌≡◌, refl, sym, ap, ap₂, ◌∙◌}
use mathlib.Core.Logic.{⊎_elim}
use mathlib.Core.List.{List}
use Prim.Native.Nat.{ℕ, ◌+◌, ◌*◌, ◌%◌}
use native.Mathlib.Omega.{arith}
use lib.Dec.{eqb, leb}
use lib.ListN.{length, get_or}
use borrow.Author.Tests.{eq-eqb, ne_eqb}
use Rattle.model.specs.Pick.{pick, both, first_of}
use Rattle.model.specs.Check.{scratch_fits, check_no}
use Rattle.model.specs.Calls.{Out, refused_at, batch_of, feed_of}
use Rattle.model.specs.Image.{compact_in}
use Rattle.model.specs.Lists.{layout_in, coupon_count, coupons_in, empty_in, preamble_no, coupons_no, feed_image_no, empty_place, feed_image_of}
use Rattle.model.specs.Claims.{FeedsAsBatch}
use Rattle.model.specs.declared.Sketch.{Sketch}
use Rattle.model.proofs.calls.Ladder.{Says, says_self, says_as, says_next, says_last, first_one}
use Rattle.model.proofs.calls.Picked.{picked}
use Rattle.model.proofs.calls.Rungs.{first_either, pick_either, first_none, lgk_either}
use Rattle.model.proofs.calls.Places.{check_either, check_low}
use Rattle.model.proofs.calls.Batches.{batch_no, batch_place}

pub feed_image_says : (s : Sketch) (regs aux scratch l : List ℕ)
    → Says (feed_image_no s regs aux scratch l) ((check_no (scratch_fits s.kind (length aux) (length scratch)) s regs aux ≡ 0) × ((preamble_no l ≡ 0) × (coupons_no s.lg_k l ≡ 0)))
unfolding feed_image_no
feed_image_says s regs aux scratch l =
    says_as _ (says_next _ _ (says_self _) (says_next _ _ (says_self (preamble_no l)) (says_next _ _ (says_self (coupons_no s.lg_k l)) says_last))) (λ p. search) (λ p. search)

-- its refusals: what holds of each holds of the number
pub preamble_either : (P : ℕ → Type 0) (l : List ℕ) → P 0 → P 2 → P 7 → P 8 → P 9 → P 26 → P (preamble_no l)
unfolding preamble_no
preamble_either P l a c g h i j =
    let y = layout_in l in
    first_either P _ _ (pick_either P (leb 8 (length l)) a g)
    (first_either P _ _ (pick_either P (both (eqb (get_or l 0 0) y.preamble) (both (eqb (get_or l 1 0) 1) (eqb (get_or l 2 0) 7))) a h)
    (first_either P _ _ (pick_either P (leb y.words (length l)) a g)
    (first_either P _ _ (pick_either P (eqb (get_or l 7 0 % 4) y.mode) a i)
    (first_either P _ _ (lgk_either P (get_or l 3 0) a c) (first_either P _ _ (pick_either P (compact_in l) a j) (first_none P a))))))

pub feed_image_either : (P : ℕ → Type 0) (s : Sketch) (regs aux scratch l : List ℕ) → P 0 → P 1 → P 2 → P 3 → P 4 → P 5 → P 7 → P 8 → P 9 → P 26 → P 27 → P (feed_image_no s regs aux scratch l)
unfolding feed_image_no coupons_no
feed_image_either P s regs aux scratch l a b c d e f g h i j k =
    first_either P _ _ (check_either P _ s regs aux a b c d e)
    (first_either P _ _ (preamble_either P l a c g h i j)
    (first_either P _ _
    (first_either P _ _ (pick_either P (leb ((layout_in l).words + 4 * coupon_count l) (length l)) a g)
    (first_either P _ _ (pick_either P (eqb (empty_in l) (coupon_count l)) a k) (first_either P _ _ (pick_either P (leb s.lg_k (get_or l 3 0)) a f) (first_none P a))))
    (first_none P a)))

-- ---- the place
pub empty_none : (l : List ℕ) (n : ℕ) → (n ≡ 27 → ⊥) → empty_place l n ≡ 0
unfolding empty_place
empty_none l n h = rw (ne_eqb n 27 h)

-- it goes by the number, whatever was done
pub place_by : (s : Sketch) (regs aux scratch l : List ℕ) → let o = feed_image_of s regs aux scratch l in o.place ≡ empty_place l o.no
unfolding feed_image_of
place_by s regs aux scratch l =
    picked (feed_image_no s regs aux scratch l) _ _ (λ (o : Out). o.place ≡ empty_place l o.no)
    (λ z. batch_place s regs aux (coupons_in l) ∙ sym (empty_none l _ (λ e. ⊎_elim (λ q. omega arith) (λ q. omega arith) (batch_no s regs aux (coupons_in l))))) (λ h. refl)

pub feed_image_place : (s : Sketch) (regs aux scratch l : List ℕ) → let o = feed_image_of s regs aux scratch l in (o.no ≡ 27 → ⊥) → o.place ≡ 0
feed_image_place s regs aux scratch l h = place_by s regs aux scratch l ∙ empty_none l _ h

-- ---- where the image is not refused
pub feed_image_is : (s : Sketch) (regs aux scratch l : List ℕ) → feed_image_no s regs aux scratch l ≡ 0 → feed_image_of s regs aux scratch l ≡ batch_of s regs aux (coupons_in l)
unfolding feed_image_of
feed_image_is s regs aux scratch l e = rw (eq-eqb (feed_image_no s regs aux scratch l) 0 e)

check_alone : (s : Sketch) (regs aux scratch l : List ℕ) → preamble_no l ≡ 0 → coupons_no s.lg_k l ≡ 0
    → feed_image_no s regs aux scratch l ≡ check_no (scratch_fits s.kind (length aux) (length scratch)) s regs aux
unfolding feed_image_no first_of
check_alone s regs aux scratch l e f = rw (e, f) (first_one (check_no (scratch_fits s.kind (length aux) (length scratch)) s regs aux))

pub feeds_as_batch : FeedsAsBatch
unfolding feed_image_of feed_of
feeds_as_batch s regs aux scratch l e f =
    let n = check_no (scratch_fits s.kind (length aux) (length scratch)) s regs aux in
    let is = check_alone s regs aux scratch l e f in
    ap₂ (λ (m p : ℕ). pick (eqb m 0) (batch_of s regs aux (coupons_in l)) (refused_at m p s regs aux)) is (ap (empty_place l) is ∙ empty_none l n (λ q. let h = check_low (scratch_fits s.kind (length aux) (length scratch)) s regs aux in omega arith))
