-- feed_image answers by the lines of the table, in their order. Assumes nothing.
use mathlib.Core.Path.{◌≡◌, refl, sym, ap, ◌∙◌, subst}
use mathlib.Core.Bool.{Bool, true, false}
use mathlib.Core.Logic.{◌⊎◌, inl, inr}
use mathlib.Core.List.{List, [], ◌∷◌}
use Prim.Native.Nat.{ℕ, ◌+◌, ◌*◌, ◌%◌, ◌≤◌, ◌<◌}
use native.Mathlib.Nat.{add-zero}
use native.Mathlib.Omega.{arith}
use lib.Dec.{eqb, leb}
use lib.ListN.{length, get_or, take, drop, take-append-drop}
use lib.Seq.{get_or-drop, length-take-le}
use borrow.Author.Tests.{eqb-true, eqb-false, eq-eqb, le-leb}
use Rattle.model.specs.Pick.{pick, both, first_of, first, Tells}
use Rattle.model.specs.Answers.{Said, said}
use Rattle.model.specs.Packed.{Bytes, slot_at}
use Rattle.model.specs.Check.{lgk_no, scratch_fits, check_no}
use Rattle.model.specs.Calls.{Out, batch_of}
use Rattle.model.specs.Image.{compact_in}
use Rattle.model.specs.Lists.{list_layout, set_layout, layout_in, coupon_count, coupons_in, empty_in, preamble_no, coupons_no, feed_image_no, empty_place, feed_image_of}
use Rattle.model.specs.Claims.{Wherever, found, nowhere, SketchLines, Scratch, FeedLine, CouponLines}
use Rattle.model.specs.declared.Sketch.{Sketch}
use Rattle.model.proofs.table.FirstLaws.{true_not_false, first_le, first_holds, first_before, first_upto}
use Rattle.model.proofs.packing.Digits.{digit_number}
use Rattle.model.proofs.packing.ByteLists.{bytes_drop, bytes_take}
use Rattle.model.proofs.order.Tells.{tells_as, tells_both, tells_le, tells_eq, tells_pass, tells_true}
use Rattle.model.proofs.order.Tests.{scratch_tells}
use Rattle.model.proofs.image.Fields.{slot_behind}
use Rattle.model.proofs.calls.Ladder.{said_by, plain, first_append, first_inside, first_one, lgk_says}
use Rattle.model.proofs.calls.Has.{ok_check, batch_line}
use Rattle.model.proofs.calls.Rungs.{through}
use Rattle.model.proofs.histories.Demand1.{call_no, sketch_lines}
use Rattle.model.proofs.image.Lists.{feed_image_says, place_by, feed_image_is}

-- ---- the count, by the layout
pub byte_slot : (l : List ℕ) (i : ℕ) → Bytes l → slot_at 8 (drop i l) 0 ≡ get_or l i 0
unfolding slot_at
byte_slot l i b = digit_number 256 (drop i l) (bytes_drop i l b) 0 ∙ get_or-drop i l 0 0 ∙ ap (λ (k : ℕ). get_or l k 0) (add-zero i)

word_slot : (l : List ℕ) → Bytes l → 8 ≤ length l → slot_at 32 (drop 8 l) 0 ≡ slot_at 32 l 2
word_slot l b h =
    sym (slot_behind 32 2 0 (take 8 l) (drop 8 l) (bytes_take 8 l b) (let e = length-take-le 8 l h in omega arith)) ∙ ap (λ (x : List ℕ). slot_at 32 x 2) (take-append-drop 8 l)

module _ (l : List ℕ) where
  pub count_list : Bytes l → get_or l 0 0 ≡ 2 → coupon_count l ≡ get_or l 6 0
  unfolding coupon_count
  count_list b e = rw e (byte_slot l 6 b)

  pub count_set : Bytes l → 8 ≤ length l → get_or l 0 0 ≡ 3 → coupon_count l ≡ slot_at 32 l 2
  unfolding coupon_count
  count_set b h e = rw e (word_slot l b h)

  -- a test that asks of a list one thing and of a set another
  tells_each : {P Q : Type 0} (t : Bool) → (get_or l 0 0 ≡ 2) ⊎ (get_or l 0 0 ≡ 3) → (get_or l 0 0 ≡ 2 → Tells t P) → (get_or l 0 0 ≡ 3 → Tells t Q)
      → Tells t ((get_or l 0 0 ≡ 2 → P) × (get_or l 0 0 ≡ 3 → Q))
  tells_each t (inl e) p q = tells_as t (λ x. ((λ d. x), λ d. absurd (omega arith))) (λ x. x.0 e) (p e)
  tells_each t (inr e) p q = tells_as t (λ x. ((λ d. absurd (omega arith)), λ d. x)) (λ x. x.1 e) (q e)

  -- byte 0 is its layout's exactly for a list and a set
  first_tells : Tells (eqb (get_or l 0 0) (layout_in l).preamble) ((get_or l 0 0 ≡ 2) ⊎ (get_or l 0 0 ≡ 3))
  first_tells = go (eqb (get_or l 0 0) 3) refl
    where
      go : (b : Bool) → eqb (get_or l 0 0) 3 ≡ b → Tells (eqb (get_or l 0 0) (pick b set_layout list_layout).preamble) ((get_or l 0 0 ≡ 2) ⊎ (get_or l 0 0 ≡ 3))
      go true q = ((λ e. inr (eqb-true _ 3 q)), λ e. absurd (true_not_false q e))
      go false q = ((λ e. inl (eqb-true _ 2 e)), λ e x. other e x)
        where
          other : eqb (get_or l 0 0) 2 ≡ false → (get_or l 0 0 ≡ 2) ⊎ (get_or l 0 0 ≡ 3) → ⊥
          other e (inl x) = eqb-false _ 2 e x
          other e (inr x) = eqb-false _ 3 q x

  -- ---- the words
  abbrev Zero : ℕ → Type 0
  Zero i = (i < coupon_count l) × ((get_or (coupons_in l) i 0 ≡ 0) × ((j : ℕ) → j < i → get_or (coupons_in l) j 0 ≡ 0 → ⊥))

  abbrev is_zero : ℕ → Bool
  is_zero i = eqb (get_or (coupons_in l) i 0) 0

  pub zero_at : (empty_in l ≡ coupon_count l → ⊥) → Zero (empty_in l)
  unfolding empty_in
  zero_at h =
      let m = first_le is_zero (coupon_count l) in
      let i : first is_zero (coupon_count l) < coupon_count l = omega arith in
      (i, (eqb-true _ 0 (first_holds is_zero (coupon_count l) i), λ j d. eqb-false _ 0 (first_before is_zero (coupon_count l) j d)))

  pub zero_none : empty_in l ≡ coupon_count l → (i : ℕ) → Zero i → ⊥
  unfolding empty_in
  zero_none e i z = let m = first_upto is_zero (coupon_count l) i (eq-eqb _ 0 z.1.0) in let n = z.0 in omega arith

  -- the first zero word decides, or hands on
  empty_decide : (ns : List ℕ) {next : Said → Type 0} → (empty_in l ≡ coupon_count l → next (said_by (empty_place l) (first_of ns)))
      → Wherever 27 Zero next (said_by (empty_place l) (first_of (pick (eqb (empty_in l) (coupon_count l)) 0 27 ∷ ns)))
  unfolding first_of empty_place
  empty_decide ns {next} f = go (eqb (empty_in l) (coupon_count l)) refl
    where
      go : (b : Bool) → eqb (empty_in l) (coupon_count l) ≡ b → Wherever 27 Zero next (said_by (empty_place l) (first_of (pick b 0 27 ∷ ns)))
      go true q = nowhere (zero_none (eqb-true _ _ q)) (f (eqb-true _ _ q))
      go false q = found (empty_in l) (zero_at (eqb-false _ _ q)) refl

  -- ---- where every test passes, nothing is refused
  all_right : (lgk : ℕ) → 8 ≤ length l → both (eqb (get_or l 0 0) (layout_in l).preamble) (both (eqb (get_or l 1 0) 1) (eqb (get_or l 2 0) 7)) ≡ true → leb (layout_in l).words (length l) ≡ true
      → eqb (get_or l 7 0 % 4) (layout_in l).mode ≡ true → lgk_no (get_or l 3 0) ≡ 0 → compact_in l ≡ true → leb ((layout_in l).words + 4 * coupon_count l) (length l) ≡ true → empty_in l ≡ coupon_count l
      → lgk ≤ get_or l 3 0 → (preamble_no l ≡ 0) × (coupons_no lgk l ≡ 0)
  unfolding preamble_no coupons_no first_of
  all_right lgk a b c d e f g h i = (rw (le-leb 8 (length l) a, b, c, d, e, f), rw (g, eq-eqb (empty_in l) (coupon_count l) h, le-leb lgk (get_or l 3 0) i))

  -- ---- the lines, in front of what else may be answered
  coupon_lines : Bytes l → (lgk m : ℕ) {next : Said → Type 0} → (preamble_no l ≡ 0 → coupons_no lgk l ≡ 0 → next (said_by (empty_place l) m))
      → CouponLines lgk l next (said_by (empty_place l) (first_of (preamble_no l ∷ coupons_no lgk l ∷ m ∷ [])))
  unfolding preamble_no coupons_no lgk_no empty_place
  coupon_lines by lgk m {next} f =
      subst (λ (n : ℕ). CouponLines lgk l next (said_by (empty_place l) n)) (sym (first_inside _ _ _ (first_inside _ _ _ refl)))
      (plain (empty_place l) _ 6 _ refl (tells_le 8 (length l)) (λ p1.
      let t2 = tells_both _ _ first_tells (tells_both _ _ (tells_eq (get_or l 1 0) 1) (tells_eq (get_or l 2 0) 7)) in
      plain (empty_place l) _ 7 _ refl t2 (λ p2.
      let t3 = tells_as _ (λ x. x.1) (λ x. ((λ e. p1), x)) (tells_each (leb (layout_in l).words (length l)) p2.0 (λ e. rw e (tells_le 8 (length l))) (λ e. rw e (tells_le 12 (length l)))) in
      plain (empty_place l) _ 6 _ refl t3 (λ p3.
      let t4 = tells_each (eqb (get_or l 7 0 % 4) (layout_in l).mode) p2.0 (λ e. rw e (tells_eq (get_or l 7 0 % 4) 0)) (λ e. rw e (tells_eq (get_or l 7 0 % 4) 1)) in
      plain (empty_place l) _ 8 _ refl t4 (λ p4.
      plain (empty_place l) _ 1 _ refl (tells_both _ _ (tells_le 4 (get_or l 3 0)) (tells_le (get_or l 3 0) 21)) (λ p5.
      plain (empty_place l) _ 25 _ refl (tells_pass (compact_in l)) (λ p6.
      let t7 = tells_each (leb ((layout_in l).words + 4 * coupon_count l) (length l)) p2.0 (λ e. rw (count_list by e, e) (tells_le (8 + 4 * get_or l 6 0) (length l))) (λ e. rw (count_set by p1 e, e) (tells_le (12 + 4 * slot_at 32 l 2) (length l))) in
      plain (empty_place l) _ 6 _ refl t7 (λ p7.
      empty_decide _ (λ p8.
      plain (empty_place l) _ 4 _ refl (tells_le lgk (get_or l 3 0)) (λ p9.
      let r = all_right lgk p1 (tells_true _ t2 p2) (tells_true _ t3 p3) (tells_true _ t4 p4) ((lgk_says (get_or l 3 0)).1 p5) p6 (tells_true _ t7 p7) p8 p9 in
      rw (first_one m) (f r.0 r.1)))))))))))

-- ---- the call
image_no : (s : Sketch) (regs aux scratch l : List ℕ)
    → (feed_image_of s regs aux scratch l).no ≡ first_of (check_no (scratch_fits s.kind (length aux) (length scratch)) s regs aux ∷ preamble_no l ∷ coupons_no s.lg_k l ∷ (batch_of s regs aux (coupons_in l)).no ∷ [])
unfolding feed_image_of feed_image_no
image_no s regs aux scratch l =
    let n = check_no (scratch_fits s.kind (length aux) (length scratch)) s regs aux in
    call_no (λ (o : Out). o.no) (first_of (n ∷ preamble_no l ∷ coupons_no s.lg_k l ∷ [])) _ _ refl ∙ first_append (n ∷ preamble_no l ∷ coupons_no s.lg_k l ∷ []) _

pub feed_image_lines : (s : Sketch) (regs aux scratch l : List ℕ) → Bytes regs → Bytes l → let o = feed_image_of s regs aux scratch l in
    SketchLines (Scratch s.kind aux scratch) s regs aux (λ n. CouponLines s.lg_k l (λ a. FeedLine s regs aux (coupons_in l) o.count a.no) (said n o.place)) o.no
feed_image_lines s regs aux scratch l by bl =
    let o = feed_image_of s regs aux scratch l in
    let b = batch_of s regs aux (coupons_in l) in
    let t = scratch_tells s.kind aux scratch in
    let ns : List ℕ = preamble_no l ∷ coupons_no s.lg_k l ∷ b.no ∷ [] in
    subst (SketchLines (Scratch s.kind aux scratch) s regs aux _) (sym (image_no s regs aux scratch l))
    (sketch_lines _ t s regs aux by ns (λ k g.
    let e = ok_check _ s regs aux (tells_true _ t k) g in
    let place : o.place ≡ empty_place l (first_of ns) = place_by s regs aux scratch l ∙ ap (empty_place l) (image_no s regs aux scratch l ∙ sym (through _ ns e refl)) in
    subst (λ (p : ℕ). CouponLines s.lg_k l (λ a. FeedLine s regs aux (coupons_in l) o.count a.no) (said (first_of ns) p)) (sym place)
    (coupon_lines l bl s.lg_k b.no (λ p c.
    subst (λ (n : ℕ). FeedLine s regs aux (coupons_in l) n b.no) (sym (ap (λ (q : Out). q.count) (feed_image_is s regs aux scratch l ((feed_image_says s regs aux scratch l).1 (e, (p, c)))))) (batch_line s regs aux (coupons_in l) g)))))
