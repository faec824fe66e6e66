-- `image_list::check` meets its contract: one rung of the ladder after the other. Assumes nothing.
use mathlib.Core.Path.{◌≡◌, sym, ap, ◌∙◌, subst}
use mathlib.Core.List.{List}
use Prim.Native.Nat.{ℕ, ◌+◌, ◌-◌, ◌*◌, ◌≤◌, ◌<◌}
use native.Mathlib.Omega.{arith}
use lib.Dec.{eqb}
use lib.ListN.{length, get_or, take, drop}
use Rattle.model.specs.Pick.{first}
use Rattle.std.specs.Prelude.{Option, Some, None}
use Rattle.std.specs.List.{position, range_with_len}
use Rattle.model.specs.Packed.{slot_at, unpacked}
use Rattle.model.proofs.packing.Packing.{get_or_unpacked}
use Rattle.image_list.proofs.Firsts.{first_found, first_none}
use Rattle.model.specs.Lists.{layout_in, coupon_count, empty_in}
use Rattle.image_list.specs.Read.{Read}
use Rattle.image_list.specs.declared.Coupons.{Coupons}
use Rattle.model.proofs.image.ListRungs.{preamble_long, short_words, empty_word, too_fine, coupons_right}
use Rattle.model.proofs.packing.ByteLists.{from_on}
use Rattle.image_list.proofs.Counted.{count_small}
use Rattle.image_list.proofs.check.Goals as goal
use Rattle.image_list.proofs.check.Goals.{Else-image-from}

module _ (l : List ℕ) (k : Coupons) (read : Read l k) where
  few : (k.count < 4294967296) × (k.words ≤ length l)
  few = (subst (λ (k : Coupons). k.count < 4294967296) (sym read.is) (count_small l), subst (λ (k : Coupons). k.words ≤ length l) (sym read.is) (preamble_long l read.passed).1)

  count_is : k.count ≡ coupon_count l
  count_is = ap (λ (k : Coupons). k.count) read.is

  -- the place of the first zero word
  abbrev found : Option ℕ
  found = position (λ i. eqb (slot_at 32 (take (length l - k.words) (drop k.words l)) i) 0) (range_with_len 0 k.count)

  same : (i : ℕ) → i < k.count → eqb (get_or (unpacked 32 k.count (drop k.words l)) i 0) 0 ≡ eqb (slot_at 32 (take (length l - k.words) (drop k.words l)) i) 0
  same i h = ap (λ (n : ℕ). eqb n 0) (get_or_unpacked 32 k.count (drop k.words l) i h ∙ ap (λ (x : List ℕ). slot_at 32 x i) (sym (from_on k.words l)))

  first_in : first (λ i. eqb (get_or (unpacked 32 k.count (drop k.words l)) i 0) 0) k.count ≡ empty_in l
  unfolding empty_in
  first_in = ap (λ (k : Coupons). first (λ i. eqb (get_or (unpacked 32 k.count (drop k.words l)) i 0) 0) k.count) read.is

  one : {i : ℕ} → Some i ≡ found → (i < k.count) × (i ≡ empty_in l)
  one e = let h = first_found _ _ k.count same e in (h.0, h.1 ∙ first_in)

  none : None ≡ found → empty_in l ≡ coupon_count l
  none e = sym first_in ∙ first_none _ _ k.count same e ∙ count_is

whole : (c : Else-image-from) → let l = c.args.image.now in (layout_in l).words + 4 * coupon_count l ≤ length l
whole c =
    let l = c.args.image.now in subst (λ (k : Coupons). k.words + 4 * k.count ≤ length l) c.requires.is c.if-image-from.false

pub overflow_mul-many : goal.overflow_mul-many
overflow_mul-many c = omega (arith, few _ _ c.requires)

pub overflow_add-from : goal.overflow_add-from
overflow_add-from c = omega (arith, few _ _ c.requires)

pub returns-then-image-from : goal.returns-then-image-from
returns-then-image-from c =
    let l = c.args.image.now in
    short_words l _ (subst (λ (k : Coupons). length l < k.words + 4 * k.count) c.requires.is c.if-image-from.true)

pub overflow_cast-result : goal.overflow_cast-result
overflow_cast-result c = omega (arith, few _ _ c.requires, one _ _ c.requires c.in-Some.ensures)

pub returns-in-Some : goal.returns-in-Some
returns-in-Some c =
    let r = c.requires in
    let e = one _ _ r c.in-Some.ensures in
    let n = count_is _ _ r in
    rw e.1 (empty_word _ _ (whole (goal.at.returns-in-Some c).Else-image-from) (λ z. omega (arith, e)))

pub returns-then-image-lg_k : goal.returns-then-image-lg_k
returns-then-image-lg_k c =
    let past = goal.at.returns-then-image-lg_k c in
    too_fine _ _ (whole past.Else-image-from) (none _ _ c.requires c.in_default.ensures) c.if-image-lg_k.true

pub returns : goal.returns
returns c =
    let past = goal.at.returns c in
    coupons_right _ _ (whole past.Else-image-from) (none _ _ c.requires c.in_default.ensures) c.if-image-lg_k.false
