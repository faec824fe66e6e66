-- What feed, feed_image and merge leave of any sketch in good order, and that two words a register are room enough. Assumes nothing.
use mathlib.Core.Path.{◌≡◌, refl, sym, ap, ◌∙◌, subst}
use mathlib.Core.Bool.{Bool, true, false}
use mathlib.Core.List.{List, [], ◌∷◌}
use mathlib.Core.Logic.{inl, inr}
use Prim.Native.Nat.{ℕ, zero, suc, ◌+◌, ◌-◌, ◌*◌, ◌^◌, ◌≤◌, ◌<◌, suc-le-suc}
use native.Mathlib.Nat.{not-suc-le-zero, le_of_suc-le-suc, mod-lt}
use native.Mathlib.Omega.{arith}
use lib.Dec.{eqb, leb}
use lib.ListN.{length, get_or, take}
use lib.Pow.{pow_pos}
use borrow.Author.Tests.{lt-leb}
use Rattle.model.specs.Pick.{pick, all, first}
use Rattle.model.specs.Coupon.{slot, home}
use Rattle.model.specs.Registers.{fed, least, above}
use Rattle.model.specs.Table.{base_for, size_for, table_size}
use Rattle.model.specs.Four.{State}
use Rattle.model.specs.Sketch.{registers, Good}
use Rattle.model.specs.Check.{scratch_fits, check_no}
use Rattle.model.specs.Packed.{Bytes}
use Rattle.model.specs.Calls.{Out, refused_at, batch_of, feed_of}
use Rattle.model.specs.Lists.{coupons_in, feed_image_no, empty_place, feed_image_of}
use Rattle.model.specs.Claims.{Unless, refused, passed, SketchLines, Scratch, FeedLine, Keeps, FedTaken, FeedKeeps, FeedImageKeeps, MergeKeeps, TwiceIsRoom}
use Rattle.model.specs.declared.Sketch.{Sketch}
use Rattle.model.proofs.order.Tells.{tells_all, tells_le}
use Rattle.model.proofs.table.Counting.{marks_le, above_marks}
use Rattle.model.proofs.registers.Raising.{length_fed}
use Rattle.model.proofs.table.Shape.{size_some, size_shorter}
use Rattle.model.proofs.order.Sound.{Has}
use Rattle.model.proofs.histories.Demand1.{feed_lines}
use Rattle.model.proofs.calls.Has.{ok_check, batch_has, feed_is, merge_says, merge_has, registers_long}
use Rattle.model.proofs.calls.Picked.{picked}
use Rattle.model.proofs.image.Lists.{feed_image_says, feed_image_either}

pub keeps_has : {kind lgk : ℕ} {a : State} {R : List ℕ} {s : Sketch} {regs aux : List ℕ} → Has kind lgk a s regs aux → a.regs ≡ R → Keeps kind lgk R s regs aux
keeps_has h e = record { good = h.good; same_kind = h.same_kind; same_size = h.same_size; holds = h.holds ∙ e }

-- a call that feeds a batch, or gives back what it got
fed_or_back : (s : Sketch) (regs aux cs : List ℕ) (n p : ℕ) → Good s regs aux → FedTaken s regs aux cs (pick (eqb n 0) (batch_of s regs aux cs) (refused_at n p s regs aux))
unfolding fed
fed_or_back s regs aux cs n p g =
    picked n _ _ (FedTaken s regs aux cs) (λ e. let m = batch_has s regs aux cs g in keeps_has m.2 m.3) (λ h. record { good = g; same_kind = refl; same_size = refl; holds = refl })

pub feed_keeps : FeedKeeps
unfolding feed_of
feed_keeps s regs aux scratch cs = fed_or_back s regs aux cs (check_no (scratch_fits s.kind (length aux) (length scratch)) s regs aux) 0

pub feed_image_keeps : FeedImageKeeps
unfolding feed_image_of
feed_image_keeps s regs aux scratch l = let n = feed_image_no s regs aux scratch l in fed_or_back s regs aux (coupons_in l) n (empty_place l n)

pub merge_keeps : MergeKeeps
merge_keeps t tregs s sregs saux g h e le =
    let m = merge_has t tregs [] s sregs saux g h ((merge_says t tregs s sregs saux).1 ((e, ok_check true t tregs [] refl g), (ok_check true s sregs saux refl h, le))) in
    (m.0, keeps_has m.1 refl)

-- ---- room
-- a table for all registers has at most two words for each
pub twice_room : (lgk : ℕ) → 4 ≤ lgk → lgk ≤ 21 → table_size (base_for lgk) (2 ^ lgk) ≤ 2 * 2 ^ lgk
unfolding all table_size size_for base_for first
twice_room lgk l h =
    let e : 4 + (lgk - 4) ≡ lgk = omega arith in
    let test = tells_all (λ i. leb (table_size (base_for (4 + i)) (2 ^ (4 + i))) (2 * 2 ^ (4 + i))) (λ i. table_size (base_for (4 + i)) (2 ^ (4 + i)) ≤ 2 * 2 ^ (4 + i)) 18 (λ i. tells_le _ _) in
    subst (λ (n : ℕ). table_size (base_for n) (2 ^ n) ≤ 2 * 2 ^ n) e (test.0 refl (lgk - 4) (omega arith))

-- where a register is below, not all are above
above_less : (n : ℕ) (R : List ℕ) (s : ℕ) → s < length R → get_or R s 0 < n → above n R < length R
unfolding above
above_less n [] s l h = absurd (not-suc-le-zero l)
above_less n (v ∷ vs) zero l h = rw (lt-leb n v h) (let e = above_marks n vs in let m = marks_le (λ s. leb n (get_or vs s 0)) (length vs) in omega arith)
above_less n (v ∷ vs) (suc s) l h = go (leb n v) (above_less n vs s (le_of_suc-le-suc l) h)
  where
    go : (b : Bool) → above n vs < length vs → pick b (suc (above n vs)) (above n vs) < suc (length vs)
    go true k = suc-le-suc k
    go false k = omega arith

feed_room : (s : Sketch) (regs aux scratch cs : List ℕ) → Bytes regs → 2 * 2 ^ s.lg_k ≤ length aux → (feed_of s regs aux scratch cs).no ≡ 6 → ⊥
feed_room s regs aux scratch cs by room e = kind (feed_lines s regs aux scratch cs by) e
  where
    line : (n : ℕ) {a : ℕ} {Q : Type 0} {next : ℕ → Type 0} → (n ≡ 6 → ⊥) → (Q → next a → a ≡ 6 → ⊥) → Unless n Q next a → a ≡ 6 → ⊥
    line n m f (refused h q) z = m (sym q ∙ z)
    line n m f (passed q r) z = f q r z

    fits : 4 ≤ s.lg_k → s.lg_k ≤ 21 → Good s regs aux → {count answer : ℕ} → FeedLine s regs aux cs count answer → answer ≡ 6 → ⊥
    fits lo hi g (inl x) z = let y = x.0 in omega arith
    fits lo hi g {count} (inr (x, m, (four, n), r)) z =
        let k = 2 ^ s.lg_k in
        let R = fed k (registers s regs aux) (take count cs) in
        let long : length R ≡ k = length_fed k (registers s regs aux) (take count cs) ∙ registers_long s regs aux g in
        let less = above_less (least R + 15) R (home k (get_or cs count 0)) (rw long (mod-lt (slot (get_or cs count 0)) (pow_pos s.lg_k))) n.was in
        let a = size_some (base_for s.lg_k) (suc (above (least R + 15) R)) (omega arith) in
        let b = size_shorter (base_for s.lg_k) (suc (above (least R + 15) R)) k (omega arith) in
        let c = twice_room s.lg_k lo hi in
        let d = n.short in
        omega arith

    kind : {a count : ℕ} → SketchLines (Scratch s.kind aux scratch) s regs aux (FeedLine s regs aux cs count) a → a ≡ 6 → ⊥
    kind = line 1 (λ z. omega arith) (λ p. line 2 (λ z. omega arith) (λ q. line 3 (λ z. omega arith) (λ r. line 3 (λ z. omega arith) (λ l. line 4 (λ z. omega arith) (λ g. fits q.0 q.1 g)))))

-- an image that is fed is fed as a batch, and none of its refusals is NO_ROOM
image_room : (s : Sketch) (regs aux scratch l : List ℕ) → Bytes regs → 2 * 2 ^ s.lg_k ≤ length aux → (feed_image_of s regs aux scratch l).no ≡ 6 → ⊥
unfolding feed_image_of
image_room s regs aux scratch l by room =
    picked (feed_image_no s regs aux scratch l) _ _ (λ (o : Out). o.no ≡ 6 → ⊥)
    (λ z e. feed_room s regs aux scratch (coupons_in l) by room (ap (λ (o : Out). o.no) (feed_is s regs aux scratch (coupons_in l) ((feed_image_says s regs aux scratch l).0 z).0) ∙ e))
    (λ h. feed_image_either (λ n. n ≡ 6 → ⊥) s regs aux scratch l (λ e. omega arith) (λ e. omega arith) (λ e. omega arith) (λ e. omega arith) (λ e. omega arith) (λ e. omega arith) (λ e. omega arith)
    (λ e. omega arith) (λ e. omega arith) (λ e. omega arith) (λ e. omega arith))

pub twice_is_room : TwiceIsRoom
twice_is_room s regs aux scratch cs l by room = (feed_room s regs aux scratch cs by room, image_room s regs aux scratch l by room)
