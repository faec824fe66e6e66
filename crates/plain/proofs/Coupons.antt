-- Coupons into packed registers: one as the code does it, and what it leaves for the next. Assumes nothing.
use mathlib.Core.Path.{◌≡◌, sym, ◌∙◌, subst}
use mathlib.Core.List.{List, [], ◌∷◌}
use Prim.Native.Nat.{ℕ, max, ◌-◌, ◌*◌, ◌/◌, ◌^◌, ◌≤◌, ◌<◌}
use native.Mathlib.Omega.{arith}
use lib.ListN.{get_or}
use Rattle.model.specs.Coupon.{value, home}
use Rattle.model.specs.Registers.{fed, count_of}
use Rattle.model.specs.Packed.{number, slot_at, unpacked, Put}
use Rattle.model.specs.Sketch.{Shaped}
use Rattle.model.proofs.packing.Packing.{length_unpacked, get_or_unpacked, put_none, put_raised, put_above}
use Rattle.model.proofs.registers.Lowest.{count_left, count_same}
use Rattle.coupon.proofs.Masks.{home_in}
use Rattle.plain.specs.Cells.{Held, Counted, Taken, Given}

-- ---- one coupon: it changes nothing, is the first for its register, or a larger one
module _ {w lgk zeros : ℕ} {regs : List ℕ} (counted : Counted w lgk zeros regs) (c : ℕ) {s v old : ℕ} (at : s ≡ home (2 ^ lgk) c) (new : v ≡ value c) (was : old ≡ slot_at w regs s) where
  abbrev R : List ℕ
  R = unpacked w (2 ^ lgk) regs

  inside : s < 2 ^ lgk
  inside = rw at (home_in lgk c)

  cell : get_or R s 0 ≡ old
  cell = get_or_unpacked w (2 ^ lgk) regs s inside ∙ sym was

  taken : (x : ℕ) (after : List ℕ) (z : ℕ) → x ≡ max old v → Put w regs s x after → z ≡ count_of 0 (unpacked w (2 ^ lgk) after) → Taken w lgk regs c after z
  taken x after z e p q = record { put = rw (← at, ← new, ← was, ← e) p; zeros_are = q }

  pub coupon_stays : v ≤ old → Taken w lgk regs c regs zeros
  coupon_stays h = taken (slot_at w regs s) regs zeros (omega arith) (put_none w s regs) counted.zeros_are

  module _ {after : List ℕ} (rises : old < v) (p : Put w regs s v after) where
    pub coupon_first : old ≡ 0 → (0 < zeros) × Taken w lgk regs c after (zeros - 1)
    coupon_first z =
        let left = count_left 0 R s v (rw length_unpacked inside) (cell ∙ z) (λ e. omega arith) in
        (omega (arith, counted.zeros_are), taken v after (zeros - 1) (omega arith) p (rw (p.slots (2 ^ lgk)) (omega (arith, counted.zeros_are))))

    pub coupon_again : (old ≡ 0 → ⊥) → Taken w lgk regs c after zeros
    coupon_again n =
        taken v after zeros (omega arith) p
        (counted.zeros_are ∙ sym (rw (p.slots (2 ^ lgk)) (count_same 0 R s v (λ e. n (sym cell ∙ e)) (λ e. omega arith))))

-- the slot of a coupon is there
pub home_held : {w lgk n : ℕ} → Shaped w lgk n → (c : ℕ) {s : ℕ} → s ≡ home (2 ^ lgk) c → Held w s n
home_held {lgk = lgk} h c at = record { lg = lgk; shaped = h; inside = rw at (home_in lgk c) }

-- ---- a batch: one more coupon
module _ {w lgk zeros next : ℕ} {regs after : List ℕ} (counted : Counted w lgk zeros regs) (c : ℕ) (t : Taken w lgk regs c after next) where
  pub taken_fed : unpacked w (2 ^ lgk) after ≡ fed (2 ^ lgk) (unpacked w (2 ^ lgk) regs) (c ∷ [])
  unfolding fed
  taken_fed = put_raised (value c) t.put (2 ^ lgk) (home_in lgk c)

  pub counted_next : Counted w lgk next after
  counted_next = record { shaped = subst (Shaped w lgk) (sym t.put.long) counted.shaped; zeros_are = t.zeros_are }

  pub above_next : 0 < w → number 256 after / 2 ^ (w * 2 ^ lgk) ≡ number 256 regs / 2 ^ (w * 2 ^ lgk)
  above_next some = put_above t.put (2 ^ lgk) (home_in lgk c) some

  -- as a batch of one
  pub taken_given : 0 < w → Given w lgk regs (c ∷ []) after next
  taken_given some = record { regs = taken_fed; above = above_next some; zeros_are = t.zeros_are }
