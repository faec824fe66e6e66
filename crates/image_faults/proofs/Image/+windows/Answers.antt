-- `image_faults::Image::windows` meets its contract, and calls itself for one window less. Assumes nothing.
use mathlib.Core.Path.{◌≡◌, sym, ◌∙◌, subst}
use mathlib.Core.Bool.{true}
use Prim.Native.Nat.{ℕ, ◌-◌, ◌*◌, ◌^◌, ◌<◌}
use native.Mathlib.Omega.{arith}
use lib.Pow.{pow_mono}
use Rattle.std.specs.Option.{option_or}
use Rattle.model.specs.Packed.{slot_at}
use Rattle.model.proofs.table.FirstLaws.{true_not_false}
use Rattle.image_faults.specs.Windows.{no_of, Sweeping}
use Rattle.image_faults.proofs.Sweeping.{later, sweep_on, first_window}
use Rattle.image_faults.proofs.Image.+windows.Goals as goal
use Rattle.image_faults.proofs.Image.+windows.Goals.{then-u, else-u}

-- a window that is all of them is the one before 1
pub returns-then-self-le17 : goal.returns-then-self-le17
returns-then-self-le17 t c =
    let a = c.args in
    let w = c.whole.result in
    subst
    (λ (b : ℕ). Sweeping a.look a.self.now.header (slot_at 32 a.self.now.words.now) (slot_at 4 a.self.now.nibbles.now) a.self.now.many b
    (no_of w.walk.fault) w.walk.at w.walk.entries w.walk.even w.slot)
    (omega (arith, c.if-b-eq0.false, c.requires, pow_mono c.if-self-le17.true))
    (first_window c.whole.ensures)

pub returns : goal.returns
returns t c =
    let a = c.args in
    let u = c.windows-u.result in
    let v = c.by_bitmap-v.result in
    let inside : (a.b - 1) * 524288 < 2 ^ a.self.now.header.lg_k = omega (arith, c.if-b-eq0.false, c.requires) in
    let both : c.if-u.even ≡ true → (u.walk.even ≡ true) × (v.walk.even ≡ true) = λ e.
    elim c.if-u.branch [
      | then-u w ↦ (w.if-u.true, sym w.even-is ∙ e)
      | else-u w ↦ absurd (true_not_false e (w.even-is ∙ w.if-u.false))
    ]
    in
    rw (c.or.ensures, c.or-2.ensures)
    (subst
    (λ (b : ℕ). Sweeping a.look a.self.now.header (slot_at 32 a.self.now.words.now) (slot_at 4 a.self.now.nibbles.now) a.self.now.many b
    (no_of (option_or v.walk.fault u.walk.fault)) v.walk.at v.walk.entries c.if-u.even (option_or u.slot v.slot))
    (omega (arith, c.if-b-eq0.false))
    (sweep_on c.windows-u.ensures inside c.by_bitmap-v.ensures (later v.walk.fault u.walk.fault) both))
