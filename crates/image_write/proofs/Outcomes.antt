-- The three outcomes of write. Assumes nothing.
use mathlib.Core.Path.{◌≡◌, ap₂}
use mathlib.Core.Bool.{true}
use mathlib.Core.List.{List, ◌++◌}
use Prim.Native.Nat.{ℕ, ◌≤◌, ◌<◌}
use native.Mathlib.Omega.{arith}
use lib.ListN.{length, drop}
use borrow.Author.Tests.{ne_eqb}
use Rattle.model.specs.Check.{check_no}
use Rattle.model.specs.Image.{image_in, wrote, write_no, write_of}
use Rattle.model.specs.declared.Sketch.{Sketch}
use Rattle.model.proofs.calls.Rungs.{out_check, out_short, out_right}

module _ (s : Sketch) (regs aux buf : List ℕ) where
  refused : {n : ℕ} → n ≡ write_no s regs aux buf → (n ≡ 0 → ⊥) → wrote n 0 buf ≡ write_of s regs aux buf
  unfolding write_of
  refused {n} e h = rw (← e, ne_eqb n 0 h)

  pub write_no_lem : {n : ℕ} → n ≡ check_no true s regs aux → (n ≡ 0 → ⊥) → wrote n 0 buf ≡ write_of s regs aux buf
  write_no_lem e h = refused (out_check s regs aux buf e h) h

  module _ (good : check_no true s regs aux ≡ 0) where
    pub write_out : length buf < length (image_in s regs aux) → wrote 16 0 buf ≡ write_of s regs aux buf
    write_out h = refused (out_short s regs aux buf good h) (λ e. omega arith)

    pub write_ok : {len : ℕ} {out : List ℕ} → length (image_in s regs aux) ≤ length buf → len ≡ length (image_in s regs aux)
        → out ≡ image_in s regs aux ++ drop (length (image_in s regs aux)) buf → wrote 0 len out ≡ write_of s regs aux buf
    unfolding write_of
    write_ok h l o = rw (← out_right s regs aux buf good h) (ap₂ (λ (n : ℕ) (b : List ℕ). wrote 0 n b) l o)
