-- Kind 8's registers as the counts ask for them, and the two outcomes of sums. Assumes nothing.
use mathlib.Core.Path.{◌≡◌}
use mathlib.Core.Bool.{true, false}
use mathlib.Core.List.{List}
use Prim.Native.Nat.{ℕ}
use lib.Ieee.{fin}
use lib.IntN.{pos}
use lib.Pow.{pow_mono}
use borrow.Author.Tests.{ne_eqb}
use Rattle.model.specs.Packed.{Bytes}
use Rattle.model.specs.Sketch.{registers, Good}
use Rattle.model.specs.Check.{check_no}
use Rattle.model.specs.Sums.{scaled}
use Rattle.model.specs.Calls.{Summed, sums_of}
use Rattle.model.specs.declared.Sketch.{Sketch}
use Rattle.model.proofs.order.Plain.{bytes_8}
use Rattle.sums.specs.Tally.{Registers, sums_for}
use Rattle.model.proofs.calls.Doubles.{ratio_zero}
use Rattle.sketch_check.proofs.ByKind.{eight_long}

module _ (s : Sketch) (regs aux : List ℕ) where
  pub eight_registers : s.kind ≡ 8 → Bytes regs → Good s regs aux → Registers regs
  eight_registers e b g = record { few = rw (eight_long g.shaped e) (pow_mono g.shaped.high); small = rw (bytes_8 s regs aux e g.shaped b) at g.small }

  pub sums_no : {n : ℕ} → n ≡ check_no true s regs aux → (n ≡ 0 → ⊥) → ◌≡◌ {A = Summed} (record { no = n; low = fin false 0 (pos 0); high = fin false 0 (pos 0) }) (sums_of s regs aux)
  unfolding sums_of scaled
  sums_no {n} e h = rw (← e, ne_eqb n 0 h, ratio_zero 31, ratio_zero 63)

  pub sums_ok : {o : Summed} → check_no true s regs aux ≡ 0 → o ≡ sums_for (registers s regs aux) → o ≡ sums_of s regs aux
  unfolding sums_of
  sums_ok e q = rw (e, q)
