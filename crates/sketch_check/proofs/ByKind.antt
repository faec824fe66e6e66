-- What a test of the kind tells: the shape of that kind; and what kinds 6 and 8 read as. Assumes nothing.
use mathlib.Core.Path.{◌≡◌, ap, ◌∙◌, subst}
use mathlib.Core.List.{List}
use Prim.Native.Nat.{ℕ, ◌^◌}
use native.Mathlib.Omega.{arith}
use Rattle.model.specs.Packed.{unpacked}
use Rattle.model.specs.Sketch.{cells, registers, Shaped}
use Rattle.model.specs.declared.Sketch.{Sketch}
use Rattle.model.proofs.packing.Lengths.{if_eight}
use Rattle.model.proofs.order.Plain.{plain_cells}

pub kind_as : {kind is lgk len : ℕ} → Shaped kind lgk len → kind ≡ is → Shaped is lgk len
kind_as {lgk = lgk} {len = len} h e = subst (λ (k : ℕ). Shaped k lgk len) e h

-- kind 6's registers are its cells
pub reads_6 : (s : Sketch) (regs aux : List ℕ) → s.kind ≡ 6 → registers s regs aux ≡ unpacked 6 (2 ^ s.lg_k) regs
unfolding cells
reads_6 s regs aux e = plain_cells s regs aux (λ q. omega arith) ∙ ap (λ (w : ℕ). unpacked w (2 ^ s.lg_k) regs) e

-- kind 8 has a byte a register
pub eight_long : {kind lgk n : ℕ} → Shaped kind lgk n → kind ≡ 8 → n ≡ 2 ^ lgk
eight_long h e = h.long ∙ if_eight _ e
