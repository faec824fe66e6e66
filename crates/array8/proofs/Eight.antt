-- Kind 8 in good order can be fed: its cells are the bytes. Assumes nothing.
use mathlib.Core.Path.{◌≡◌, ◌∙◌}
use mathlib.Core.Bool.{true}
use mathlib.Core.List.{List}
use Prim.Native.Nat.{ℕ, ◌^◌}
use lib.ListN.{length}
use Rattle.model.specs.Packed.{Bytes}
use Rattle.model.specs.Sketch.{cells, Shaped}
use Rattle.model.specs.Check.{good_of}
use Rattle.model.specs.declared.Sketch.{Sketch}
use Rattle.model.proofs.packing.Packing.{unpacked_8}
use Rattle.model.proofs.packing.Lengths.{bytes_eight}
use Rattle.model.proofs.order.Tests.{tally_tells, good_asks}
use Rattle.array8.specs.Asked.{Ready}

module _ (s : Sketch) (regs : List ℕ) (of_kind : s.kind ≡ 8) (shaped : Shaped 8 s.lg_k (length regs)) (bytes : Bytes regs) where
  long : length regs ≡ 2 ^ s.lg_k
  long = shaped.long ∙ bytes_eight _

  cells_are : cells s regs ≡ regs
  unfolding cells
  cells_are = rw (of_kind, ← long) (unpacked_8 regs bytes)

  pub eight_ready : (aux : List ℕ) → good_of s regs aux ≡ true → Ready s.lg_k s.num_at_cur_min regs
  eight_ready aux e =
      let zeros = ((tally_tells s regs).0 ((good_asks s regs aux).0 e).tally).0 in
      record { low = shaped.low; high = shaped.high; long = long; zeros_are = rw cells_are at zeros }
