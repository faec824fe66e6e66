use mathlib.Core.Path.{◌≡◌}
use lib.ListN.{length}
use Rattle.std.specs.Slice.Iter.{chunks_exact_rest, chunks_exact_size}
use Rattle.model.specs.Registers.{joined}
use Rattle.array8.proofs.Windows.{Parted}
use Rattle.array8.proofs.merge_array_with_downsample.Given as goal

abbrev pub invariant-loop-part : goal.invariant-loop-part
invariant-loop-part l =
    let k = length l.initial.target in
    (chunks_exact_size l.part-iterator ≡ k) × Parted k l.target (chunks_exact_rest l.part-iterator) (joined k l.initial.target l.src)
