-- `replay::room` meets its contract: by a law over the length, since nothing should count so far. Assumes nothing.
use Rattle.std.proofs.Common.{◌≡◌, ℕ, length, replicate, sym}
use lib.ListN.{length-replicate}
use Rattle.replay.proofs.room.Goals as goal

zeros : (n : ℕ) → n ≡ length (replicate {A = ℕ} n 0)
zeros n = sym (length-replicate n 0)

pub returns : goal.returns
returns c = zeros 1048576
