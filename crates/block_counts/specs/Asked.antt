-- What counting the floors asks.
use Rattle.std.specs.Prelude.{List, [], ℕ, ◌≤◌, ◌<◌, length, get_or}
use Rattle.model.specs.Sketch.{floors}
use Rattle.model.specs.declared.Sketch.{Sketch}
use Rattle.sums.specs.Tally.{Counted}
use Rattle.blocks.specs.Asked.{Level, Long}

-- register bytes with a cur_min above which no cell is past 63, as in good order; and counts of nothing
pub record Small (s : Sketch) (regs seen : List ℕ) : Type 0 where
  pub level : Level s (length regs)
  pub small : (i : ℕ) → i < length (floors s regs) → get_or (floors s regs) i 0 ≤ 63
  pub none : Counted [] seen

-- the same, and a length of blocks
pub record Countable (s : Sketch) (regs : List ℕ) (m : ℕ) (seen : List ℕ) : Type 0 where
  pub flat : Small s regs seen
  pub long : Long s.lg_k m
