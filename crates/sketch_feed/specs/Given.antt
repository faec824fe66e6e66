-- What feeding a kind leaves.
use Rattle.std.specs.Prelude.{◌≡◌, List, ℕ}
use Rattle.model.specs.Sketch.{record_of, stored}
use Rattle.model.specs.declared.Sketch.{Sketch}

-- record and bytes are what is kept of the registers R
pub record KeptAs (kind lgk : ℕ) (R : List ℕ) (s : Sketch) (regs : List ℕ) : Type 0 where
  pub record_is : s ≡ record_of kind lgk R
  pub bytes_are : regs ≡ stored kind lgk R
