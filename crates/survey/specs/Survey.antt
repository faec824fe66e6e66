-- What a survey of register bytes asks, and what it tells.
use Rattle.std.specs.Prelude.{◌≡◌, true, List, length, ℕ}
use Rattle.model.specs.Registers.{count_of}
use Rattle.model.specs.Sketch.{cells, Shaped}
use Rattle.model.specs.Check.{counts_fit, values_fit, spare_fits, tally_fits}
use Rattle.model.specs.declared.Sketch.{Sketch}
use Rattle.survey.specs.declared.Seen.{Seen}

-- register bytes of a right shape, and a record whose counts fit
pub record Surveyable (s : Sketch) (regs : List ℕ) : Type 0 where
  pub shaped : Shaped s.kind s.lg_k (length regs)
  pub counts : counts_fit s ≡ true

-- the book's tests of the cells, and for kind 4 how many are tokens, that is 15
pub record Surveyed (s : Sketch) (regs : List ℕ) (r : Seen) : Type 0 where
  pub values : r.values ≡ values_fit s regs
  pub spare : r.spare ≡ spare_fits s regs
  pub tally : r.tally ≡ tally_fits s regs
  pub tokens : s.kind ≡ 4 → r.tokens ≡ count_of 15 (cells s regs)
