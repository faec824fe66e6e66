-- What the calls ask of their own parts, once the checks have passed.
use Rattle.std.specs.Prelude.{◌≡◌, ℕ, ◌^◌, ◌≤◌}
use Rattle.model.specs.declared.Sketch.{Sketch}

-- a target of n registers, as many as the sketch's or fewer
pub record Joinable (s : Sketch) (n : ℕ) : Type 0 where
  pub lg : ℕ
  pub power : n ≡ 2 ^ lg
  pub least : 4 ≤ lg
  pub coarser : lg ≤ s.lg_k
