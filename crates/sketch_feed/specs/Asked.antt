-- What is asked of a sketch that coupons are fed to.
use Rattle.std.specs.Prelude.{◌≡◌, true, List, [], ℕ, ◌≤◌, length}
use Rattle.model.specs.Sketch.{Shaped, Good}
use Rattle.model.specs.Check.{good_of}
use Rattle.model.specs.declared.Sketch.{Sketch}

-- it has passed its checks: in good order, and kind 4's scratch is no shorter than its exception area
pub record Ready (s : Sketch) (regs aux scratch : List ℕ) : Type 0 where
  pub good : Good s regs aux
  pub spare : s.kind ≡ 4 → length aux ≤ length scratch

-- kind 6 or 8, and in good order as the program judges it: neither needs an exception area
pub record Plain (s : Sketch) (regs : List ℕ) : Type 0 where
  pub not_4 : s.kind ≡ 4 → ⊥
  pub shaped : Shaped s.kind s.lg_k (length regs)
  pub good : good_of s regs [] ≡ true
