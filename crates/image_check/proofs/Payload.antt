-- The parts of an image behind its header, and what each function asks of them. Assumes nothing.
use mathlib.Core.Path.{◌≡◌, ◌∙◌, ap}
use mathlib.Core.List.{List}
use Prim.Native.Nat.{ℕ, ◌+◌, ◌-◌, ◌≤◌}
use native.Mathlib.Omega.{arith}
use lib.ListN.{length, take, drop, length-drop}
use lib.Seq.{length-take-le}
use Rattle.model.specs.Sketch.{bytes_of}
use Rattle.model.specs.Image.{sketch_in, regs_in}
use Rattle.model.proofs.packing.ByteLists.{from_on}
use Rattle.model.specs.declared.Sketch.{Sketch}

module _ (l : List ℕ) (s : Sketch) (is : s ≡ sketch_in l) where
  size_is : bytes_of s.kind s.lg_k ≡ bytes_of (sketch_in l).kind (sketch_in l).lg_k
  size_is = ap (λ (r : Sketch). bytes_of r.kind r.lg_k) is

  -- the register bytes, as the code cuts them out
  module _ (n : ℕ) (e : n ≡ bytes_of s.kind s.lg_k) where
    pub regs_part : take (40 + n - 40) (drop 40 l) ≡ regs_in l
    unfolding regs_in
    regs_part = let z : 40 + n - 40 ≡ n = omega arith in ap (λ (m : ℕ). take m (drop 40 l)) (z ∙ e ∙ size_is)

    pub regs_long : 40 + n ≤ length l → length (take (40 + n - 40) (drop 40 l)) ≡ n
    regs_long h = let z : 40 + n - 40 ≡ n = omega arith in length-take-le (40 + n - 40) (drop 40 l) (omega (arith, length-drop 40 l)) ∙ z

    -- and what is behind them
    pub words_part : take (length l - (40 + n)) (drop (40 + n) l) ≡ drop (40 + bytes_of (sketch_in l).kind (sketch_in l).lg_k) l
    words_part = from_on (40 + n) l ∙ ap (λ (m : ℕ). drop (40 + m) l) (e ∙ size_is)

    pub words_long : length (take (length l - (40 + n)) (drop (40 + n) l)) ≡ length l - (40 + n)
    words_long = ap length (from_on (40 + n) l) ∙ length-drop (40 + n) l
