-- What the writing of an image asks: that there is room, and that the two sums are what they should be.
use Rattle.std.specs.Prelude.{◌≡◌, not, List, ℕ, ◌+◌, ◌*◌, ◌≤◌, T, Float, length}
use Rattle.std.specs.Float.Ieee.{is_nan}
use Rattle.model.specs.Table.{filled}
use Rattle.model.specs.Image.{image_in}
use Rattle.model.specs.Sketch.{registers}
use Rattle.model.specs.Sums.{kxq0, kxq1}
use Rattle.model.specs.declared.Checked.{Checked}

-- a buffer with room for the header, and two doubles that have bytes
pub record HeaderFits (x y : Float) (out : List ℕ) : Type 0 where
  pub low : T (not (is_nan x))
  pub high : T (not (is_nan y))
  pub room : 40 ≤ length out

-- n words that are not empty, and room for them from a place on
pub record WordsFit (words : List ℕ) (n : ℕ) (out : List ℕ) (at : ℕ) : Type 0 where
  pub enough : n ≤ length (filled words)
  pub room : at + 4 * n ≤ length out

-- a checked sketch, its two sums, and a buffer no shorter than its image
pub record Writable (h : Checked) (x y : Float) (out : List ℕ) : Type 0 where
  pub low : x ≡ kxq0 (registers h.sketch h.regs.now h.aux.now)
  pub high : y ≡ kxq1 (registers h.sketch h.regs.now h.aux.now)
  pub room : length (image_in h.sketch h.regs.now h.aux.now) ≤ length out
