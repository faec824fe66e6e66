-- What the two routes show: sketches that stand in histories, and the image of one that two batches have reached.
use Rattle.std.specs.Prelude.{◌≡◌, List, ◌++◌, ℕ, ◌*◌, ◌^◌, ◌≤◌}
use Rattle.model.specs.Sketch.{Shaped}
use Rattle.model.specs.Image.{image_in}
use Rattle.model.specs.History.{Stands}
use Rattle.model.specs.Claims.{SameSet}
use Rattle.model.specs.declared.Sketch.{Sketch}
use Rattle.station_routes.specs.declared.Held.{Held}

-- memory of the right size for a sketch, with room for any exceptions: so many register bytes, and an area of so many words
pub record Roomy (kind lgk regs aux : ℕ) : Type 0 where
  pub shaped : Shaped kind lgk regs
  pub room : kind ≡ 4 → 2 * 2 ^ lgk ≤ aux

-- a sketch with its memory stands in some history, is of this kind and size, and these coupons have reached it
abbrev pub In : {regs aux : ℕ} → ℕ → ℕ → List ℕ → Held regs aux → Type 0
In kind lgk got h = Stands kind lgk got h.sketch h.regs h.aux

-- these bytes are the image of a kind 8 sketch of 16 registers that the coupons of both batches have reached, and no others
pub record Reached (a b image : List ℕ) : Type 0 where
  pub got : List ℕ
  pub sketch : Sketch
  pub regs : List ℕ
  pub aux : List ℕ
  pub stands : Stands 8 4 got sketch regs aux
  pub set : SameSet got (a ++ b)
  pub image_is : image ≡ image_in sketch regs aux
