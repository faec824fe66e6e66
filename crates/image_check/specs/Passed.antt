-- What is known of an image and its header once a part of the ladder has passed.
use Rattle.std.specs.Prelude.{◌≡◌, ℕ, ◌^◌, ◌≤◌}
use Rattle.model.specs.Registers.{count_of}
use Rattle.model.specs.Sketch.{cells}
use Rattle.model.specs.Image.{sketch_in, regs_in, form_no, counts_no}
use Rattle.image_header.specs.declared.Image.{Image}

-- a header of a kind and a size that there are
pub record Formed (i : Image) : Type 0 where
  pub form : form_no i.header.kind i.header.lg_k ≡ 0

-- a size that there is, and no more exceptions than registers
pub record Roomy (lgk count : ℕ) : Type 0 where
  pub low : 4 ≤ lgk
  pub high : lgk ≤ 21
  pub few : count ≤ 2 ^ lgk

-- .. whose counts fit, with all of its payload
pub record Sound (i : Image) : Type 0 where
  pub formed : Formed i
  pub counts : counts_no i.bytes.now ≡ 0

-- .. and the number of its nibbles that are 15
pub record Full (i : Image) (fulls : ℕ) : Type 0 where
  pub sound : Sound i
  pub counted : i.header.kind ≡ 4 → fulls ≡ count_of 15 (cells (sketch_in i.bytes.now) (regs_in i.bytes.now))
