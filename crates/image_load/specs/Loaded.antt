-- What making the area asks.
use Rattle.std.specs.Prelude.{◌≡◌, ℕ}
use Rattle.model.specs.Image.{open_no}
use Rattle.image_header.specs.declared.Image.{Image}

-- an image that is not refused, for buffers of these lengths (and some register buffer)
pub record Accepted (i : Image) (aux scratch : ℕ) : Type 0 where
  pub regs : ℕ
  pub passed : open_no i.bytes.now regs aux scratch ≡ 0
