-- What collecting the entries among an image's exception words asks, and where it puts them.
use Rattle.std.specs.Prelude.{◌≡◌, List, map, ℕ, ◌*◌, ◌^◌, ◌≤◌, length, drop}
use Rattle.model.specs.Packed.{unpacked}
use Rattle.model.specs.Table.{filled}
use Rattle.model.specs.Image.{homed}

-- many words, and room for the entries among them
pub record Collectable (lgk : ℕ) (words : List ℕ) (many : ℕ) (into : List ℕ) : Type 0 where
  pub high : lgk ≤ 21
  pub whole : 4 * many ≤ length words
  pub fits : length (filled (unpacked 32 many words)) ≤ length into

-- from r on stand the entries, each as the table has it
pub record Collected (lgk : ℕ) (words : List ℕ) (many : ℕ) (into : List ℕ) (r : ℕ) : Type 0 where
  pub within : r ≤ length into
  pub are : drop r into ≡ map (homed (2 ^ lgk)) (filled (unpacked 32 many words))
