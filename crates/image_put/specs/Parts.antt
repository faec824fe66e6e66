-- The parts that an image is written in, and bytes put over a buffer from a place on.
use Rattle.std.specs.Prelude.{ℕ, ◌+◌, ◌*◌, List, [], ◌∷◌, ◌++◌, Float, length, take, drop, replicate}
use Rattle.std.specs.Float.{binary64}
use Rattle.std.specs.Float.Ieee.{to_bits}
use Rattle.model.specs.Packed.{digits, packed}
use Rattle.model.specs.Table.{filled}
use Rattle.model.specs.Image.{mode_of, flags_of, magic}
use Rattle.model.specs.declared.Sketch.{Sketch}

-- s over what stands in d from a place on
unfoldable pub over : List ℕ → ℕ → List ℕ → List ℕ
over d at s = take at d ++ (s ++ drop (at + length s) d)

-- bytes 0 to 15: the fields of one byte, and a HIP sum of +0
unfoldable pub field_bytes : Sketch → List ℕ
field_bytes s = magic ++ ((s.lg_k ∷ 0 ∷ flags_of s.kind ∷ s.cur_min ∷ mode_of s.kind ∷ []) ++ replicate 8 0)

-- bytes 16 to 31: kxq0 and kxq1
unfoldable pub sum_bytes : Float → Float → List ℕ
sum_bytes x y = digits 256 8 (to_bits binary64 x) ++ digits 256 8 (to_bits binary64 y)

-- bytes 32 to 39: num_at_cur_min and the exception count
unfoldable pub count_bytes : Sketch → List ℕ
count_bytes s = digits 256 4 s.num_at_cur_min ++ digits 256 4 s.aux_count

-- all forty
unfoldable pub header_bytes : Sketch → Float → Float → List ℕ
header_bytes s x y = field_bytes s ++ (sum_bytes x y ++ count_bytes s)

-- the first n of the words that are not empty, four bytes each
unfoldable pub word_bytes : ℕ → List ℕ → List ℕ
word_bytes n words = packed 32 (4 * n) (take n (filled words))
