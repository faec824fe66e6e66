-- A sketch's record as five words: kind, lg_k, cur_min, num_at_cur_min, aux_count.
use Rattle.std.specs.Prelude.{◌≡◌, ℕ, List, [], ◌∷◌, eqb, ltb, get_or}
use Rattle.model.specs.Pick.{pick}
use Rattle.model.specs.Sketch.{sketch_of}
use Rattle.model.specs.declared.Sketch.{Sketch}

-- a word as a byte: 255 where it is none
unfoldable pub narrowed : ℕ → ℕ
narrowed w = pick (ltb w 256) w 255

-- the record that the words stand for
unfoldable pub record_in : List ℕ → Sketch
record_in l = sketch_of (narrowed (get_or l 0 0)) (narrowed (get_or l 1 0)) (narrowed (get_or l 2 0)) (get_or l 3 0) (get_or l 4 0)

-- a word for a byte: the one that is there, where it stands for it
unfoldable pub kept : ℕ → ℕ → ℕ
kept w b = pick (eqb (narrowed w) b) w b

-- the words for a record: those that are there, where they stand for it
unfoldable pub record_out : List ℕ → Sketch → List ℕ
record_out l s =
    kept (get_or l 0 0) s.kind ∷ kept (get_or l 1 0) s.lg_k ∷ kept (get_or l 2 0) s.cur_min ∷ s.num_at_cur_min ∷ s.aux_count ∷ []

-- a word that is kept for a byte, and stands for it
pub record Carried (w b r : ℕ) : Type 0 where
  pub word_is : r ≡ kept w b
  pub stands : narrowed r ≡ b

-- words that a record was put over, and that stand for it
pub record Put (l : List ℕ) (s : Sketch) (l' : List ℕ) : Type 0 where
  pub words_are : l' ≡ record_out l s
  pub stand : record_in l' ≡ s
