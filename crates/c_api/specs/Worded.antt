-- What a call gives back with its record as words.
use Rattle.std.specs.Prelude.{ℕ, List, [], ◌∷◌, Float}
use Rattle.model.specs.Calls.{Out, Summed}
use Rattle.model.specs.declared.Sketch.{Sketch}
use Rattle.c_api.specs.Words.{record_in, record_out}

-- number, place, the record's words, the record that they stand for, count, register bytes, exception area
pub record Worded : Type 0 where
  pub no : ℕ
  pub place : ℕ
  pub words : List ℕ
  pub sketch : Sketch
  pub count : ℕ
  pub regs : List ℕ
  pub aux : List ℕ

-- one, by its parts
abbrev pub worded : ℕ → ℕ → List ℕ → ℕ → List ℕ → List ℕ → Worded
worded n p w k r a = record { no = n; place = p; words = w; sketch = record_in w; count = k; regs = r; aux = a }

-- what a call gives: its record, and that put over the words that were handed in
abbrev pub handed : List ℕ → Out → Worded
handed w q = record { no = q.no; place = q.place; words = record_out w q.sketch; sketch = q.sketch; count = q.count; regs = q.regs; aux = q.aux }

-- what sums gives back: the number, and kxq0 and kxq1 as two doubles
pub record Two : Type 0 where
  pub no : ℕ
  pub sums : List Float

-- one, by its parts
abbrev pub two : ℕ → List Float → Two
two n l = record { no = n; sums = l }

-- the two doubles of an answer
abbrev pub two_of : Summed → Two
two_of q = two q.no (q.low ∷ q.high ∷ [])
