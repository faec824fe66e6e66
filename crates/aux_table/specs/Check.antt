-- What the check of a table that was handed in asks and answers.
use Rattle.std.specs.Prelude.{◌≡◌, List, ℕ, ◌^◌, ◌≤◌, ◌<◌, length, take, drop}
use Rattle.model.specs.Table.{Room, Reached, used, table_size}

-- no words, or a table with room
pub record Walkable (t : List ℕ) : Type 0 where
  pub room : 0 < length t → Room t

-- a table of count words by the size rule is at the area's front, each word where its search ends, and no word is behind it
pub record Ordered (base count : ℕ) (area : List ℕ) : Type 0 where
  pub few : count < 2 ^ 26
  pub fits : table_size base count ≤ length area
  pub counted : used (take (table_size base count) area) ≡ count
  pub clean : used (drop (table_size base count) area) ≡ 0
  pub good : Reached (take (table_size base count) area)
