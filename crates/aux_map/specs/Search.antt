-- What a search answers, and what replacing asks.
use Rattle.std.specs.Prelude.{◌≡◌, List, ℕ, ◌^◌, ◌<◌, Result, Ok, Err, Option, Some, None}
use Rattle.model.specs.Pick.{pick}
use Rattle.model.specs.Coupon.{value, is_empty}
use Rattle.model.specs.Table.{Room, place, word_at}

-- the place that the search for slot s yields: Ok of one that has its word, Err of an empty one
unfoldable pub finds : List ℕ → ℕ → Result ℕ ℕ
finds t s = pick (is_empty (word_at t s)) (Err (place t s)) (Ok (place t s))

-- the value that the table has for slot s, if it has one
unfoldable pub gets : List ℕ → ℕ → Option ℕ
gets t s = pick (is_empty (word_at t s)) None (Some (value (word_at t s)))

-- a table with room that has a word for slot s, and a value for it
pub record Replaceable (t : List ℕ) (s v : ℕ) : Type 0 where
  pub room : Room t
  pub slot : s < 2 ^ 26
  pub value : v < 2 ^ 6
  pub present : word_at t s ≡ 0 → ⊥
