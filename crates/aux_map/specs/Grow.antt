-- What inserting and growing ask of an area and a scratch, and what they leave there.
use Rattle.std.specs.Prelude.{◌≡◌, List, ◌++◌, ℕ, ◌+◌, ◌*◌, ◌^◌, ◌≤◌, ◌<◌, leb, length, take, drop}
use Rattle.model.specs.Pick.{pick}
use Rattle.model.specs.Coupon.{slot}
use Rattle.model.specs.Table.{word_at, used, replace, grown, insert}

-- a table laid over the front of an area
abbrev pub over : List ℕ → List ℕ → List ℕ
over t area = t ++ drop (length t) area

-- the table, grown if more than three quarters are used
unfoldable pub checked : List ℕ → List ℕ
checked t = pick (leb (4 * used t) (3 * length t)) t (grown t)

-- the scratch after that: as it was, or with the small table over its front
unfoldable pub scratched : List ℕ → List ℕ → List ℕ
scratched t scratch = pick (leb (4 * used t) (3 * length t)) scratch (over t scratch)

-- a table whose size is a power of two, and a list of twice its length
pub record Doubled (t into : List ℕ) : Type 0 where
  pub lg : ℕ
  pub size : length t ≡ 2 ^ lg
  pub twice : length into ≡ length t + length t

-- the area's first size words are a table, count of them used; if it has to grow, the area has twice its words and the scratch as many
pub record Growable (area scratch : List ℕ) (size count : ℕ) : Type 0 where
  pub lg : ℕ
  pub power : size ≡ 2 ^ lg
  pub counted : used (take size area) ≡ count
  pub most : count ≤ size
  pub fits : size ≤ length area
  pub wider : 3 * size < 4 * count → size + size ≤ length area
  pub spared : 3 * size < 4 * count → size ≤ length scratch

-- that table is grown if it has to be, and r is its size
pub record Grew (area scratch : List ℕ) (size r : ℕ) (area' scratch' : List ℕ) : Type 0 where
  pub long : r ≡ length (checked (take size area))
  pub table : area' ≡ over (checked (take size area)) area
  pub rest : scratch' ≡ scratched (take size area) scratch

-- the area's first size words are a table within its load, count of them used and none for w's slot; with one more it can grow if it has to
pub record Insertable (area scratch : List ℕ) (size count w : ℕ) : Type 0 where
  pub lg : ℕ
  pub power : size ≡ 2 ^ lg
  pub four : 4 ≤ size
  pub load : 4 * count ≤ 3 * size
  pub counted : used (take size area) ≡ count
  pub absent : word_at (take size area) (slot w) ≡ 0
  pub some : w ≡ 0 → ⊥
  pub fits : size ≤ length area
  pub wider : 3 * size < 4 * (count + 1) → size + size ≤ length area
  pub spared : 3 * size < 4 * (count + 1) → size ≤ length scratch

-- the word is inserted into that table, and r is its size
pub record Inserted (area scratch : List ℕ) (size w r : ℕ) (area' scratch' : List ℕ) : Type 0 where
  pub long : r ≡ length (insert (take size area) w)
  pub table : area' ≡ over (insert (take size area) w) area
  pub rest : scratch' ≡ scratched (replace (take size area) w) scratch
