-- What making a table of words asks, and what is left where a table is made anew.
use Rattle.std.specs.Prelude.{◌≡◌, List, ℕ, ◌^◌, ◌≤◌, ◌<◌, length, take, drop, replicate}
use Rattle.model.specs.Table.{Kept, used, keeps, made, laid, table_size, Makable}
use Rattle.aux_map.specs.Sizes.{Based}

-- the scratch from top on is a list of words, and the table for them fits into the area, which is empty, and into the scratch
pub record Buildable (area scratch : List ℕ) (base top : ℕ) : Type 0 where
  pub based : Based base
  pub within : top ≤ length scratch
  pub words : Makable (drop top scratch)
  pub clean : area ≡ replicate (length area) 0
  pub fits : table_size base (length (drop top scratch)) ≤ length area
  pub spared : table_size base (length (drop top scratch)) ≤ length scratch

-- a list and one that is no shorter
pub record NoShorter (t into : List ℕ) : Type 0 where
  pub enough : length t ≤ length into

-- from r on stand the words of t whose value is at least the limit
pub record Gathered (limit : ℕ) (t into : List ℕ) (r : ℕ) : Type 0 where
  pub within : r ≤ length into
  pub words : drop r into ≡ keeps limit t

-- the area's first size words are a table as it is kept, with zeros behind it; the scratch is no shorter than the area
pub record Rebuildable (area scratch : List ℕ) (base size limit : ℕ) : Type 0 where
  pub based : Based base
  pub within : size ≤ length area
  pub kept : Kept base (take size area)
  pub alone : area ≡ laid (length area) (take size area)
  pub few : used (take size area) < 2 ^ 26
  pub some : 0 < limit
  pub spared : length area ≤ length scratch

-- the table of the r words whose value is at least the limit, and zeros
pub record Rebuilt (area : List ℕ) (base size limit r : ℕ) (area' : List ℕ) : Type 0 where
  pub left : r ≡ length (keeps limit (take size area))
  pub table : area' ≡ laid (length area) (made base (keeps limit (take size area)))
