-- Growth in an area whose first words are the table: what each step of `check_grow` leaves, as lists. Assumes nothing.
use mathlib.Core.Path.{◌≡◌, sym, ◌∙◌, ap, ap₂}
use mathlib.Core.Bool.{Bool, true, false}
use mathlib.Core.List.{List, ◌++◌}
use Prim.Native.Nat.{ℕ, ◌+◌, ◌*◌, ◌≤◌, ◌<◌}
use native.Mathlib.Omega.{arith}
use lib.Dec.{leb}
use lib.ListN.{length, take, drop, take-append-drop}
use lib.Seq.{length-take-le, take_at}
use borrow.Author.Tests.{le-leb, lt-leb}
use Rattle.model.specs.Pick.{pick}
use Rattle.model.specs.Table.{used, grown}
use Rattle.model.proofs.table.Grown.{length_grown}
use Rattle.aux_map.specs.Grow.{checked, scratched, Growable, Grew}

-- a table is not shorter afterwards
pub checked_long : (t : List ℕ) → length t ≤ length (checked t)
unfolding checked
checked_long t = go (leb (4 * used t) (3 * length t))
  where
    go : (b : Bool) → length t ≤ length (pick b t (grown t))
    go true = omega arith
    go false = omega (arith, length_grown t)

module _ (area scratch : List ℕ) (size count : ℕ) (ok : Growable area scratch size count) where
  pub table_length : length (take size area) ≡ size
  table_length = length-take-le size area ok.fits

  pub stays : 4 * count ≤ 3 * size → Grew area scratch size size area scratch
  unfolding checked scratched
  stays h = record {
    long = sym (ap length same ∙ table_length);
    table = sym (take-append-drop size area) ∙ ap₂ ◌++◌ (sym same) (ap (λ (n : ℕ). drop n area) (sym (ap length same ∙ table_length)));
    rest = rw (ok.counted, table_length, le-leb (4 * count) (3 * size) h);
  }
    where
      same : checked (take size area) ≡ take size area
      same = rw (ok.counted, table_length, le-leb (4 * count) (3 * size) h)

  module _ (h : 3 * size < 4 * count) where
    -- the table copied to the front of the scratch
    module _ (f : List ℕ) (q : f ≡ take size area) where
      f_length : length f ≡ size
      f_length = ap length q ∙ table_length

      front : take size (f ++ drop size scratch) ≡ take size area
      front = take_at f (drop size scratch) size f_length ∙ q

      -- and re-inserted into the front of the area
      pub grows : (g : List ℕ) → g ≡ grown (take size (f ++ drop size scratch)) → Grew area scratch size (size + size) (g ++ drop (size + size) area) (f ++ drop size scratch)
      unfolding checked scratched
      grows g r = record {
        long = sym long;
        table = ap₂ ◌++◌ (r ∙ ap grown front ∙ sym bigger) (ap (λ (n : ℕ). drop n area) (sym long));
        rest = ap₂ ◌++◌ q (ap (λ (n : ℕ). drop n scratch) (sym table_length)) ∙ rw (ok.counted, table_length, lt-leb (4 * count) (3 * size) h);
      }
        where
          bigger : checked (take size area) ≡ grown (take size area)
          bigger = rw (ok.counted, table_length, lt-leb (4 * count) (3 * size) h)

          long : length (checked (take size area)) ≡ size + size
          long = ap length bigger ∙ length_grown (take size area) ∙ ap₂ ◌+◌ table_length table_length
