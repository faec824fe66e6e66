-- A word put into an area whose first words are the table: what each step of `insert` leaves, as lists. Assumes nothing.
use mathlib.Core.Path.{◌≡◌, ◌∙◌, ap}
use mathlib.Core.List.{List, ◌++◌}
use Prim.Native.Nat.{ℕ, ◌+◌, ◌<◌}
use Rattle.std.specs.Prelude.{Ok, Err}
use native.Mathlib.Omega.{arith}
use lib.ListN.{length, set, take, length-set}
use lib.Seq.{length-take-le, take-set-lt, drop-set-lt}
use Rattle.model.specs.Coupon.{slot}
use Rattle.model.specs.Table.{Room, used, replace, insert}
use Rattle.model.proofs.table.Refill.{room_of}
use Rattle.model.proofs.table.Order.{length_replace}
use Rattle.model.proofs.table.Grown.{used_fresh}
use Rattle.aux_map.specs.Search.{finds}
use Rattle.aux_map.specs.Grow.{over, checked, scratched, Growable, Grew, Insertable, Inserted}
use Rattle.aux_map.proofs.Answers.{finds_found, finds_empty, empty_lt}
use Rattle.aux_map.proofs.Growing.{checked_long}

checked_replace : (t : List ℕ) (w : ℕ) → checked (replace t w) ≡ insert t w
unfolding checked insert
checked_replace t w = rw length_replace

module _ (area scratch : List ℕ) (size count w : ℕ) (ok : Insertable area scratch size count w) where
  pub table_length : length (take size area) ≡ size
  table_length = length-take-le size area ok.fits

  pub room : Room (take size area)
  room = room_of (take size area) ok.lg (table_length ∙ ok.power) (omega (arith, table_length))

  -- the Rust's unreachable arm
  pub not_found : (p : ℕ) → finds (take size area) (slot w) ≡ Ok p → ⊥
  not_found p e = (finds_found (take size area) (slot w) p e).1 ok.absent

  module _ (p : ℕ) (e : finds (take size area) (slot w) ≡ Err p) where
    pub inside : p < size
    inside = omega (arith, empty_lt (take size area) (slot w) p room e, table_length)

    stored : take size (set area p w) ≡ replace (take size area) w
    unfolding replace
    stored = take-set-lt size area p w inside ∙ ap (λ (k : ℕ). set (take size area) k w) (finds_empty (take size area) (slot w) p e).0

    pub growable : Growable (set area p w) scratch size (count + 1)
    growable = record {
      lg = ok.lg;
      power = ok.power;
      counted = ap used stored ∙ used_fresh (take size area) w room ok.some ok.absent ∙ omega arith;
      most = omega arith;
      fits = simp length-set ok.fits;
      wider = simp length-set ok.wider;
      spared = ok.spared;
    }

    pub inserted : (r : ℕ) (area' scratch' : List ℕ) → Grew (set area p w) scratch size r area' scratch' → Inserted area scratch size w r area' scratch'
    inserted r area' scratch' g = record {
      long = g.long ∙ ap length is;
      table = g.table ∙ ap (λ (l : List ℕ). over l (set area p w)) is ∙ ap (λ (l : List ℕ). insert (take size area) w ++ l) (drop-set-lt (length (insert (take size area) w)) area p w past);
      rest = g.rest ∙ ap (λ (l : List ℕ). scratched l scratch) stored;
    }
      where
        is : checked (take size (set area p w)) ≡ insert (take size area) w
        is = ap checked stored ∙ checked_replace (take size area) w

        past : p < length (insert (take size area) w)
        past =
            omega (arith, inside, table_length, length_replace (take size area) w, checked_long (replace (take size area) w), ap length (checked_replace (take size area) w))
