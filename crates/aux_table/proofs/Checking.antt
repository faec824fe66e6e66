-- The room that `check` has shown before it searches. Assumes nothing.
use mathlib.Core.Path.{◌≡◌, ◌∙◌}
use mathlib.Core.List.{List}
use Prim.Native.Nat.{ℕ, ◌≤◌, ◌<◌}
use native.Mathlib.Omega.{arith}
use native.Mathlib.Decide.{ℕ_discrete}
use lib.ListN.{length, take}
use lib.Seq.{length-take-le}
use Rattle.model.specs.Table.{Room, used, size_for, table_size}
use Rattle.model.proofs.table.Refill.{room_of}
use Rattle.model.proofs.table.Inserted.{size_fits}
use Rattle.model.proofs.table.Inserts.{size_power}
use Rattle.aux_map.specs.Sizes.{Based}
use Rattle.aux_table.specs.Check.{Walkable}
use Rattle.aux_table.proofs.Sizing.{size_none, size_some}

module _ (area : List ℕ) (base count : ℕ) (based : Based base) (few : count < 67108864) (size : ℕ) (e : size ≡ table_size base count) (fits : size ≤ length area) (here : ℕ) (is : here ≡ used (take size area)) (counted : here ≡ count) where
  -- fewer words than places
  pub walkable : Walkable (take size area)
  walkable = record { room = λ h. go h (ℕ_discrete count 0) }
    where
      part : length (take size area) ≡ size
      part = length-take-le size area fits

      go : 0 < length (take size area) → Dec (count ≡ 0) → Room (take size area)
      go h (yes z) = absurd (omega (arith, part, size_none base count z))
      go h (no z) =
          let same : size ≡ size_for base count = e ∙ size_some base count z in
          let (n, q) = size_power base count based.lg based.power in
          room_of (take size area) n (part ∙ same ∙ q) (omega (arith, part, size_fits base count few based.four))
