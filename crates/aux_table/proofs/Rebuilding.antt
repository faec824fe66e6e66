-- What `rebuild` hands to its parts, and what it leaves. Assumes nothing.
use mathlib.Core.Path.{◌≡◌, sym, ◌∙◌, ap, ap₂, subst}
use mathlib.Core.List.{List, ◌++◌}
use Prim.Native.Nat.{ℕ, ◌≤◌}
use native.Mathlib.Omega.{arith}
use native.Mathlib.Decide.{ℕ_discrete}
use lib.ListN.{length, take, drop, replicate, length-replicate}
use lib.Seq.{length-take-le}
use Rattle.model.specs.Table.{used, keeps, table_size, Makable}
use Rattle.model.specs.Coupon.{slot}
use Rattle.model.proofs.table.Order.{no_slot_twice}
use Rattle.model.proofs.table.Inserts.{size_mono}
use Rattle.aux_map.specs.Grow.{over}
use Rattle.aux_table.specs.Build.{Gathered, Buildable, Rebuildable}
use Rattle.aux_table.proofs.Laid.{laid_zeros, over_laid}
use Rattle.aux_table.proofs.Sizing.{size_none, size_some}
use Rattle.model.proofs.table.Sifted.{keeps_from, keeps_few, sifted_distinct}
use Rattle.model.proofs.table.Made.{makable}

module _ (area scratch : List ℕ) (base size limit : ℕ) (ok : Rebuildable area scratch base size limit) where
  part : length (take size area) ≡ size
  part = length-take-le size area ok.within

  few : length (keeps limit (take size area)) ≤ used (take size area)
  few = keeps_few limit (take size area) ok.some

  -- the new table is no longer than the old
  small : table_size base (length (keeps limit (take size area))) ≤ size
  small = go (ℕ_discrete (length (keeps limit (take size area))) 0)
    where
      go : Dec (length (keeps limit (take size area)) ≡ 0) → table_size base (length (keeps limit (take size area))) ≤ size
      go (yes e) = omega (arith, size_none base _ e)
      go (no h) = omega (arith, size_some base _ h, size_mono base _ _ few, ok.kept.sized, part)

  words : Makable (keeps limit (take size area))
  words =
      makable (omega (arith, few, ok.few)) (λ x m z. omega (arith, (keeps_from limit (take size area) x m).1, ok.some))
      (sifted_distinct _ slot (take size area) (no_slot_twice (take size area) ok.kept.good))

  -- the area, cleared
  module _ (c : List ℕ) (ec : c ≡ replicate (length (take size area)) 0) where
    clean : c ++ drop size area ≡ replicate (length area) 0
    clean =
        ap₂ ◌++◌ (ec ∙ ap (λ (n : ℕ). replicate n 0) part) (ap (λ (n : ℕ). drop n area) (sym (length-replicate {A = ℕ} size 0)))
        ∙ ap (over (replicate size 0)) ok.alone
        ∙ over_laid (length area) (take size area) (replicate size 0) (omega (arith, part, length-replicate {A = ℕ} size 0)) (omega (arith, ok.within, length-replicate {A = ℕ} size 0))
        ∙ laid_zeros (length area) size ok.within

    as_long : length (c ++ drop size area) ≡ length area
    as_long = ap length clean ∙ length-replicate (length area) 0

    -- and the scratch with the kept words at its end
    module _ (s : List ℕ) (top : ℕ) (ls : length s ≡ length scratch) (kept : Gathered limit (take size area) s top) where
      pub buildable : Buildable (c ++ drop size area) s base top
      buildable = record {
        based = ok.based;
        within = kept.within;
        words = subst Makable (sym kept.words) words;
        clean = clean ∙ ap (λ (n : ℕ). replicate n 0) (sym as_long);
        fits = omega (arith, small, ok.within, as_long, ap (λ (l : List ℕ). table_size base (length l)) kept.words);
        spared = omega (arith, small, ok.within, ok.spared, ls, ap (λ (l : List ℕ). table_size base (length l)) kept.words);
      }
