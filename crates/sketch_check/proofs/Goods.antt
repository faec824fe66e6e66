-- Good order as the code judges it: a test that fails refuses, and where all before it pass the table decides. Assumes nothing.
use mathlib.Core.Path.{◌≡◌, refl, sym, ◌∙◌}
use mathlib.Core.Bool.{Bool, true, false}
use mathlib.Core.List.{List}
use Prim.Native.Nat.{ℕ}
use lib.ListN.{length}
use Rattle.model.specs.Pick.{Tells}
use Rattle.model.specs.Sketch.{Shaped}
use Rattle.model.specs.Check.{counts_fit, table_fits, good_of}
use Rattle.model.specs.declared.Sketch.{Sketch}
use Rattle.model.proofs.table.FirstLaws.{true_not_false}
use Rattle.model.proofs.order.Tells.{tells_one, tells_pass, tells_no, tells_as}
use Rattle.model.proofs.order.Tests.{Passes, counts_tells, good_asks}
use Rattle.survey.specs.Survey.{Surveyed}
use Rattle.survey.specs.declared.Seen.{Seen}
use Rattle.array4_read.specs.Asks.{Checkable}
use Rattle.sketch_check.proofs.ByKind.{kind_as}

pub can_check : (s : Sketch) (regs : List ℕ) {counts : Bool} {seen : Seen} → counts ≡ counts_fit s → counts ≡ true → Surveyed s regs seen → Shaped s.kind s.lg_k (length regs) → s.kind ≡ 4 → Checkable s regs seen.tokens
can_check s regs c pass v shaped four = record { four = four; shaped = kind_as shaped four; few = ((counts_tells s).0 (sym c ∙ pass)).count; counted = v.tokens four }

module _ (s : Sketch) (regs aux : List ℕ) where
  refused : (Passes s regs aux → ⊥) → false ≡ good_of s regs aux
  refused h = tells_one false (good_of s regs aux) (tells_no h) (good_asks s regs aux)

  module _ {counts : Bool} (c : counts ≡ counts_fit s) where
    pub no_counts : counts ≡ false → false ≡ good_of s regs aux
    no_counts e = refused (λ p. true_not_false p.counts (sym c ∙ e))

    module _ {seen : Seen} (v : Surveyed s regs seen) where
      pub no_values : seen.values ≡ false → false ≡ good_of s regs aux
      no_values e = refused (λ p. true_not_false p.values (sym v.values ∙ e))

      pub no_spare : seen.spare ≡ false → false ≡ good_of s regs aux
      no_spare e = refused (λ p. true_not_false p.spare (sym v.spare ∙ e))

      pub no_tally : seen.tally ≡ false → false ≡ good_of s regs aux
      no_tally e = refused (λ p. true_not_false p.tally (sym v.tally ∙ e))

      module _ (pc : counts ≡ true) (pv : seen.values ≡ true) (ps : seen.spare ≡ true) (pt : seen.tally ≡ true) where
        decides : (r : Bool) → Tells r (s.kind ≡ 4 → table_fits s regs aux ≡ true) → r ≡ good_of s regs aux
        decides r t =
            tells_one r (good_of s regs aux)
            (tells_as r (λ q. record { counts = sym c ∙ pc; values = sym v.values ∙ pv; spare = sym v.spare ∙ ps; tally = sym v.tally ∙ pt; table = q }) (λ p. p.table) t)
            (good_asks s regs aux)

        pub plain_good : (s.kind ≡ 4 → ⊥) → true ≡ good_of s regs aux
        plain_good h = decides true ((λ e four. absurd (h four)), λ e q. true_not_false refl e)

        pub table_good : {r : Bool} → s.kind ≡ 4 → r ≡ table_fits s regs aux → r ≡ good_of s regs aux
        table_good {r} four e = e ∙ decides (table_fits s regs aux) (tells_as (table_fits s regs aux) (λ q k. q) (λ f. f four) (tells_pass (table_fits s regs aux)))
