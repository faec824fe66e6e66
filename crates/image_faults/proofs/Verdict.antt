-- A sweep, the count, and if need be a sweep that looks: together what the book asks for. Assumes nothing.
use Rattle.std.specs.Prelude.{Option, None, Some, IfSome, unwrap_or}
use mathlib.Core.Path.{◌≡◌, refl, sym, ◌∙◌, ap, subst}
use native.Mathlib.Nat.{le_refl}
use mathlib.Core.Bool.{Bool, true, false}
use mathlib.Core.List.{List}
use Prim.Native.Nat.{ℕ, ◌<◌}
use native.Mathlib.Decide.{ℕ_discrete}
use native.Mathlib.Omega.{arith}
use lib.Dec.{eqb, ltb}
use lib.ListN.{length}
use borrow.Author.Tests.{lt-ltb, le-ltb, eq-eqb, ne_eqb}
use Rattle.model.specs.Pick.{pick, first}
use Rattle.model.specs.Registers.{count_of}
use Rattle.model.specs.Table.{filled}
use Rattle.model.specs.Answers.{Said, said}
use Rattle.model.specs.Faults.{fault_at, unmatched, aux_fault}
use Rattle.model.specs.Sketch.{sketch_of}
use Rattle.model.proofs.image.SameSlots.{even_none}
use Rattle.image_header.specs.declared.Header.{Header}
use Rattle.image_faults.specs.declared.View.{View}
use Rattle.image_faults.specs.Windows.{slots, no_of, Swept}
use Rattle.image_faults.proofs.Firsts.{found_first, least_first}

module _ {look : Bool} {h : Header} {ws ns : List ℕ} {v : View} (s : Swept look h ws ns v) where
  abbrev answer : Said
  answer = aux_fault h.compact (slots h) h.cur_min h.aux_count ws ns

  by_first : answer ≡ pick (ltb v.walk.at (length ws)) (said (fault_at h.compact (slots h) h.cur_min ws v.walk.at) v.walk.at)
      (pick (eqb (length (filled ws)) h.aux_count) (let t = first (unmatched (slots h) ws ns) (slots h) in pick (ltb t (slots h)) (said 25 t) (said 0 0)) (said 24 0))
  unfolding aux_fault
  by_first = rw (found_first s.found) refl

  pub is_fault : (no_of v.walk.fault ≡ 0 → ⊥) → said (no_of v.walk.fault) v.walk.at ≡ answer
  is_fault ne = let p = s.found.here ne in sym (by_first ∙ rw (lt-ltb v.walk.at (length ws) p.0, ← p.1) refl)

  module _ (z : no_of v.walk.fault ≡ 0) where
    past : ltb v.walk.at (length ws) ≡ false
    past = le-ltb v.walk.at (length ws) (omega (arith, s.found.none z))

    pub is_count : (v.walk.entries ≡ h.aux_count → ⊥) → said 24 0 ≡ answer
    is_count ne = sym (by_first ∙ rw (past, ne_eqb (length (filled ws)) h.aux_count (λ e. ne (s.counted z ∙ e))) refl)

    module _ (same : v.walk.entries ≡ h.aux_count) where
      by_slot : (t : ℕ) → first (unmatched (slots h) ws ns) (slots h) ≡ t → answer ≡ pick (ltb t (slots h)) (said 25 t) (said 0 0)
      by_slot t e = by_first ∙ rw (past, eq-eqb (length (filled ws)) h.aux_count (sym (s.counted z) ∙ same), e) refl

      -- one set, with no slot looked at
      pub is_even : v.walk.even ≡ true → length ns ≡ slots h → h.aux_count ≡ count_of 15 ns → said 0 0 ≡ answer
      is_even e long full =
          sym (even_none h.compact (sketch_of 4 h.lg_k h.cur_min 0 h.aux_count) ns ws long
          (λ i l. s.found.before i (omega (arith, s.found.none z))) (s.evens z e) (sym (s.counted z) ∙ same) (sym full))

      module _ {u : View} (again : Swept true h ws ns u) where
        -- nothing is wrong with the words the second time
        clean : no_of u.walk.fault ≡ 0
        clean = go (ℕ_discrete (no_of u.walk.fault) 0)
          where
            go : Dec (no_of u.walk.fault ≡ 0) → no_of u.walk.fault ≡ 0
            go (yes e) = e
            go (no d) = let o = again.found.here d in absurd (d (o.1 ∙ s.found.before u.walk.at (omega (arith, o.0, s.found.none z))))

        slot_first : first (unmatched (slots h) ws ns) (slots h) ≡ unwrap_or u.slot (slots h)
        slot_first = least_first (again.least refl clean).least

        pub is_match : {t : ℕ} → u.slot ≡ Some t → said 25 t ≡ answer
        is_match {t} e =
            let inside : t < slots h = subst (λ (o : Option ℕ). IfSome o (λ t. t < slots h)) e (again.least refl clean).inside in
            sym (by_slot t (slot_first ∙ ap (λ (o : Option ℕ). unwrap_or o (slots h)) e) ∙ rw (lt-ltb t (slots h) inside) refl)

        pub is_fine : u.slot ≡ None → said 0 0 ≡ answer
        is_fine e = sym (by_slot (slots h) (slot_first ∙ ap (λ (o : Option ℕ). unwrap_or o (slots h)) e) ∙ rw (le-ltb (slots h) (slots h) (le_refl (slots h))) refl)
