-- Each outcome of merge, by one law; and what its part that joins asks. Assumes nothing.
use mathlib.Core.Path.{◌≡◌, refl, ap, ◌∙◌}
use mathlib.Core.Logic.{inr}
use mathlib.Core.Bool.{true}
use mathlib.Core.List.{List, []}
use Prim.Native.Nat.{ℕ, ◌*◌, ◌^◌, ◌≤◌, ◌<◌}
use native.Mathlib.Omega.{arith}
use lib.ListN.{length, take, drop}
use lib.Pow.{pow_mono}
use borrow.Author.Tests.{eq-eqb, ne_eqb}
use Rattle.model.specs.Registers.{fed, joined, count_of}
use Rattle.model.specs.Packed.{Bytes, unpacked}
use Rattle.model.specs.Sketch.{sketch_of, area_of, floors, table_in, registers, Good}
use Rattle.model.specs.Check.{check_no}
use Rattle.model.specs.Calls.{out, refused_at, refused_out, kept_out, eight_no, merge_no, merge_of}
use Rattle.model.specs.declared.Sketch.{Sketch}
use Rattle.model.specs.declared.Checked.{Checked}
use Rattle.model.proofs.packing.ByteLists.{at_all}
use Rattle.model.proofs.registers.Raising.{Small, length_poured, poured_small}
use Rattle.model.proofs.packing.Packing.{unpacked_8}
use Rattle.model.proofs.order.Plain.{bytes_8}
use Rattle.model.proofs.calls.Has.{check_ok, checked_good, eight_says, merge_says}
use Rattle.model.proofs.registers.Floors.{floors_words, fed_floors, good_floored}
use Rattle.array8.specs.Asked.{Power, Finer}
use Rattle.survey_whole.specs.Whole.{Cells}
use Rattle.blocks.specs.Asked.{Floor, Pourable, Worded}
use Rattle.blocks.proofs.Levels.{good_level, whole_floor, whole_floors, good_worded}
use Rattle.model.proofs.calls.Rungs.{no_target, no_source, no_finer}
use Rattle.sketch_check.proofs.ByKind.{eight_long}
use Rattle.sketch.specs.Asked.{Joinable}
use Rattle.sketch_feed.proofs.PlainKept.{eight_kept}

-- ---- a checked sketch as a source
module _ (h : Checked) where
  abbrev s : Sketch
  s = h.sketch

  abbrev regs : List ℕ
  regs = h.regs.now

  abbrev aux : List ℕ
  aux = h.aux.now

  good : Good s regs aux
  good = checked_good h

  -- its floors, then the words of its table
  module _ (n : ℕ) (j : Joinable s n) where
    target : Power n
    target = record { lg = j.lg; power = j.power }

    pub joins_floors : Pourable s (length regs) n
    unfolding target
    joins_floors = record { level = good_level s regs aux good; target = target; least = j.least; coarser = j.coarser }

    pub joins_words : {k : ℕ} → k ≡ n → Worded s (length aux) k
    joins_words e = rw e (good_worded s regs aux good target)

    pub joins_all : (T : List ℕ) {after last : List ℕ} → after ≡ joined n T (floors s regs) → length after ≡ n → last ≡ fed (length after) after (table_in s aux) → last ≡ joined n T (registers s regs aux)
    joins_all T floored long q = q ∙ rw (long, floored, j.power) (floors_words j.lg s.lg_k (good_floored s regs aux good) j.coarser T)

    -- kind 8 as a source
    pub source_8 : s.kind ≡ 8 → Finer n (length regs)
    source_8 e = rw (eight_long good.shaped e) (record { target = target; source = record { lg = s.lg_k; power = refl }; most = rw j.power (pow_mono j.coarser) })

  -- the same where nothing was
  module _ {n : ℕ} (all : n ≡ 2 ^ s.lg_k) where
    pub whole_asks : Floor s (length regs) 0 n
    whole_asks = whole_floor (good_level s regs aux good) all

    pub whole_words : {k : ℕ} → k ≡ n → Worded s (length aux) k
    whole_words e = rw e (good_worded s regs aux good (record { lg = s.lg_k; power = all }))

    pub whole_all : {after last : List ℕ} → after ≡ take n (drop 0 (floors s regs)) → length after ≡ n → last ≡ fed (length after) after (table_in s aux) → last ≡ registers s regs aux
    whole_all floored long q = q ∙ rw (long, whole_floors s regs all floored, all) (fed_floors (good_floored s regs aux good))

-- ---- the ladder
-- what is known where nothing is refused
pub record Accepted (t : Sketch) (tregs : List ℕ) (s : Sketch) (sregs saux : List ℕ) : Type 0 where
  pub target : eight_no t tregs ≡ 0
  pub source : check_no true s sregs saux ≡ 0
  pub coarser : t.lg_k ≤ s.lg_k
  pub tbytes : Bytes tregs
  pub sbytes : Bytes sregs

module _ (t : Sketch) (tregs : List ℕ) (s : Sketch) (sregs saux : List ℕ) where
  merge_no_lem : {n p : ℕ} → n ≡ merge_no t tregs s sregs saux → p ≡ 0 → (n ≡ 0 → ⊥) → refused_at n p t tregs [] ≡ merge_of t tregs s sregs saux
  unfolding merge_of
  merge_no_lem {n} e z h = rw (← e, z, ne_eqb n 0 h)

  pub merge_target : {n p : ℕ} → n ≡ eight_no t tregs → p ≡ 0 → (n ≡ 0 → ⊥) → refused_at n p t tregs [] ≡ merge_of t tregs s sregs saux
  merge_target e z h = merge_no_lem (no_target t tregs s sregs saux e h) z h

  module _ (target : eight_no t tregs ≡ 0) where
    pub merge_source : {n p : ℕ} → n ≡ check_no true s sregs saux → p ≡ 0 → (n ≡ 0 → ⊥) → refused_at n p t tregs [] ≡ merge_of t tregs s sregs saux
    merge_source e z h = merge_no_lem (no_source t tregs s sregs saux target e h) z h

    pub merge_finer : check_no true s sregs saux ≡ 0 → s.lg_k < t.lg_k → refused_out 5 t tregs [] ≡ merge_of t tregs s sregs saux
    merge_finer source h = merge_no_lem (no_finer t tregs s sregs saux target source h) refl (λ e. omega arith)

module _ {t : Sketch} {tregs : List ℕ} {s : Sketch} {sregs saux : List ℕ} (ok : Accepted t tregs s sregs saux) where
  of_target : Good t tregs []
  of_target = check_ok true t tregs [] ok.tbytes ((eight_says t tregs).0 ok.target).1

  is_eight : t.kind ≡ 8
  is_eight = ((eight_says t tregs).0 ok.target).0

  long : length tregs ≡ 2 ^ t.lg_k
  long = eight_long of_target.shaped is_eight

  source_good : Good s sregs saux
  source_good = check_ok true s sregs saux ok.sbytes ok.source

  pub joinable : Joinable s (length tregs)
  joinable = record { lg = t.lg_k; power = long; least = of_target.shaped.low; coarser = ok.coarser }

  module _ {after : List ℕ} (joins : after ≡ joined (length tregs) tregs (registers s sregs saux)) where
    after_long : length after ≡ 2 ^ t.lg_k
    after_long = rw joins (length_poured (length tregs) tregs 0 (registers s sregs saux) ∙ long)

    reads : registers t tregs [] ≡ tregs
    reads = bytes_8 t tregs [] is_eight of_target.shaped ok.tbytes

    after_small : Small after
    after_small = rw joins (poured_small (length tregs) tregs 0 (registers s sregs saux) (rw reads at of_target.small) source_good.small)

    -- no more registers than can be counted
    pub after_cells : Cells 8 after
    after_cells = record { width = record { is = inr refl }; few = rw after_long (pow_mono of_target.shaped.high) }

    after_zeros : {zeros : ℕ} → zeros ≡ count_of 0 (unpacked 8 (1 * length after) after) → zeros ≡ count_of 0 after
    after_zeros e =
        let one : 1 * length after ≡ length after = omega arith in
        e ∙ ap (count_of 0) (ap (λ (n : ℕ). unpacked 8 n after) one ∙ unpacked_8 after (at_all after (omega arith) (λ i l. omega (arith, after_small i l))))

    pub merge_ok : {r : Sketch} {zeros : ℕ} → zeros ≡ count_of 0 (unpacked 8 (1 * length after) after) → r ≡ sketch_of 8 t.lg_k 0 zeros 0 → out 0 0 r 0 after [] ≡ merge_of t tregs s sregs saux
    unfolding merge_of kept_out area_of
    merge_ok {r} {zeros} e q =
        let kept = eight_kept t.lg_k zeros after after_small after_long (after_zeros e) in
        rw (
          eq-eqb (merge_no t tregs s sregs saux) 0 ((merge_says t tregs s sregs saux).1 ((eight_says t tregs).0 ok.target, (ok.source, ok.coarser))),
          reads,
          ← long,
          ← joins,
          q,
          kept.record_is,
          ← kept.bytes_are,
        )
