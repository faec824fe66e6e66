-- Opening answers by the lines of the table, in their order. Assumes nothing.
use mathlib.Core.Path.{◌≡◌, refl, sym, ◌∙◌, ap, subst}
use mathlib.Core.Bool.{Bool, true, false}
use mathlib.Core.List.{List, [], ◌∷◌}
use mathlib.Core.Logic.{◌⊎◌, inl, inr}
use Prim.Native.Nat.{ℕ, ◌+◌, ◌*◌, ◌^◌}
use lib.Dec.{eqb, leb}
use lib.ListN.{length, get_or}
use borrow.Author.Tests.{eqb-true, eqb-false, eq-eqb}
use Rattle.model.specs.Pick.{pick, both, first_of, Tells}
use Rattle.model.specs.Table.{base_for, table_size}
use Rattle.model.specs.Sketch.{is_kind, bytes_of, cells}
use Rattle.model.specs.Check.{counts_fit, values_fit, spare_fits, tally_fits, lgk_no, size_no, scratch_fits}
use Rattle.model.specs.Image.{kind_of, sketch_in, regs_in, compact_in, word_count, words_in, aux_in, place_in, said_in, header_no, form_no, memory_no, lg_arr_fits, counts_no, room_no, body_no, open_no, open_of}
use Rattle.model.specs.Answers.{Said, said}
use Rattle.model.specs.Calls.{Out}
use Rattle.model.specs.Claims.{Only, AuxLines, OpenLines}
use Rattle.model.proofs.table.FirstLaws.{true_not_false}
use Rattle.model.proofs.order.Tells.{tells_as, tells_both, tells_le, tells_eq}
use Rattle.model.proofs.calls.Ladder.{plain, first_tail, first_inside, first_one}
use Rattle.model.proofs.image.Opens.{lg_arr_tells}
use Rattle.model.proofs.order.Tests.{cells_long, counts_tells, cur_min_most, values_tells, spare_tells, tally_tells, scratch_tells}
use Rattle.model.proofs.calls.Picked.{picked}
use Rattle.model.proofs.image.Faults.{aux_lines}
use Rattle.model.proofs.image.SaidIn.{aux_in_lem}
use Rattle.model.proofs.calls.Rungs.{halt}
use Rattle.model.proofs.image.SameSlots.{aux_other, by_words}

-- the modes are those of the three kinds
mode_tells : (mode : ℕ) → Tells (is_kind (kind_of mode)) ((mode ≡ 2) ⊎ ((mode ≡ 6) ⊎ (mode ≡ 10)))
unfolding kind_of is_kind
mode_tells mode = go (eqb mode 10) refl (eqb mode 6) refl (eqb mode 2) refl
  where
    go : (a : Bool) → eqb mode 10 ≡ a → (b : Bool) → eqb mode 6 ≡ b → (c : Bool) → eqb mode 2 ≡ c → Tells (is_kind (pick a 8 (pick b 6 (pick c 4 0)))) ((mode ≡ 2) ⊎ ((mode ≡ 6) ⊎ (mode ≡ 10)))
    go true p b q c r = ((λ e. inr (inr (eqb-true mode 10 p))), λ e. absurd (true_not_false refl e))
    go false p true q c r = ((λ e. inr (inl (eqb-true mode 6 q))), λ e. absurd (true_not_false refl e))
    go false p false q true r = ((λ e. inl (eqb-true mode 2 r)), λ e. absurd (true_not_false refl e))
    go false p false q false r = ((λ e. absurd (true_not_false e refl)), λ e m. none m)
      where
        none : (mode ≡ 2) ⊎ ((mode ≡ 6) ⊎ (mode ≡ 10)) → ⊥
        none (inl e) = eqb-false mode 2 r e
        none (inr (inl e)) = eqb-false mode 6 q e
        none (inr (inr e)) = eqb-false mode 10 p e

-- the parts of the ladder are one ladder
abbrev rungs : List ℕ → List ℕ → List ℕ → List ℕ → List ℕ
rungs l regs aux scratch =
    let s = sketch_in l in
    pick (leb 40 (length l)) 0 7
    ∷ pick (both (eqb (get_or l 0 0) 10) (both (eqb (get_or l 1 0) 1) (eqb (get_or l 2 0) 7))) 0 8
    ∷ pick (is_kind s.kind) 0 9
    ∷ lgk_no s.lg_k
    ∷ size_no s.kind s.lg_k (length regs)
    ∷ pick (scratch_fits s.kind (length aux) (length scratch)) 0 3
    ∷ pick (counts_fit s) 0 10
    ∷ pick (lg_arr_fits l) 0 11
    ∷ pick (leb (40 + bytes_of s.kind s.lg_k + 4 * word_count l) (length l)) 0 7
    ∷ pick (leb (table_size (base_for s.lg_k) s.aux_count) (length aux)) 0 6
    ∷ pick (values_fit s (regs_in l)) 0 12
    ∷ (aux_in l).no
    ∷ pick (spare_fits s (regs_in l)) 0 14
    ∷ pick (tally_fits s (regs_in l)) 0 15
    ∷ []

open_rungs : (l regs aux scratch : List ℕ) → open_no l (length regs) (length aux) (length scratch) ≡ first_of (rungs l regs aux scratch)
unfolding open_no header_no form_no memory_no counts_no room_no body_no
open_rungs l regs aux scratch = first_inside _ _ _ (first_inside _ _ _ (first_inside _ _ _ (first_inside _ _ _ (first_tail (_ ∷ []) _ _ (first_one _)))))

-- ---- an answer with its place
open_said : (l regs aux scratch : List ℕ) → let o = open_of l regs aux scratch in said o.no o.place ≡ said_in l (open_no l (length regs) (length aux) (length scratch))
unfolding open_of place_in
open_said l regs aux scratch = picked (open_no l (length regs) (length aux) (length scratch)) _ _ (λ (o : Out). said o.no o.place ≡ said_in l (open_no l (length regs) (length aux) (length scratch))) (λ z. rw z) (λ h. refl)

none_said : (l : List ℕ) → said_in l (first_of []) ≡ said 0 0
unfolding first_of place_in
none_said l = refl

-- the exception words decide, and name their place, or hand on
aux_decide : (l : List ℕ) (ns : List ℕ) {next : Said → Type 0} → next (said_in l (first_of ns))
    → Only ((sketch_in l).kind ≡ 4) (AuxLines (compact_in l) (2 ^ (sketch_in l).lg_k) (sketch_in l).cur_min (sketch_in l).aux_count (words_in l) (cells (sketch_in l) (regs_in l)) next) next (said_in l (first_of ((aux_in l).no ∷ ns)))
unfolding first_of
aux_decide l ns {next} f =
    ((λ four. let w = by_words l four in aux_lines _ _ _ _ _ _ next _ (λ h. is (λ z. h (ap (λ (g : Said). g.no) (sym w) ∙ z)) ∙ w) (λ z. on (w ∙ z))), λ n. on (aux_other l n))
  where
    on : aux_in l ≡ said 0 0 → next (said_in l (first_of ((aux_in l).no ∷ ns)))
    on e = rw (eq-eqb (aux_in l).no 0 (ap (λ (g : Said). g.no) e)) f

    is : ((aux_in l).no ≡ 0 → ⊥) → said_in l (first_of ((aux_in l).no ∷ ns)) ≡ aux_in l
    is h = sym (aux_in_lem l (halt (aux_in l).no ns refl h) h)

pub open_lines : (l regs aux scratch : List ℕ) → let o = open_of l regs aux scratch in OpenLines l regs aux scratch (said o.no o.place)
unfolding lgk_no size_no sketch_in place_in
open_lines l regs aux scratch =
    let s = sketch_in l in
    let k = 2 ^ s.lg_k in
    subst (OpenLines l regs aux scratch) (sym (open_said l regs aux scratch ∙ ap (said_in l) (open_rungs l regs aux scratch)))
    (plain (place_in l) _ 6 _ refl (tells_le 40 (length l)) (λ p.
    plain (place_in l) _ 7 _ refl (tells_both _ _ (tells_eq (get_or l 0 0) 10) (tells_both _ _ (tells_eq (get_or l 1 0) 1) (tells_eq (get_or l 2 0) 7))) (λ p.
    plain (place_in l) _ 8 _ refl (mode_tells (get_or l 7 0)) (λ p.
    plain (place_in l) _ 1 _ refl (tells_both _ _ (tells_le 4 s.lg_k) (tells_le s.lg_k 21)) (λ p.
    plain (place_in l) _ 2 _ refl (tells_eq (length regs) (bytes_of s.kind s.lg_k)) (λ p.
    plain (place_in l) _ 2 _ refl (scratch_tells s.kind aux scratch) (λ p.
    plain (place_in l) _ 9 _ refl (tells_as _ (λ c. (c.num, (c.count, (cur_min_most s c, c.none)))) (λ q. record { num = q.0; count = q.1.0; low = λ e. q.1.1.0; none = q.1.1.1 }) (counts_tells s)) (λ p.
    plain (place_in l) _ 10 _ refl (lg_arr_tells l) (λ p.
    plain (place_in l) _ 6 _ refl (tells_le (40 + bytes_of s.kind s.lg_k + 4 * word_count l) (length l)) (λ p.
    plain (place_in l) _ 5 _ refl (tells_le (table_size (base_for s.lg_k) s.aux_count) (length aux)) (λ p.
    plain (place_in l) _ 11 _ refl (rw (cells_long s (regs_in l)) at (values_tells s (regs_in l))) (λ p.
    aux_decide l _
    (plain (place_in l) _ 13 _ refl (spare_tells s (regs_in l)) (λ p.
    plain (place_in l) _ 14 [] refl (tally_tells s (regs_in l)) (λ p. none_said l)))))))))))))))
