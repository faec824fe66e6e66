-- Files that are merged keep the target a sketch of kind 8 in good order, and its registers are those of all. Assumes nothing.
use mathlib.Core.Path.{◌≡◌, refl, sym, ap, ◌∙◌}
use mathlib.Core.List.{List, [], ◌∷◌}
use Prim.Native.Nat.{ℕ, suc, ◌^◌}
use native.Mathlib.Omega.{arith}
use Rattle.model.specs.Packed.{Bytes}
use Rattle.model.specs.Registers.{joined}
use Rattle.model.specs.Sketch.{registers, Good}
use Rattle.model.specs.Calls.{Out, kept_out, merge_no, merge_of}
use Rattle.model.specs.declared.Sketch.{Sketch}
use Rattle.model.proofs.Claims.{opens_good}
use Rattle.model.proofs.calls.Picked.{picked_no, picked_done}
use Rattle.model.proofs.calls.Has.{merge_has}
use Rattle.merge_job.specs.Merge.{file_no, opened_of, join_of, take_of, File, unread, came, Merging, merge_all, registers_in, joined_all}
use Rattle.merge_job.specs.Promised.{Target}

-- what came of one that is not refused
pub record Joined (lgk : ℕ) (R : List ℕ) (o : Out) : Type 0 where
  pub target : Target lgk o.sketch o.regs
  pub holds : registers o.sketch o.regs [] ≡ R

merge_no_lem : (t : Sketch) (tregs : List ℕ) (s : Sketch) (sregs saux : List ℕ) → (merge_of t tregs s sregs saux).no ≡ merge_no t tregs s sregs saux
unfolding merge_of kept_out
merge_no_lem t tregs s sregs saux = picked_no (merge_no t tregs s sregs saux) _ _ (λ (o : Out). o.no) refl refl

module _ (lgk : ℕ) (t : Sketch) (tregs : List ℕ) (g : Target lgk t tregs) where
  merge_keeps : (s : Sketch) (sregs saux : List ℕ) → Good s sregs saux → (merge_of t tregs s sregs saux).no ≡ 0
      → Joined lgk (joined (2 ^ lgk) (registers t tregs []) (registers s sregs saux)) (merge_of t tregs s sregs saux)
  merge_keeps s sregs saux h e =
      let m = merge_has t tregs [] s sregs saux g.good h (sym (merge_no_lem t tregs s sregs saux) ∙ e) in
      record {
        target = record { eight = m.1.same_kind; size = m.1.same_size ∙ g.size; good = m.1.good };
        holds = m.1.holds ∙ ap (λ (n : ℕ). joined (2 ^ n) (registers t tregs []) (registers s sregs saux)) g.size;
      }

  pub take_keeps : (l : List ℕ) → Bytes l → (take_of t tregs l).no ≡ 0 → Joined lgk (joined (2 ^ lgk) (registers t tregs []) (registers_in l)) (take_of t tregs l)
  unfolding take_of join_of registers_in opened_of
  take_keeps l b =
      let keeps = Joined lgk (joined (2 ^ lgk) (registers t tregs []) (registers_in l)) in
      picked_done (file_no l) _ _ (λ (o : Out). o.no) refl keeps (λ z.
      picked_done (opened_of l).no _ _ (λ (o : Out). o.no) refl keeps (λ y.
      merge_keeps _ _ _ (opens_good l _ _ _ b y)))

-- all of them
pub all_keep : (lgk i : ℕ) (t : Sketch) (tregs : List ℕ) (fs : List File) → Target lgk t tregs → (merge_all i t tregs fs).no ≡ 0
    → let m = merge_all i t tregs fs in Target lgk m.sketch m.regs × (registers m.sketch m.regs [] ≡ joined_all (2 ^ lgk) (registers t tregs []) fs)
unfolding merge_all joined_all
all_keep lgk i t tregs [] g = λ e. (g, refl)
all_keep lgk i t tregs (unread ∷ fs) g = λ e. absurd (omega arith)
all_keep lgk i t tregs (came l b ∷ fs) g =
    let R = joined (2 ^ lgk) (registers t tregs []) (registers_in l) in
    picked_done (take_of t tregs l).no _ _ (λ (m : Merging). m.no) refl (λ m. Target lgk m.sketch m.regs × (registers m.sketch m.regs [] ≡ joined_all (2 ^ lgk) R fs)) (λ z y.
    let h = take_keeps lgk t tregs g l b z in
    let r = all_keep lgk (suc i) _ _ fs h.target y in
    (r.0, r.1 ∙ ap (λ (R : List ℕ). joined_all (2 ^ lgk) R fs) h.holds))
