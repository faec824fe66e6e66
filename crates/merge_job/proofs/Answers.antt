-- The numbers that a file can get: NO_ROOM is none of them, nor is what speaks of the target, of lent memory or of the job; and which of them name a place. Assumes nothing.
use mathlib.Core.Path.{◌≡◌, refl, sym, subst}
use mathlib.Core.Bool.{Bool, true, false}
use mathlib.Core.List.{List, [], ◌∷◌}
use Prim.Native.Nat.{ℕ, suc, ◌^◌, ◌≤◌}
use native.Mathlib.Nat.{le_refl}
use native.Mathlib.Decide.{ℕ_discrete}
use native.Mathlib.Omega.{arith}
use lib.Dec.{leb}
use lib.ListN.{length, length-replicate}
use lib.Pow.{pow_mono}
use Rattle.model.specs.Pick.{pick, first_of}
use Rattle.model.specs.Table.{base_for, table_size}
use Rattle.model.specs.Sketch.{Good}
use Rattle.model.specs.Answers.{Said, said, placed}
use Rattle.model.specs.Calls.{Out, merge_of}
use Rattle.model.specs.Image.{sketch_in}
use Rattle.model.specs.Claims.{Unless, refused, passed, Wherever, found, nowhere, SketchLines, LastLines}
use Rattle.model.specs.declared.Sketch.{Sketch}
use Rattle.model.proofs.calls.Picked.{picked}
use Rattle.model.proofs.table.FirstLaws.{true_not_false}
use Rattle.model.proofs.table.Shape.{size_shorter}
use Rattle.model.proofs.packing.Lengths.{kind_tells}
use Rattle.model.proofs.calls.Standing.{twice_room}
use Rattle.model.proofs.calls.Has.{good_bytes}
use Rattle.model.proofs.Claims.{demand_1, opens_good}
use Rattle.model.proofs.calls.Rungs.{first_either, first_none, header_either, form_either}
use Rattle.merge_job.specs.Merge.{front_no, large_no, file_no, opened_of, join_of, take_of, File, unread, came, file_of, Merging, merge_all}
use Rattle.merge_job.specs.Promised.{Target}
use Rattle.merge_job.specs.Claims.{answers, among, Answers}
use Rattle.merge_job.proofs.Filed.{Fits, file_says}
use Rattle.merge_job.proofs.Keeps.{take_keeps}

-- no other number is
pub none_other : {n : ℕ} → Answers n → (m : ℕ) → among m answers ≡ false → n ≡ m → ⊥
none_other a m x e = true_not_false (rw e at a.is) x

-- ---- rungs and lines
first_answers : (n : ℕ) (ns : List ℕ) → Answers n → Answers (first_of ns) → Answers (first_of (n ∷ ns))
first_answers = first_either Answers

last_answers : Answers (first_of [])
unfolding among
last_answers = first_none Answers (record { is = refl })

-- a rung
rung : (b : Bool) (n : ℕ) (ns : List ℕ) → among n answers ≡ true → Answers (first_of ns) → Answers (first_of (pick b 0 n ∷ ns))
unfolding among
rung true n ns m r = first_answers 0 ns (record { is = refl }) r
rung false n ns m r = first_answers n ns (record { is = m }) r

-- a line of the table
line : (n : ℕ) {a : ℕ} {Q : Type 0} {next : ℕ → Type 0} → among n answers ≡ true → (Q → next a → Answers a) → Unless n Q next a → Answers a
line n m f (refused h e) = record { is = rw e m }
line n m f (passed q r) = f q r

-- one whose question is answered
passes : {A : Type 0} {n a : A} {Q : Type 0} {next : A → Type 0} → Q → Unless n Q next a → next a
passes q (refused h e) = absurd (h q)
passes q (passed p r) = r

-- ---- what is looked at before an image is opened
unopened_answers : (l : List ℕ) → Answers (file_no l)
unfolding file_no front_no large_no among
unopened_answers l =
    let s = sketch_in l in
    first_answers _ _ (rung (leb (length l) 40000) 17 _ refl (first_answers _ _ (header_either Answers l (record { is = refl }) (record { is = refl }) (record { is = refl })) last_answers))
    (first_answers _ _ (first_answers _ _ (form_either Answers s.kind s.lg_k (record { is = refl }) (record { is = refl }) (record { is = refl }))
    (rung (leb s.lg_k 12) 20 _ refl last_answers)) last_answers)

-- ---- opening
-- so 8,192 words are room for the exceptions of an image that is not LARGE
pub room : (lgk count : ℕ) → 4 ≤ lgk → lgk ≤ 12 → count ≤ 2 ^ lgk → table_size (base_for lgk) count ≤ 8192
room lgk count l h c =
    let most : 2 ^ lgk ≤ 2 ^ 12 = pow_mono h in
    omega (arith, size_shorter (base_for lgk) count (2 ^ lgk) c, twice_room lgk l (omega arith))

-- what opening says: one of the numbers, and a place with 21 to 25 alone
record Told (a : Said) : Type 0 where
  pub number : Answers a.no
  pub place : placed a.no ≡ false → a.place ≡ 0

-- a line that names no place, one that names one, lines for one kind alone
told : (n : ℕ) {a : Said} {Q : Type 0} {next : Said → Type 0} → among n answers ≡ true → (Q → next a → Told a) → Unless (said n 0) Q next a → Told a
told n m f (refused h e) = subst Told (sym e) (record { number = record { is = m }; place = λ p. refl })
told n m f (passed q r) = f q r

spot : (n : ℕ) {a : Said} {P : ℕ → Type 0} {next : Said → Type 0} → among n answers ≡ true → placed n ≡ true → (next a → Told a) → Wherever n P next a → Told a
spot n m p f (found i x e) = subst Told (sym e) (record { number = record { is = m }; place = λ q. absurd (true_not_false p q) })
spot n m p f (nowhere h r) = f r

only : {Q L N : Type 0} {a : Said} → Dec Q → (L → Told a) → (N → Told a) → (Q → L) × ((Q → ⊥) → N) → Told a
only (yes q) f g o = f (o.0 q)
only (no n) f g o = g (o.1 n)

last_lines : (l : List ℕ) (a : Said) → LastLines l a → Told a
unfolding among
last_lines l a = told 14 refl (λ p. told 15 refl (λ p e. subst Told (sym e) (record { number = record { is = refl }; place = λ p. refl })))

-- what is lent is of the right size, and room enough
opened_told : (l : List ℕ) → Fits l → Told (said (opened_of l).no (opened_of l).place)
unfolding opened_of among
opened_told l f =
    let s = sketch_in l in
    told 7 refl (λ p. told 8 refl (λ p. told 9 refl (λ p. told 2 refl (λ p u.
    told 10 refl (λ c. told 11 refl (λ p. told 7 refl (λ p u.
    told 12 refl (λ p. only (ℕ_discrete s.kind 4)
    (spot 21 refl refl (spot 22 refl refl (spot 23 refl refl (told 24 refl (λ p. spot 25 refl refl (last_lines l _)))))) (last_lines l _))
    (passes (rw length-replicate (room s.lg_k s.aux_count f.low f.small c.1.0)) u))))
    (passes (λ four. le_refl _) (passes (length-replicate _ 0) u)))))) (demand_1.open_lines l _ _ _)

-- ---- merging
-- the lines of a sketch in good order
good_passes : {next : ℕ → Type 0} {a : ℕ} (s : Sketch) (regs aux : List ℕ) → Good s regs aux → SketchLines (Unit {0}) s regs aux next a → next a
good_passes s regs aux g u =
    let h = g.shaped in
    passes g (passes tt (passes h.long (passes (h.low, h.high) (passes ((kind_tells s.kind).0 h.kind_known) u))))

module _ (lgk : ℕ) (t : Sketch) (tregs : List ℕ) (g : Target lgk t tregs) where
  merge_answers : (s : Sketch) (sregs saux : List ℕ) → Good s sregs saux → Answers (merge_of t tregs s sregs saux).no
  unfolding among
  merge_answers s sregs saux h =
      line 5 refl (λ p e. record { is = rw e })
      (good_passes s sregs saux h (good_passes t tregs [] g.good (passes g.eight (demand_1.merge_lines t tregs s sregs saux (good_bytes g.good) (good_bytes h)))))

  -- ---- a file
  pub file_answers : (f : File) → Answers (file_of t tregs f).no
  unfolding take_of join_of opened_of among
  file_answers unread = record { is = refl }
  file_answers (came l b) =
      picked (file_no l) _ _ (λ (o : Out). Answers o.no) (λ z.
      picked (opened_of l).no _ _ (λ (o : Out). Answers o.no) (λ y.
      merge_answers _ _ _ (opens_good l _ _ _ b y)) (λ n. (opened_told l ((file_says l).0 z)).number)) (λ n. unopened_answers l)

  -- NO_ROOM can't occur
  pub never_no_room : (f : File) → (file_of t tregs f).no ≡ 6 → ⊥
  unfolding among
  never_no_room f = none_other (file_answers f) 6 refl

  file_keeps : (f : File) → (file_of t tregs f).no ≡ 0 → let o = file_of t tregs f in Target lgk o.sketch o.regs
  file_keeps unread e = absurd (omega arith)
  file_keeps (came l b) e = (take_keeps lgk t tregs g l b e).target

-- ---- all of them
pub all_answers : (lgk i : ℕ) (t : Sketch) (tregs : List ℕ) (fs : List File) → Target lgk t tregs → Answers (merge_all i t tregs fs).no
unfolding merge_all among
all_answers lgk i t tregs [] g = record { is = refl }
all_answers lgk i t tregs (f ∷ fs) g =
    picked (file_of t tregs f).no _ _ (λ (m : Merging). Answers m.no) (λ z.
    all_answers lgk (suc i) _ _ fs (file_keeps lgk t tregs g f z)) (λ n. file_answers lgk t tregs g f)

-- ---- places
-- what is given names a place with 21 to 25 alone
abbrev Placed : Out → Type 0
Placed o = placed o.no ≡ false → o.place ≡ 0

pub place_only : (t : Sketch) (tregs : List ℕ) (f : File) → Placed (file_of t tregs f)
unfolding take_of join_of
place_only t tregs unread = λ e. refl
place_only t tregs (came l b) =
    picked (file_no l) _ _ Placed (λ z.
    picked (opened_of l).no _ _ Placed (λ y e. demand_1.merge_place t tregs _ _ _) (λ n. (opened_told l ((file_says l).0 z)).place)) (λ n e. refl)
