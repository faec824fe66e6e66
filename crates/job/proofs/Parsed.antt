-- The outcomes of judging a job, in the code's places. Assumes nothing.
use mathlib.Core.Path.{◌≡◌, refl, sym, ap, ◌∙◌, subst}
use mathlib.Core.Bool.{Bool, true, false}
use mathlib.Core.List.{List}
use Prim.Native.Nat.{ℕ, ◌+◌, ◌-◌, ◌≤◌, ◌<◌}
use native.Mathlib.Omega.{arith}
use lib.Dec.{eqb}
use lib.ListN.{length, take, drop, length-drop, length-append}
use lib.Seq.{drop-drop}
use borrow.Author.Tests.{eqb-true, ne_eqb}
use Rattle.model.specs.Pick.{pick}
use Rattle.model.proofs.order.Tells.{tells_true}
use Rattle.text.specs.Text.{text}
use Rattle.job.specs.Job.{Job, no_job, size_line, in_lines, size_in, path_in, ins_in, job_of, places_of, PathIn}
use Rattle.job.specs.declared.Places.{Places}
use Rattle.job.proofs.Lines.{path_room}
use Rattle.job.proofs.Texts.{tests, tests_tell, ins_of, last_of, out_of, read_of, size_line_lem, ins_text}

-- what the tests ask
abbrev Asked : List ℕ → Type 0
Asked l = (length l ≤ 4096) × ((0 < size_in l) × ((0 < length (ins_of l)) × ((0 < out_of l) × (length (last_of l) ≡ out_of l + 5))))

no_job_lem : (l : List ℕ) → (Asked l → ⊥) → (job_of l).lgk ≡ 0
unfolding job_of
no_job_lem l h = go (tests l (size_in l) (ins_of l) (last_of l) (out_of l)) (tests_tell l (size_in l) (ins_of l) (last_of l) (out_of l)).0
  where
    go : (b : Bool) → (b ≡ true → Asked l) → (pick b (read_of l) no_job).lgk ≡ 0
    go true f = absurd (h (f refl))
    go false f = refl

pub too_long : (l : List ℕ) → 4096 < length l → (job_of l).lgk ≡ 0
too_long l h = no_job_lem l (λ a. omega arith)

pub no_size : (l : List ℕ) → size_in l ≡ 0 → (job_of l).lgk ≡ 0
no_size l h = no_job_lem l (λ a. omega arith)

-- where the size stands, and the `in=` lines
pub record Listing (l : List ℕ) (lgk first files last : ℕ) : Type 0 where
  pub size : (lgk ≡ size_in l) × (4 ≤ lgk) × (lgk ≤ 12)
  pub starts : first ≡ length (size_line lgk)
  pub listed : (files ≡ length (ins_in 64 (drop first l))) × (last ≡ first + length (in_lines (ins_in 64 (drop first l))))

module _ (l : List ℕ) {lgk : ℕ} (size : (lgk ≡ size_in l) × (4 ≤ lgk) × (lgk ≤ 12)) where
  positive : 0 < size_in l
  positive = omega arith

  same_start : {first : ℕ} → first ≡ length (size_line lgk) → first ≡ length (size_line (size_in l))
  same_start starts = starts ∙ ap (λ (n : ℕ). length (size_line n)) size.0

  pub first_room : {first : ℕ} → first ≡ length (size_line lgk) → first ≤ length l
  first_room starts =
      let e = same_start starts in
      omega (arith, ap length (size_line_lem l positive).line_is, length-append (size_line (size_in l)) (drop (length (size_line (size_in l))) l))

module _ {l : List ℕ} {lgk first files last : ℕ} (p : Listing l lgk first files last) where
  same_first : first ≡ length (size_line (size_in l))
  same_first = same_start l p.size p.starts

  same_ins : ins_in 64 (drop first l) ≡ ins_of l
  same_ins = ap (λ (n : ℕ). ins_in 64 (drop n l)) same_first

  same_files : files ≡ length (ins_of l)
  same_files = p.listed.0 ∙ ap length same_ins

  pub no_ins : files ≡ 0 → (job_of l).lgk ≡ 0
  no_ins h = let e = same_files in no_job_lem l (λ a. omega arith)

  same_last : drop last l ≡ last_of l
  same_last =
      let a = ap (λ (n : ℕ). drop n l) p.listed.1 in
      let b = sym (drop-drop (length (in_lines (ins_in 64 (drop first l)))) first l) in
      let d = ap (λ (n : ℕ). drop (length (in_lines (ins_in 64 (drop n l)))) (drop n l)) same_first in
      a ∙ b ∙ d

  pub last_room : last ≤ length l
  last_room =
      let r = ap length (ins_text 64 (drop first l)).lines_are in
      let e = length-append (in_lines (ins_in 64 (drop first l))) (drop (length (in_lines (ins_in 64 (drop first l)))) (drop first l)) in
      let d = length-drop first l in
      let f = first_room l p.size p.starts in
      let q = p.listed.1 in
      omega arith

  pub no_out : path_in (text "out=") (drop last l) ≡ 0 → (job_of l).lgk ≡ 0
  no_out h = let e = ap (λ (t : List ℕ). path_in (text "out=") t) same_last in no_job_lem l (λ a. omega arith)

  module _ {path : List ℕ} (is : PathIn (text "out=") (drop last l) path) where
    same_path : length path ≡ out_of l
    same_path = is.long ∙ ap (λ (t : List ℕ). path_in (text "out=") t) same_last

    pub path_fits : length path + 5 ≤ length l
    path_fits =
        let e = is.long in
        let s = is.some in
        let r = path_room (text "out=") (drop last l) (omega arith) in
        let d = length-drop last l in
        omega arith

    same_length : length l - last ≡ length (last_of l)
    same_length = sym (length-drop last l) ∙ ap length same_last

    pub more_behind : (length l - last ≡ length path + 5 → ⊥) → (job_of l).lgk ≡ 0
    more_behind h = let e = same_path in let s = same_length in no_job_lem l (λ a. h (omega arith))

    pub found : length l ≤ 4096 → (files ≡ 0 → ⊥) → length l - last ≡ length path + 5 → record { lg_k = lgk; files = files; first = first; last = last } ≡ places_of (job_of l)
    unfolding job_of places_of
    found a b d =
        let e = same_path in
        let n = is.some in
        let s = same_length in
        let f = same_files in
        let size = p.size.0 in
        let ok = tells_true _ (tests_tell l (size_in l) (ins_of l) (last_of l) (out_of l)) (a, (positive l p.size, (omega arith, (omega arith, omega arith)))) in
        let z = ne_eqb (size_in l) 0 (λ e. let h = p.size.1 in omega arith) in
        let q = same_first in
        let r : last ≡ first + length (in_lines (ins_of l)) = p.listed.1 ∙ ap (λ (ps : List (List ℕ)). first + length (in_lines ps)) same_ins in
        let places : ℕ → ℕ → ℕ → ℕ → Places = λ a b c d. record { lg_k = a; files = b; first = c; last = d } in
        let t : places lgk files first last ≡ places (size_in l) (length (ins_of l)) (length (size_line (size_in l))) (length (size_line (size_in l)) + length (in_lines (ins_of l))) = cc in
        t ∙ sym (ap (λ (b : Bool). places_of (pick b (read_of l) no_job)) ok ∙ simp z)

-- what the places of a job say: its size fits, its `in=` lines start at the first, and its `out=` line at the last
pub record Says (l : List ℕ) (j : Job) (p : Places) : Type 0 where
  pub low : 4 ≤ p.lg_k
  pub high : p.lg_k ≤ 12
  pub ins_are : j.ins ≡ ins_in 64 (drop p.first l)
  pub names : 0 < path_in (text "out=") (drop p.last l)
  pub out_is : j.out ≡ take (path_in (text "out=") (drop p.last l)) (drop 4 (drop p.last l))

pub places_say : (l : List ℕ) (p : Places) → p ≡ places_of (job_of l) → (p.lg_k ≡ 0 → ⊥) → Says l (job_of l) p
unfolding job_of places_of
places_say l p e h = subst (Says l (job_of l)) (sym e) (go (tests l (size_in l) (ins_of l) (last_of l) (out_of l)) (tests_tell l (size_in l) (ins_of l) (last_of l) (out_of l)).0 (λ z. h (ap (λ (p : Places). p.lg_k) e ∙ z)))
  where
    read : Asked l → Says l (read_of l) (places_of (read_of l))
    read a =
        let s = size_line_lem l a.1.0 in
        let d = sym (drop-drop (length (in_lines (ins_of l))) (length (size_line (size_in l))) l) in
        let z : eqb (size_in l) 0 ≡ false = ne_eqb (size_in l) 0 (λ e. omega arith) in
        rw z (record { low = s.low; high = s.high; ins_are = refl; names = rw d a.1.1.1.0; out_is = rw d refl })

    go : (b : Bool) → (b ≡ true → Asked l) → ((places_of (pick b (read_of l) no_job)).lg_k ≡ 0 → ⊥) → Says l (pick b (read_of l) no_job) (places_of (pick b (read_of l) no_job))
    go true f h = read (f refl)
    go false f h = absurd (h refl)

-- and of what it says
module _ (j : Job) (p : Places) (is : p ≡ places_of j) where
  places : Places
  places = record { lg_k = j.lgk; files = length j.ins; first = length (size_line j.lgk); last = length (size_line j.lgk) + length (in_lines j.ins) }

  nothing : Places
  nothing = record { lg_k = 0; files = 0; first = 0; last = 0 }

  pub places_are : (p.lg_k ≡ 0 → ⊥) → (p.lg_k ≡ j.lgk) × (p.files ≡ length j.ins)
  unfolding places_of places nothing
  places_are h = go (eqb j.lgk 0) is
    where
      go : (b : Bool) → p ≡ pick b nothing places → (p.lg_k ≡ j.lgk) × (p.files ≡ length j.ins)
      go true e = absurd (h (ap (λ (p : Places). p.lg_k) e))
      go false e = (ap (λ (p : Places). p.lg_k) e, ap (λ (p : Places). p.files) e)

  pub places_none : p.lg_k ≡ 0 → j.lgk ≡ 0
  unfolding places_of places nothing
  places_none z = go (eqb j.lgk 0) refl is
    where
      go : (b : Bool) → eqb j.lgk 0 ≡ b → p ≡ pick b nothing places → j.lgk ≡ 0
      go true q e = eqb-true j.lgk 0 q
      go false q e = ap (λ (p : Places). p.lg_k) (sym e) ∙ z
