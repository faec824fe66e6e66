-- A text is read as a job exactly if it is the text of one that may be asked for. Assumes nothing.
use mathlib.Core.Path.{◌≡◌, refl, sym, ap, ◌∙◌, subst}
use mathlib.Core.Bool.{Bool, true, false}
use mathlib.Core.List.{List, [], ◌∷◌, ◌++◌, append_assoc, append-nil}
use Prim.Native.Nat.{ℕ, zero, suc, ◌+◌, ◌-◌, ◌≤◌, ◌<◌, zero-le, suc-le-suc}
use native.Mathlib.Nat.{not-suc-le-zero, le_of_suc-le-suc}
use native.Mathlib.Omega.{arith}
use native.Mathlib.Decide.{dec_lt}
use lib.Dec.{eqb, leb, ltb}
use lib.ListN.{length, take, drop, length-drop, length-append, drop_of_length-le}
use lib.Seq.{drop-drop, length-take-le, drop-append_seam, take-append_seam, drop_at}
use borrow.Author.Tests.{eqb-false, ltb-true, lt-ltb, le-ltb}
use Rattle.model.specs.Pick.{pick, both, first, Tells}
use Rattle.model.proofs.order.Tells.{tells_both, tells_le, tells_lt, tells_eq, tells_true}
use Rattle.model.proofs.table.FirstLaws.{first_holds, first_is, true_not_false}
use Rattle.text.specs.Text.{text, line, spelt, stands_at}
use Rattle.text.proofs.Standing.{stands_front}
use Rattle.job.specs.Job.{Job, job, no_job, size_line, in_lines, text_of, size_in, path_in, ins_in, job_of, Paths, Fit}
use Rattle.job.proofs.Lines.{path_room, path_is, path_line, line_path}
use Rattle.job.proofs.Walk.{ins_end, ins_more}

-- two texts stand at the front, one behind the other
glue : (a b l : List ℕ) (k : ℕ) → length a ≡ k → l ≡ a ++ drop k l → drop k l ≡ b ++ drop (length b) (drop k l) → l ≡ (a ++ b) ++ drop (length (a ++ b)) l
glue a b l k e p q =
    let n : k + length b ≡ length (a ++ b) = simp (length-append, e) in
    let d = drop-drop (length b) k l ∙ ap (λ (n : ℕ). drop n l) n in
    p ∙ ap (λ (t : List ℕ). a ++ t) (q ∙ ap (λ (t : List ℕ). b ++ t) d) ∙ sym (append_assoc a b _)

-- how long a line is, read and written
line_length : (key p : List ℕ) → length (line key p) ≡ length p + (length key + 1)
unfolding line
line_length key p = simp length-append (omega arith)

pub line_long : (key l : List ℕ) → 0 < path_in key l → length (line key (take (path_in key l) (drop (length key) l))) ≡ path_in key l + (length key + 1)
line_long key l h =
    let r = path_room key l h in
    let e : length (take (path_in key l) (drop (length key) l)) ≡ path_in key l = length-take-le (path_in key l) (drop (length key) l) (simp length-drop (omega arith)) in
    line_length key (take (path_in key l) (drop (length key) l)) ∙ simp e

-- the path of a line, and what stands behind it
line_take : (key p r : List ℕ) → take (length p) (drop (length key) (line key p ++ r)) ≡ p
unfolding line
line_take key p r =
    let a : line key p ++ r ≡ key ++ (p ++ (10 ∷ r)) = simp append_assoc in
    ap (λ (m : List ℕ). take (length p) (drop (length key) m)) a ∙ ap (λ (m : List ℕ). take (length p) m) (drop-append_seam key (p ++ (10 ∷ r))) ∙ take-append_seam p (10 ∷ r)

line_drop : (key p r : List ℕ) → drop (length p + (length key + 1)) (line key p ++ r) ≡ r
line_drop key p r = drop_at (line key p) r _ (line_length key p)

-- ---- the first line
pub record Sized (l : List ℕ) (n : ℕ) : Type 0 where
  pub low : 4 ≤ n
  pub high : n ≤ 12
  pub line_is : l ≡ size_line n ++ drop (length (size_line n)) l

pub size_line_lem : (l : List ℕ) → 0 < size_in l → Sized l (size_in l)
unfolding size_in
size_line_lem l h = go (first (λ n. stands_at (size_line (4 + n)) l) 9) (first_holds (λ n. stands_at (size_line (4 + n)) l) 9) (ltb (first (λ n. stands_at (size_line (4 + n)) l) 9) 9) refl h
  where
    go : (i : ℕ) → (i < 9 → stands_at (size_line (4 + i)) l ≡ true) → (b : Bool) → ltb i 9 ≡ b → 0 < pick b (4 + i) 0 → Sized l (pick b (4 + i) 0)
    go i f true e h = let s = ltb-true i 9 e in record { low = omega arith; high = omega arith; line_is = stands_front (size_line (4 + i)) l (f s) }
    go i f false e h = absurd (not-suc-le-zero h)

line_size_from : (m : ℕ) (r : List ℕ) → m < 9 → size_in (size_line (4 + m) ++ r) ≡ 4 + m
unfolding size_in first stands_at spelt line
line_size_from zero r h = refl
line_size_from (suc zero) r h = refl
line_size_from (suc (suc zero)) r h = refl
line_size_from (suc (suc (suc zero))) r h = refl
line_size_from (suc (suc (suc (suc zero)))) r h = refl
line_size_from (suc (suc (suc (suc (suc zero))))) r h = refl
line_size_from (suc (suc (suc (suc (suc (suc zero)))))) r h = refl
line_size_from (suc (suc (suc (suc (suc (suc (suc zero))))))) r h = refl
line_size_from (suc (suc (suc (suc (suc (suc (suc (suc zero)))))))) r h = refl
line_size_from (suc (suc (suc (suc (suc (suc (suc (suc (suc m))))))))) r h = absurd (omega arith)

pub line_size : (n : ℕ) (r : List ℕ) → 4 ≤ n → n ≤ 12 → size_in (size_line n ++ r) ≡ n
line_size n r a b = let e : 4 + (n - 4) ≡ n = omega arith in subst (λ (x : ℕ). size_in (size_line x ++ r) ≡ x) e (line_size_from (n - 4) r (omega arith))

-- the outcomes of looking for it
module _ (l : List ℕ) where
  asks : ℕ → Bool
  asks m = stands_at (size_line (4 + m)) l

  pub size_found : (n : ℕ) → 4 ≤ n → n ≤ 12 → stands_at (size_line n) l ≡ true → ((i : ℕ) → 4 + i < n → stands_at (size_line (4 + i)) l ≡ false) → n ≡ size_in l
  unfolding size_in asks
  size_found n a b t f =
      let q : 4 + (n - 4) ≡ n = omega arith in
      let e = first_is asks 9 (n - 4) (omega arith) (rw q t) (λ i h. f i (omega arith)) in
      sym (simp (e, lt-ltb (n - 4) 9 (omega arith)) q)

  pub size_missing : ((i : ℕ) → 4 + i < 13 → stands_at (size_line (4 + i)) l ≡ false) → size_in l ≡ 0
  unfolding size_in asks
  size_missing f = go (dec_lt (first asks 9) 9)
    where
      go : Dec (first asks 9 < 9) → size_in l ≡ 0
      go (yes k) = absurd (true_not_false (first_holds asks 9 k) (f _ (omega arith)))
      go (no k) = simp (le-ltb (first asks 9) 9 (omega arith))

-- how long it is
size_long_from : (m : ℕ) → m < 9 → length (size_line (4 + m)) ≡ pick (ltb (4 + m) 10) 6 7
unfolding spelt line
size_long_from zero h = refl
size_long_from (suc zero) h = refl
size_long_from (suc (suc zero)) h = refl
size_long_from (suc (suc (suc zero))) h = refl
size_long_from (suc (suc (suc (suc zero)))) h = refl
size_long_from (suc (suc (suc (suc (suc zero))))) h = refl
size_long_from (suc (suc (suc (suc (suc (suc zero)))))) h = refl
size_long_from (suc (suc (suc (suc (suc (suc (suc zero))))))) h = refl
size_long_from (suc (suc (suc (suc (suc (suc (suc (suc zero)))))))) h = refl
size_long_from (suc (suc (suc (suc (suc (suc (suc (suc (suc m))))))))) h = absurd (omega arith)

pub size_long : (n : ℕ) → 4 ≤ n → n ≤ 12 → length (size_line n) ≡ pick (ltb n 10) 6 7
size_long n a b = let e : 4 + (n - 4) ≡ n = omega arith in subst (λ (x : ℕ). length (size_line x) ≡ pick (ltb x 10) 6 7) e (size_long_from (n - 4) (omega arith))

-- ---- the `in=` lines
pub record Read (f : ℕ) (l : List ℕ) (ps : List (List ℕ)) : Type 0 where
  pub few : length ps ≤ f
  pub fit : Paths ps
  pub lines_are : l ≡ in_lines ps ++ drop (length (in_lines ps)) l

pub ins_text : (f : ℕ) (l : List ℕ) → Read f l (ins_in f l)
unfolding ins_in in_lines
ins_text zero l = record { few = zero-le; fit = tt; lines_are = refl }
ins_text (suc f) l = go (eqb (path_in (text "in=") l) 0) refl (ins_text f (drop (path_in (text "in=") l + 4) l))
  where
    go : (b : Bool) → eqb (path_in (text "in=") l) 0 ≡ b → Read f (drop (path_in (text "in=") l + 4) l) (ins_in f (drop (path_in (text "in=") l + 4) l))
        → Read (suc f) l (pick b [] (take (path_in (text "in=") l) (drop 3 l) ∷ ins_in f (drop (path_in (text "in=") l + 4) l)))
    go true e r = record { few = zero-le; fit = tt; lines_are = refl }
    go false e r =
        let ne = eqb-false (path_in (text "in=") l) 0 e in
        let h : 0 < path_in (text "in=") l = omega arith in
        record { few = suc-le-suc r.few; fit = (path_is (text "in=") l h, r.fit); lines_are = glue (line (text "in=") (take (path_in (text "in=") l) (drop 3 l))) (in_lines (ins_in f (drop (path_in (text "in=") l + 4) l))) l _ (line_long (text "in=") l h) (path_line (text "in=") l h) r.lines_are }

pub text_ins : (ps : List (List ℕ)) (f : ℕ) (r : List ℕ) → Paths ps → length ps ≤ f → path_in (text "in=") r ≡ 0 → ins_in f (in_lines ps ++ r) ≡ ps
unfolding in_lines
text_ins [] f r fit few e = ins_end f r e
text_ins (p ∷ ps) zero r fit few e = absurd (not-suc-le-zero few)
text_ins (p ∷ ps) (suc f) r fit few e =
    let a : in_lines (p ∷ ps) ++ r ≡ line (text "in=") p ++ (in_lines ps ++ r) = append_assoc (line (text "in=") p) (in_lines ps) r in
    let n = line_path (text "in=") p (in_lines ps ++ r) fit.0 in
    let s = fit.0.some in
    let m = ins_more f (line (text "in=") p ++ (in_lines ps ++ r)) (λ z. absurd (omega arith)) in
    let i = text_ins ps f r fit.1 (le_of_suc-le-suc few) e in
    let t = ap (λ (k : ℕ). take k (drop 3 (line (text "in=") p ++ (in_lines ps ++ r)))) n ∙ line_take (text "in=") p (in_lines ps ++ r) in
    let d = ap (λ (k : ℕ). ins_in f (drop (k + 4) (line (text "in=") p ++ (in_lines ps ++ r)))) n ∙ ap (λ (m : List ℕ). ins_in f m) (line_drop (text "in=") p (in_lines ps ++ r)) in
    ap (λ (m : List ℕ). ins_in (suc f) m) a ∙ m ∙ (cc)

-- ---- the whole
-- the reading, from each part on
abbrev pub tests : List ℕ → ℕ → List (List ℕ) → List ℕ → ℕ → Bool
tests l n ps last m = both (leb (length l) 4096) (both (ltb 0 n) (both (ltb 0 (length ps)) (both (ltb 0 m) (eqb (length last) (m + 5)))))

abbrev pub from_out : List ℕ → ℕ → List (List ℕ) → List ℕ → ℕ → Job
from_out l n ps last m = pick (tests l n ps last m) (job n ps (take m (drop 4 last))) no_job

abbrev from_last : List ℕ → ℕ → List (List ℕ) → List ℕ → Job
from_last l n ps last = from_out l n ps last (path_in (text "out=") last)

abbrev from_after : List ℕ → ℕ → List ℕ → Job
from_after l n after = let ps = ins_in 64 after in from_last l n ps (drop (length (in_lines ps)) after)

pub job_parts : (l : List ℕ) (n : ℕ) (after : List ℕ) (ps : List (List ℕ)) (last : List ℕ) (m : ℕ) → size_in l ≡ n → drop (length (size_line n)) l ≡ after → ins_in 64 after ≡ ps
    → drop (length (in_lines ps)) after ≡ last → path_in (text "out=") last ≡ m → job_of l ≡ from_out l n ps last m
unfolding job_of
job_parts l n after ps last m en ea ep el em =
    ap (λ (n : ℕ). from_after l n (drop (length (size_line n)) l)) en
    ∙ ap (λ (after : List ℕ). from_after l n after) ea
    ∙ ap (λ (ps : List (List ℕ)). from_last l n ps (drop (length (in_lines ps)) after)) ep
    ∙ ap (λ (last : List ℕ). from_last l n ps last) el
    ∙ ap (λ (m : ℕ). from_out l n ps last m) em

-- what the tests ask
pub tests_tell : (l : List ℕ) (n : ℕ) (ps : List (List ℕ)) (last : List ℕ) (m : ℕ) → Tells (tests l n ps last m) ((length l ≤ 4096) × ((0 < n) × ((0 < length ps) × ((0 < m) × (length last ≡ m + 5)))))
tests_tell l n ps last m = tells_both _ _ (tells_le _ _) (tells_both _ _ (tells_lt _ _) (tells_both _ _ (tells_lt _ _) (tells_both _ _ (tells_lt _ _) (tells_eq _ _))))

-- an `out=` line is no `in=` line
out_not_in : (p : List ℕ) → path_in (text "in=") (line (text "out=") p) ≡ 0
unfolding path_in stands_at line
out_not_in p = refl

pub text_job : (j : Job) → Fit j → job_of (text_of j) ≡ j
unfolding text_of
text_job j f =
    let X = in_lines j.ins ++ line (text "out=") j.out in
    let O = line (text "out=") j.out in
    let en = line_size j.lgk X f.lgk_low f.lgk_high in
    let ea = drop-append_seam (size_line j.lgk) X in
    let ep = text_ins j.ins 64 O f.ins_fit f.few (out_not_in j.out) in
    let el = drop-append_seam (in_lines j.ins) O in
    let em : path_in (text "out=") O ≡ length j.out = ap (λ (t : List ℕ). path_in (text "out=") t) (sym (append-nil O)) ∙ line_path (text "out=") j.out [] f.out_fits in
    let et : take (length j.out) (drop 4 O) ≡ j.out = ap (λ (t : List ℕ). take (length j.out) (drop 4 t)) (sym (append-nil O)) ∙ line_take (text "out=") j.out [] in
    let low = f.lgk_low in
    let ok = tells_true _ (tests_tell (text_of j) j.lgk j.ins O (length j.out)) (f.short, (omega arith, (f.some, (f.out_fits.some, line_length (text "out=") j.out)))) in
    job_parts (text_of j) j.lgk X j.ins O (length j.out) en ea ep el em
    ∙ ap (λ (b : Bool). pick b (job j.lgk j.ins (take (length j.out) (drop 4 O))) no_job) ok
    ∙ ap (λ (p : List ℕ). job j.lgk j.ins p) et

-- the parts of a text that is read
abbrev pub after_of : List ℕ → List ℕ
after_of l = drop (length (size_line (size_in l))) l

abbrev pub ins_of : List ℕ → List (List ℕ)
ins_of l = ins_in 64 (after_of l)

abbrev pub last_of : List ℕ → List ℕ
last_of l = drop (length (in_lines (ins_of l))) (after_of l)

abbrev pub out_of : List ℕ → ℕ
out_of l = path_in (text "out=") (last_of l)

abbrev pub read_of : List ℕ → Job
read_of l = job (size_in l) (ins_of l) (take (out_of l) (drop 4 (last_of l)))

passed : (l : List ℕ) → tests l (size_in l) (ins_of l) (last_of l) (out_of l) ≡ true → (l ≡ text_of (read_of l)) × Fit (read_of l)
unfolding text_of
passed l ok =
    let t = (tests_tell l (size_in l) (ins_of l) (last_of l) (out_of l)).0 ok in
    let s = size_line_lem l t.1.0 in
    let r = ins_text 64 (after_of l) in
    let h = t.1.1.1.0 in
    let rest = drop_of_length-le (last_of l) {i = out_of l + 5} (omega arith) in
    let p = take (out_of l) (drop 4 (last_of l)) in
    let o : last_of l ≡ line (text "out=") p = path_line (text "out=") (last_of l) h ∙ ap (λ (u : List ℕ). line (text "out=") p ++ u) rest ∙ append-nil _ in
    let e : l ≡ size_line (size_in l) ++ (in_lines (ins_of l) ++ line (text "out=") p) =
    s.line_is ∙ ap (λ (u : List ℕ). size_line (size_in l) ++ u) (r.lines_are ∙ ap (λ (u : List ℕ). in_lines (ins_of l) ++ u) o) in (
      e,
      record {
        lgk_low = s.low;
        lgk_high = s.high;
        some = t.1.1.0;
        few = r.few;
        ins_fit = r.fit;
        out_fits = path_is (text "out=") (last_of l) h;
        short = subst (λ (u : List ℕ). length u ≤ 4096) e t.0;
      },
    )

pub job_text : (l : List ℕ) → ((job_of l).lgk ≡ 0 → ⊥) → (l ≡ text_of (job_of l)) × Fit (job_of l)
unfolding job_of
job_text l h = go (tests l (size_in l) (ins_of l) (last_of l) (out_of l)) (passed l) h
  where
    go : (b : Bool) → (b ≡ true → (l ≡ text_of (read_of l)) × Fit (read_of l)) → ((pick b (read_of l) no_job).lgk ≡ 0 → ⊥)
        → (l ≡ text_of (pick b (read_of l) no_job)) × Fit (pick b (read_of l) no_job)
    go true f h = f refl
    go false f h = absurd (h refl)
