-- Where a path ends, and the `in=` lines behind one another. Assumes nothing.
use mathlib.Core.Path.{◌≡◌, refl, sym, ap, ◌∙◌}
use mathlib.Core.Bool.{Bool, true, false, cond, not, ◌&&◌}
use mathlib.Core.List.{List, [], ◌∷◌}
use Prim.Native.Nat.{ℕ, zero, suc, ◌+◌, ◌-◌, ◌≤◌, ◌<◌}
use native.Mathlib.Omega.{arith}
use lib.Dec.{leb, ltb}
use lib.ListN.{length, take, drop, length-drop, length-append}
use lib.Seq.{drop-drop}
use borrow.Author.Tests.{ltb-true, ltb-false, eq-eqb, ne_eqb}
use Rattle.std.specs.Prelude.{Option, Some, None, MatchOption, position}
use Rattle.std.specs.List.{position_or_len}
use Rattle.std.specs.Char.{is_ascii_graphic}
use Rattle.std.proofs.lemmas.List.Recursion.{is_position_or_len}
use Rattle.model.specs.Pick.{pick, both}
use Rattle.text.specs.Text.{text, line}
use Rattle.job.specs.Job.{span, path_in, ins_in, in_lines, PathIn}
use Rattle.job.proofs.Lines.{span_le, path_room}

-- ---- the bytes of a path: the code looks for the first that is none
none_of : ℕ → Bool
none_of b = not (is_ascii_graphic b)

span_first : (l : List ℕ) → span l ≡ position_or_len none_of l
unfolding span none_of
span_first = is_position_or_len span none_of refl (λ b l. step (leb 33 b) (leb b 126) (span l))
  where
    step : (x y : Bool) (n : ℕ) → pick (both x y) (suc n) 0 ≡ cond (not (x && y)) 0 (1 + n)
    step true true n = omega arith
    step true false n = refl
    step false y n = refl

-- where it looks, and what came of it
abbrev pub Spanned : List ℕ → Option ℕ → Type 0
Spanned l r = MatchOption r (span l ≡ length l) (λ n. (n ≡ span l) × (n < length l))

pub spanned : (l : List ℕ) → Spanned l (position (λ b. not (is_ascii_graphic b)) l)
unfolding none_of
spanned l = go (ltb (position_or_len none_of l) (length l)) refl
  where
    go : (b : Bool) → ltb (position_or_len none_of l) (length l) ≡ b → Spanned l (cond b (Some (position_or_len none_of l)) None)
    go true e = (sym (span_first l), ltb-true _ _ e)
    go false e = let f = ltb-false _ _ e in let g = span_first l in let h = span_le l in omega arith

-- ---- the `in=` lines: what is left of them behind a place
abbrev pub left : List ℕ → ℕ → ℕ → ℕ
left l f end = length (ins_in f (drop end l))

abbrev pub bytes_left : List ℕ → ℕ → ℕ → ℕ
bytes_left l f end = length (in_lines (ins_in f (drop end l)))

-- no line more
pub ins_end : (f : ℕ) (m : List ℕ) → path_in (text "in=") m ≡ 0 → ins_in f m ≡ []
unfolding ins_in
ins_end zero m e = refl
ins_end (suc f) m e = simp (eq-eqb _ _ e)

pub ins_over : (l : List ℕ) (f end : ℕ) → path_in (text "in=") (drop end l) ≡ 0 → (left l f end ≡ 0) × (bytes_left l f end ≡ 0)
unfolding in_lines
ins_over l f end e = let z = ins_end f (drop end l) e in (rw z, rw z)

pub ins_full : (l : List ℕ) (f end : ℕ) → f ≡ 0 → (left l f end ≡ 0) × (bytes_left l f end ≡ 0)
unfolding ins_in in_lines
ins_full l f end e = (rw e, rw e)

-- a line more
pub ins_more : (f : ℕ) (m : List ℕ) → (path_in (text "in=") m ≡ 0 → ⊥) → ins_in (suc f) m ≡ take (path_in (text "in=") m) (drop 3 m) ∷ ins_in f (drop (path_in (text "in=") m + 4) m)
unfolding ins_in
ins_more f m h = simp (ne_eqb _ _ h)

module _ (l : List ℕ) (end : ℕ) {path : List ℕ} (is : PathIn (text "in=") (drop end l) path) where
  positive : 0 < path_in (text "in=") (drop end l)
  positive = let s = is.some in let e = is.long in omega arith

  -- the line lies within the job
  pub line_room : length path + 4 ≤ length l - end
  line_room = let e = is.long in omega (arith, simp length-drop at (path_room (text "in=") (drop end l) positive))

  pub next : (f g : ℕ) → f ≡ suc g → ins_in f (drop end l) ≡ path ∷ ins_in g (drop (end + (length path + 4)) l)
  next f g q =
      let e = ins_more g (drop end l) (λ z. let p = positive in absurd (omega arith)) in
      let d = ap (λ (m : List ℕ). ins_in g m) (ap (λ (k : ℕ). drop (k + 4) (drop end l)) (sym is.long) ∙ drop-drop (length path + 4) end l) in
      let t = is.bytes in
      cc

  pub one_more : (f g : ℕ) → f ≡ suc g → left l f end ≡ suc (left l g (end + (length path + 4)))
  one_more f g q = rw (next f g q)

  pub bytes_more : (f g : ℕ) → f ≡ suc g → bytes_left l f end ≡ length path + 4 + bytes_left l g (end + (length path + 4))
  unfolding in_lines line
  bytes_more f g q = rw (next f g q) (simp length-append (omega arith))
