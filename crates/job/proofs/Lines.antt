-- A line with a path, and the reading of it: each is the other's way back.
use mathlib.Core.Path.{◌≡◌, refl, sym, ap, ◌∙◌, subst}
use mathlib.Core.Bool.{Bool, true, false}
use mathlib.Core.List.{List, [], ◌∷◌, ◌++◌, append_assoc}
use Prim.Native.Nat.{ℕ, zero, suc, ◌+◌, ◌≤◌, ◌<◌, zero-le, suc-le-suc}
use native.Mathlib.Nat.{not-suc-le-zero, le_of_suc-le-suc}
use native.Mathlib.Omega.{arith}
use lib.Dec.{eqb, leb}
use lib.ListN.{length, get_or, take, drop, length-drop}
use lib.Seq.{split_at, drop-drop, length-take-le, get_or-take, get_or-append_seam, drop-append_seam}
use borrow.Author.Tests.{eqb-true, leb-true, le-leb, eq-eqb}
use Rattle.model.specs.Pick.{pick, both, Tells}
use Rattle.model.proofs.order.Tells.{tells_both, tells_le, tells_true}
use Rattle.text.specs.Text.{line, stands_at}
use Rattle.text.proofs.Standing.{stands_front, stands_before, front_stands}
use Rattle.job.specs.Job.{graphic, span, path_in, Path, PathIn}

-- ---- the bytes of a path
graphic_tells : (b : ℕ) → Tells (graphic b) ((33 ≤ b) × (b ≤ 126))
graphic_tells b = tells_both _ _ (tells_le 33 b) (tells_le b 126)

abbrev Graphic : List ℕ → ℕ → Type 0
Graphic l n = (i : ℕ) → i < n → (33 ≤ get_or l i 0) × (get_or l i 0 ≤ 126)

span_graphic : (l : List ℕ) → Graphic l (span l)
unfolding span
span_graphic [] i h = absurd (not-suc-le-zero h)
span_graphic (b ∷ l) i h = go (graphic b) refl i h (span_graphic l)
  where
    go : (x : Bool) → graphic b ≡ x → (i : ℕ) → i < pick x (suc (span l)) 0 → Graphic l (span l) → (33 ≤ get_or (b ∷ l) i 0) × (get_or (b ∷ l) i 0 ≤ 126)
    go true e zero h f = (graphic_tells b).0 e
    go true e (suc i) h f = f i (le_of_suc-le-suc h)
    go false e i h f = absurd (not-suc-le-zero h)

pub span_le : (l : List ℕ) → span l ≤ length l
unfolding span
span_le [] = zero-le
span_le (b ∷ l) = go (graphic b) (span_le l)
  where
    go : (x : Bool) → span l ≤ length l → pick x (suc (span l)) 0 ≤ suc (length l)
    go true h = suc-le-suc h
    go false h = zero-le

-- a path ends where its line does
span_path : (p r : List ℕ) → Graphic p (length p) → span (p ++ (10 ∷ r)) ≡ length p
unfolding span
span_path [] r h = refl
span_path (b ∷ p) r h =
    let e : graphic b ≡ true = tells_true _ (graphic_tells b) (h 0 (suc-le-suc zero-le)) in
    let i = span_path p r (λ i l. h (suc i) (suc-le-suc l)) in
    simp (e, i)

get_or_inside : (l : List ℕ) (n m : ℕ) → get_or l n 0 ≡ suc m → n < length l
get_or_inside [] n m e = absurd (omega arith)
get_or_inside (a ∷ l) zero m e = suc-le-suc zero-le
get_or_inside (a ∷ l) (suc n) m e = suc-le-suc (get_or_inside l n m e)

-- ---- a line
-- what the reading's test asks, of a path of n bytes
pub record Stands (key l : List ℕ) (n : ℕ) : Type 0 where
  pub some : 0 < n
  pub is : n ≡ span (drop (length key) l)
  pub keyed : l ≡ key ++ drop (length key) l
  pub few : n ≤ 200
  pub ended : get_or (drop (length key) l) n 0 ≡ 10

path_stands : (key l : List ℕ) → 0 < path_in key l → Stands key l (path_in key l)
unfolding path_in
path_stands key l h = go (stands_at key l) refl (leb (span (drop (length key) l)) 200) refl (eqb (get_or (drop (length key) l) (span (drop (length key) l)) 0) 10) refl h
  where
    go : (a : Bool) → stands_at key l ≡ a → (b : Bool) → leb (span (drop (length key) l)) 200 ≡ b → (c : Bool) → eqb (get_or (drop (length key) l) (span (drop (length key) l)) 0) 10 ≡ c
        → 0 < pick (both a (both b c)) (span (drop (length key) l)) 0 → Stands key l (pick (both a (both b c)) (span (drop (length key) l)) 0)
    go true p true q true r h = record { some = h; is = refl; keyed = stands_front key l p; few = leb-true _ _ q; ended = eqb-true _ _ r }
    go true p true q false r h = absurd (not-suc-le-zero h)
    go true p false q c r h = absurd (not-suc-le-zero h)
    go false p b q c r h = absurd (not-suc-le-zero h)

module _ {key l : List ℕ} {n : ℕ} (s : Stands key l n) where
  pub stands_inside : n < length (drop (length key) l)
  stands_inside = get_or_inside (drop (length key) l) n 9 s.ended

  pub stands_room : n + (length key + 1) ≤ length l
  stands_room = let i = simp length-drop at stands_inside in omega arith

-- so where one of these fails there is no line
pub unless_stands : (key l : List ℕ) → (Stands key l (path_in key l) → ⊥) → path_in key l ≡ 0
unless_stands key l h = go (path_in key l) (path_stands key l) h
  where
    go : (n : ℕ) → (0 < n → Stands key l n) → (Stands key l n → ⊥) → n ≡ 0
    go zero f h = refl
    go (suc n) f h = absurd (h (f (suc-le-suc zero-le)))

module _ (key l : List ℕ) (h : 0 < path_in key l) where
  inside : path_in key l < length (drop (length key) l)
  inside = stands_inside (path_stands key l h)

  -- the line ends within the text
  pub path_room : path_in key l + (length key + 1) ≤ length l
  path_room = stands_room (path_stands key l h)

  pub path_is : Path (take (path_in key l) (drop (length key) l))
  path_is =
      let s = path_stands key l h in
      let i = inside in
      let e = length-take-le (path_in key l) (drop (length key) l) (omega arith) in
      record {
        some = rw e h;
        few = rw e s.few;
        bytes = λ i q. rw (get_or-take (path_in key l) (drop (length key) l) i 0 (rw e at q)) (span_graphic (drop (length key) l) i (rw s.is at (rw e at q)));
      }

  path_in_is : PathIn key l (take (path_in key l) (drop (length key) l))
  path_in_is =
      let i = inside in
      let e = length-take-le (path_in key l) (drop (length key) l) (omega arith) in
      record { some = path_is.some; long = e; bytes = refl }

  pub path_line : l ≡ line key (take (path_in key l) (drop (length key) l)) ++ drop (path_in key l + (length key + 1)) l
  unfolding line
  path_line =
      let s = path_stands key l h in
      let a = split_at (drop (length key) l) (path_in key l) 0 inside in
      let b = drop-drop (suc (path_in key l)) (length key) l in
      let n : length key + suc (path_in key l) ≡ path_in key l + (length key + 1) = omega arith in
      let d : drop (suc (path_in key l)) (drop (length key) l) ≡ drop (path_in key l + (length key + 1)) l = b ∙ ap (λ (x : ℕ). drop x l) n in
      let e : drop (length key) l ≡ take (path_in key l) (drop (length key) l) ++ (10 ∷ drop (path_in key l + (length key + 1)) l) =
      a ∙ ap (λ (t : List ℕ). take (path_in key l) (drop (length key) l) ++ t) (let z = s.ended in cc) in
      s.keyed ∙ ap (λ (t : List ℕ). key ++ t) e ∙ sym (simp append_assoc)

-- and where none fails, its path is read
module _ {key l : List ℕ} {n : ℕ} (s : Stands key l n) where
  stands_read : path_in key l ≡ n
  unfolding path_in
  stands_read =
      let k = front_stands key l s.keyed in
      let f = le-leb n 200 s.few in
      let e = eq-eqb _ _ s.ended in
      rw (← s.is) (simp (k, f, e))

  pub stands_path : PathIn key l (take n (drop (length key) l))
  stands_path =
      subst (λ (n : ℕ). PathIn key l (take n (drop (length key) l))) stands_read (path_in_is key l (rw stands_read s.some))

-- a line with a path is read as one
pub line_path : (key p r : List ℕ) → Path p → path_in key (line key p ++ r) ≡ length p
unfolding path_in line
line_path key p r h =
    let a : line key p ++ r ≡ key ++ (p ++ (10 ∷ r)) = simp append_assoc in
    let b : drop (length key) (line key p ++ r) ≡ p ++ (10 ∷ r) = ap (λ (l : List ℕ). drop (length key) l) a ∙ drop-append_seam key (p ++ (10 ∷ r)) in
    let s = ap (stands_at key) a ∙ stands_before key (p ++ (10 ∷ r)) in
    let n = span_path p r h.bytes in
    let f = le-leb (length p) 200 h.few in
    let e = eq-eqb _ _ (get_or-append_seam p 10 r 0) in
    simp (b, s, n, f, e)
