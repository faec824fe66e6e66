-- Bytes put over a list, one part after the other, and through a lent part of it. Assumes nothing.
use mathlib.Core.Path.{◌≡◌, sym, ap, ap₂, ◌∙◌}
use mathlib.Core.List.{List, [], ◌++◌, append_assoc, append-nil}
use Prim.Native.Nat.{ℕ, ◌+◌, ◌-◌, ◌≤◌}
use native.Mathlib.Nat.{add-zero, zero-add}
use native.Mathlib.Omega.{arith}
use lib.ListN.{length, take, drop, length-append, length-drop, take-append-drop}
use lib.Seq.{paste, take-length, drop-length, length-take-le, take_at, drop_at, drop-drop}
use borrow.Rule.Slice.PartMut.{put_mid}
use Rattle.image_put.specs.Parts.{over}

-- what putting bytes leaves
pub over_pasted : (d : List ℕ) (at : ℕ) (s : List ℕ) → paste d at s (length s) ≡ over d at s
unfolding over
over_pasted d at s = append_assoc (take at d) (take (length s) s) (drop (at + length s) d) ∙ ap (λ (l : List ℕ). take at d ++ (l ++ drop (at + length s) d)) (take-length s)

pub over_none : (d : List ℕ) (at : ℕ) → over d at [] ≡ d
unfolding over
over_none d at = ap (λ (n : ℕ). take at d ++ drop n d) (add-zero at) ∙ take-append-drop at d

pub over_front : (d s : List ℕ) → over d 0 s ≡ s ++ drop (length s) d
unfolding over
over_front d s = ap (λ (n : ℕ). s ++ drop n d) (zero-add (length s))

-- two parts, the second where the first ends
pub over_over : (d : List ℕ) (at n : ℕ) (s t : List ℕ) → n ≡ at + length s → n + length t ≤ length d → over (over d at s) n t ≡ over d at (s ++ t)
unfolding over
over_over d at n s t e h =
    let a = take at d in
    let b = drop (at + length s) d in
    let long : length (a ++ s) ≡ n = length-append a s ∙ omega (arith, length-take-le at d (omega arith)) in
    let end : at + length s + length t ≡ at + length (s ++ t) = omega (arith, length-append s t) in
    let split : a ++ (s ++ b) ≡ (a ++ s) ++ b = sym (append_assoc a s b) in
    let behind : drop (n + length t) (a ++ (s ++ b)) ≡ drop (at + length (s ++ t)) d =
    sym (drop-drop (length t) n (a ++ (s ++ b))) ∙ ap (drop (length t)) (ap (drop n) split ∙ drop_at (a ++ s) b n long) ∙ drop-drop (length t) (at + length s) d
    ∙ ap (λ (k : ℕ). drop k d) end in
    ap₂ (λ (x y : List ℕ). x ++ (t ++ y)) (ap (take n) split ∙ take_at (a ++ s) b n long) behind
    ∙ append_assoc a s (t ++ drop (at + length (s ++ t)) d)
    ∙ ap (λ (l : List ℕ). a ++ l) (sym (append_assoc s t (drop (at + length (s ++ t)) d)))

-- a put after a put, where the code's values are the parts s and t
pub next : (d : List ℕ) {l m u v : List ℕ} (at n : ℕ) (s t : List ℕ) → u ≡ s → v ≡ t → l ≡ over d at u → m ≡ over l n v → n ≡ at + length s → n + length t ≤ length d
    → m ≡ over d at (s ++ t)
next d at n s t a b p q e h = q ∙ ap₂ (λ (x y : List ℕ). over x n y) (p ∙ ap (over d at) a) b ∙ over_over d at n s t e h

-- a put at the front of what is lent as `&mut out[a..]`, once that is back
pub over_lent : (a : ℕ) (d s : List ℕ) {p : List ℕ} → p ≡ over (take (length d - a) (drop a d)) 0 s → put_mid a (length d - a) d p ≡ over d a s
unfolding over
over_lent a d s {p} e =
    let all : take (length d - a) (drop a d) ≡ drop a d = ap (λ (k : ℕ). take k (drop a d)) (sym (length-drop a d)) ∙ take-length (drop a d) in
    let none : drop (length d - a) (drop a d) ≡ [] = ap (λ (k : ℕ). drop k (drop a d)) (sym (length-drop a d)) ∙ drop-length (drop a d) in
    ap (λ (l : List ℕ). take a d ++ l)
    (ap₂ (λ (x y : List ℕ). x ++ y) (e ∙ ap (λ (x : List ℕ). over x 0 s) all ∙ over_front (drop a d) s) none
    ∙ append-nil (s ++ drop (length s) (drop a d))
    ∙ ap (λ (x : List ℕ). s ++ x) (drop-drop (length s) a d))
