-- The laws of `stands_at`: it tells whether the bytes are the text and then the rest; and it is std's test of a slice's front. Assumes nothing.
use mathlib.Core.Path.{◌≡◌, refl, sym, ap, ap₂, ◌∙◌}
use mathlib.Core.Bool.{Bool, true, false, ◌&&◌, false≢true}
use mathlib.Core.List.{List, [], ◌∷◌, ◌++◌}
use Prim.Native.Nat.{ℕ, ◌≤◌}
use native.Mathlib.Decide.{ℕ_discrete}
use lib.Dec.{eqb, eqb-suc-zero}
use lib.ListN.{length, take, drop, length-drop, drop_of_length-le}
use lib.Seq.{take-length}
use borrow.Author.Tests.{eqb-true, eq-eqb, ne_eqb}
use Rattle.std.specs.List.{starts_with, slice_range}
use Rattle.text.specs.Text.{stands_at}

pub stands_front : (p l : List ℕ) → stands_at p l ≡ true → l ≡ p ++ drop (length p) l
unfolding stands_at
stands_front [] l e = refl
stands_front (c ∷ p) [] e = absurd (false≢true e)
stands_front (c ∷ p) (x ∷ l) e = go (eqb x c) refl e (stands_front p l)
  where
    go : (b : Bool) → eqb x c ≡ b → b && stands_at p l ≡ true → (stands_at p l ≡ true → l ≡ p ++ drop (length p) l) → x ∷ l ≡ c ∷ (p ++ drop (length p) l)
    go true q t rest = ap₂ ◌∷◌ (eqb-true x c q) (rest t)
    go false q t rest = absurd (false≢true t)

pub stands_before : (p l : List ℕ) → stands_at p (p ++ l) ≡ true
unfolding stands_at
stands_before [] l = refl
stands_before (c ∷ p) l = ap₂ ◌&&◌ (eq-eqb c c refl) (stands_before p l)

pub front_stands : (p l : List ℕ) → l ≡ p ++ drop (length p) l → stands_at p l ≡ true
front_stands p l e = ap (stands_at p) e ∙ stands_before p (drop (length p) l)

-- no bytes
pub stands_past : (p s : List ℕ) (at : ℕ) → length s ≤ at → stands_at p (drop at s) ≡ eqb (length p) 0
unfolding stands_at
stands_past [] s at h = refl
stands_past (c ∷ p) s at h = rw (drop_of_length-le s h) (sym (eqb-suc-zero (length p)))

-- std's test of a slice's front is the book's
eqb_turned : (m n : ℕ) → eqb m n ≡ eqb n m
eqb_turned m n = go (ℕ_discrete m n)
  where
    go : Dec (m ≡ n) → eqb m n ≡ eqb n m
    go (yes e) = ap₂ eqb e (sym e)
    go (no h) = ne_eqb m n h ∙ sym (ne_eqb n m (λ e. h (sym e)))

pub stands_starts : (p l : List ℕ) → starts_with eqb l p ≡ stands_at p l
unfolding stands_at
stands_starts [] l = refl
stands_starts (c ∷ p) [] = refl
stands_starts (c ∷ p) (x ∷ l) = ap₂ ◌&&◌ (eqb_turned c x) (stands_starts p l)

-- the bytes from a place on, as a slice lends them
pub rest_of : (s : List ℕ) (at : ℕ) → slice_range s at (length s) ≡ drop at s
rest_of s at = ap (λ (n : ℕ). take n (drop at s)) (sym (length-drop at s)) ∙ take-length (drop at s)
