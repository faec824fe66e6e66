-- A table at the front of an area of zeros, and another laid over it. Assumes nothing.
use mathlib.Core.Path.{◌≡◌, refl, sym, ◌∙◌, ap}
use mathlib.Core.List.{List, [], ◌∷◌, ◌++◌}
use Prim.Native.Nat.{ℕ, ◌+◌, ◌-◌, ◌≤◌}
use native.Mathlib.Omega.{arith}
use lib.ListN.{length, take, drop, replicate, length-replicate, replicate-append-replicate}
use lib.Seq.{take_at, drop_at, drop-append-add}
use Rattle.model.specs.Table.{inserts, made, laid}
use Rattle.aux_map.specs.Grow.{over}

zeros_split : (m n : ℕ) → m ≤ n → replicate m 0 ++ replicate (n - m) 0 ≡ replicate {A = ℕ} n 0
zeros_split m n h = let e : m + (n - m) ≡ n = omega arith in replicate-append-replicate m (n - m) 0 ∙ ap (λ (k : ℕ). replicate k 0) e

drop_zeros : (m n : ℕ) → m ≤ n → drop m (replicate n 0) ≡ replicate {A = ℕ} (n - m) 0
drop_zeros m n h = ap (drop m) (sym (zeros_split m n h)) ∙ drop_at (replicate m 0) (replicate (n - m) 0) m (length-replicate m 0)

pub take_laid : (n size : ℕ) (t : List ℕ) → size ≡ length t → take size (laid n t) ≡ t
unfolding laid
take_laid n size t e = take_at t (replicate (n - length t) 0) size (sym e)

-- zeros are no table
pub laid_zeros : (n m : ℕ) → m ≤ n → laid n (replicate m 0) ≡ replicate n 0
unfolding laid
laid_zeros n m h = ap (λ (k : ℕ). replicate m 0 ++ replicate (n - k) 0) (length-replicate {A = ℕ} m 0) ∙ zeros_split m n h

-- a table that is no shorter, laid over one that stands before zeros
pub over_laid : (n : ℕ) (t u : List ℕ) → length t ≤ length u → length u ≤ n → over u (laid n t) ≡ laid n u
unfolding laid
over_laid n t u h k =
    let e : length u ≡ length t + (length u - length t) = omega arith in
    let f : n - length t - (length u - length t) ≡ n - length u = omega arith in
    ap (λ (l : List ℕ). u ++ l)
    (ap (λ (i : ℕ). drop i (t ++ replicate (n - length t) 0)) e
    ∙ drop-append-add t (replicate (n - length t) 0) (length u - length t)
    ∙ drop_zeros (length u - length t) (n - length t) (omega arith)
    ∙ ap (λ (i : ℕ). replicate i 0) f)

-- a table of no words is an empty one of the base's size, or none
pub laid_made : (n base : ℕ) (ws : List ℕ) → base ≤ n → laid n (inserts (replicate base 0) ws) ≡ laid n (made base ws)
unfolding inserts
laid_made n base [] h = laid_zeros n base h ∙ sym (laid_zeros n 0 (omega arith))
laid_made n base (w ∷ ws) h = refl
