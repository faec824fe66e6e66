-- The exception area: a table at its front, and zeros behind it. Assumes nothing.
use mathlib.Core.Path.{◌≡◌, refl, sym, ◌∙◌, ap, ap₂}
use mathlib.Core.Bool.{Bool, true, false}
use mathlib.Core.List.{List, [], ◌∷◌, ◌++◌}
use Prim.Native.Nat.{ℕ, suc, ◌-◌, ◌≤◌}
use native.Mathlib.Omega.{arith}
use native.Mathlib.Decide.{ℕ_discrete}
use lib.Dec.{eqb}
use lib.ListN.{length, take, drop, replicate, length-append, length-replicate, length-drop, take-append-drop}
use lib.Seq.{length-take-le, drop_at}
use borrow.Author.Tests.{eqb-true, eq-eqb, ne_eqb}
use Rattle.model.specs.Pick.{pick}
use Rattle.model.specs.Table.{used, laid}
use Rattle.model.specs.Sketch.{area_of}
use Rattle.model.proofs.table.Refill.{used_zeros}

pub length_laid : (room : ℕ) (t : List ℕ) → length t ≤ room → length (laid room t) ≡ room
unfolding laid
length_laid room t h = simp (length-append, length-replicate) (omega arith)

-- behind the table no word is used
pub past_laid : (room n : ℕ) (t : List ℕ) → length t ≡ n → used (drop n (laid room t)) ≡ 0
unfolding laid
past_laid room n t e = ap used (drop_at t (replicate (room - length t) 0) n e) ∙ used_zeros (room - length t)

used_none : (l : List ℕ) → used l ≡ 0 → l ≡ replicate (length l) 0
unfolding used
used_none [] e = refl
used_none (w ∷ ws) e = go (ℕ_discrete w 0) (used_none ws) e
  where
    go : Dec (w ≡ 0) → (used ws ≡ 0 → ws ≡ replicate (length ws) 0) → pick (eqb w 0) (used ws) (suc (used ws)) ≡ 0 → w ∷ ws ≡ 0 ∷ replicate (length ws) 0
    go (yes z) ih q = ap₂ ◌∷◌ z (ih (rw (eq-eqb w 0 z) at q))
    go (no z) ih q = absurd (let y : suc (used ws) ≡ 0 = rw (ne_eqb w 0 z) at q in omega arith)

-- and where that is so, it is one
pub laid_front : (n : ℕ) (aux : List ℕ) → n ≤ length aux → used (drop n aux) ≡ 0 → aux ≡ laid (length aux) (take n aux)
unfolding laid
laid_front n aux h z =
    sym (take-append-drop n aux)
    ∙ ap (λ (l : List ℕ). take n aux ++ l) (used_none (drop n aux) z ∙ ap (λ (m : ℕ). replicate m 0) (length-drop n aux ∙ ap (λ (m : ℕ). length aux - m) (sym (length-take-le n aux h))))

-- an area keeps its length, and of two tables laid there the second stands
pub length_area : (kind : ℕ) (t aux : List ℕ) → (kind ≡ 4 → length t ≤ length aux) → length (area_of kind t aux) ≡ length aux
unfolding area_of
length_area kind t aux h = go (eqb kind 4) refl
  where
    go : (b : Bool) → eqb kind 4 ≡ b → length (pick b (laid (length aux) t) aux) ≡ length aux
    go true q = length_laid (length aux) t (h (eqb-true kind 4 q))
    go false q = refl

pub area_again : (kind : ℕ) (t u aux : List ℕ) → length (area_of kind u aux) ≡ length aux → area_of kind t (area_of kind u aux) ≡ area_of kind t aux
unfolding area_of
area_again kind t u aux = go (eqb kind 4)
  where
    go : (b : Bool) → length (pick b (laid (length aux) u) aux) ≡ length aux
        → pick b (laid (length (pick b (laid (length aux) u) aux)) t) (pick b (laid (length aux) u) aux) ≡ pick b (laid (length aux) t) aux
    go true e = ap (λ (n : ℕ). laid n t) e
    go false e = refl
