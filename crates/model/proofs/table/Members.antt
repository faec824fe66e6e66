-- The words of a list, at its front and behind it. Assumes nothing.
use mathlib.Core.Path.{◌≡◌, refl, sym}
use mathlib.Core.Logic.{◌⊎◌, inl, inr}
use mathlib.Core.List.{List, [], ◌∷◌}
use Prim.Native.Nat.{ℕ, zero, suc, ◌<◌, zero-le, suc-le-suc}
use native.Mathlib.Nat.{le_of_suc-le-suc, not-suc-le-zero}
use lib.ListN.{length, get_or}
use Rattle.model.specs.Table.{Member}

pub member_head : (w : ℕ) (ws : List ℕ) → Member (w ∷ ws) w
member_head w ws = (zero, suc-le-suc zero-le, refl)

pub member_tail : (w x : ℕ) (ws : List ℕ) → Member ws x → Member (w ∷ ws) x
member_tail w x ws m = (suc m.0, suc-le-suc m.1, m.2)

pub member_cases : (w x : ℕ) (ws : List ℕ) → Member (w ∷ ws) x → (x ≡ w) ⊎ Member ws x
member_cases w x ws m = go m.0 m.1 m.2
  where
    go : (p : ℕ) → p < suc (length ws) → get_or (w ∷ ws) p 0 ≡ x → (x ≡ w) ⊎ Member ws x
    go zero l e = inl (sym e)
    go (suc p) l e = inr (p, le_of_suc-le-suc l, e)

pub member_none : (x : ℕ) → Member [] x → ⊥
member_none x m = not-suc-le-zero m.1
