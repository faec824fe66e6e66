-- A table of three numbers again and again: an entry is told by its place modulo 3. Assumes nothing.
use mathlib.Core.Path.{◌≡◌, refl, ap, ◌∙◌}
use mathlib.Core.List.{List, [], ◌∷◌}
use Prim.Native.Nat.{ℕ, zero, suc, ◌*◌, ◌%◌, ◌<◌}
use native.Mathlib.Omega.{arith}
use lib.ListN.{get_or}

unfoldable pub again : ℕ → ℕ → ℕ → ℕ → List ℕ
again a b c zero = []
again a b c (suc n) = a ∷ b ∷ c ∷ again a b c n

pub again_at : (a b c n i : ℕ) → i < 3 * n → get_or (again a b c n) i 0 ≡ get_or (a ∷ b ∷ c ∷ []) (i % 3) 0
unfolding again
again_at a b c zero i h = absurd (omega arith)
again_at a b c (suc n) zero h = refl
again_at a b c (suc n) (suc zero) h = refl
again_at a b c (suc n) (suc (suc zero)) h = refl
again_at a b c (suc n) (suc (suc (suc i))) h =
    let e : i % 3 ≡ suc (suc (suc i)) % 3 = omega arith in
    again_at a b c n i (omega arith) ∙ ap (λ (p : ℕ). get_or (a ∷ b ∷ c ∷ []) p 0) e
