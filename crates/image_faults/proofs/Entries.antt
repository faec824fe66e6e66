-- How many entries there are: as the code counts them, and as the book does. Assumes nothing.
use mathlib.Core.Path.{◌≡◌, refl, ◌∙◌, ap, ap₂}
use mathlib.Core.Bool.{Bool, true, false}
use mathlib.Core.List.{List, [], ◌∷◌}
use Prim.Native.Nat.{ℕ, zero, suc, ◌+◌, ◌<◌}
use native.Mathlib.Nat.{le_refl}
use native.Mathlib.Numerals.{add-one}
use native.Mathlib.Omega.{arith}
use lib.ListN.{length, get_or}
use Rattle.model.specs.Pick.{pick}
use Rattle.model.specs.Coupon.{is_empty}
use Rattle.model.specs.Table.{sifted, filled}
use Rattle.image_faults.specs.Windows.{entries_of}

pub entries_none : (f : ℕ → ℕ) → 0 ≡ entries_of f 0
unfolding entries_of
entries_none f = refl

pub entries_on : (f : ℕ → ℕ) (i : ℕ) {n w x : ℕ} → n ≡ entries_of f i → w ≡ f i → x ≡ pick (is_empty w) 0 1 → n + x ≡ entries_of f (i + 1)
unfolding entries_of
entries_on f i {n} {w} {x} e read one =
    let q : x ≡ pick (is_empty (f i)) 0 1 = one ∙ ap (λ (v : ℕ). pick (is_empty v) 0 1) read in
    rw add-one (omega arith)

pub entries_same : (f g : ℕ → ℕ) (n : ℕ) → ((m : ℕ) → m < n → f m ≡ g m) → entries_of f n ≡ entries_of g n
unfolding entries_of
entries_same f g zero e = refl
entries_same f g (suc n) e = ap₂ (λ (w c : ℕ). pick (is_empty w) 0 1 + c) (e n (le_refl (suc n))) (entries_same f g n (λ m l. e m (omega arith)))

-- counted from the front
front : (f : ℕ → ℕ) (n : ℕ) → entries_of f (suc n) ≡ pick (is_empty (f 0)) 0 1 + entries_of (λ i. f (suc i)) n
unfolding entries_of
front f zero = refl
front f (suc n) = let ih = front f n in omega arith

pub entries_filled : (ws : List ℕ) → entries_of (λ i. get_or ws i 0) (length ws) ≡ length (filled ws)
unfolding entries_of sifted
entries_filled [] = refl
entries_filled (w ∷ ws) = front (λ i. get_or (w ∷ ws) i 0) (length ws) ∙ go (is_empty w) refl (entries_filled ws)
  where
    go : (b : Bool) → is_empty w ≡ b → entries_of (λ i. get_or ws i 0) (length ws) ≡ length (filled ws) → pick (is_empty w) 0 1 + entries_of (λ i. get_or ws i 0) (length ws) ≡ length (filled (w ∷ ws))
    go true e ih = rw e (omega arith)
    go false e ih = rw e (omega arith)
