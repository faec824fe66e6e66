-- No table, or one that is kept: in good order, and of the rule's size. Assumes nothing.
use mathlib.Core.Path.{◌≡◌, sym, ◌∙◌, ap, subst}
use mathlib.Core.Logic.{◌⊎◌, inl, inr}
use mathlib.Core.List.{List, []}
use Prim.Native.Nat.{ℕ, zero, suc, ◌≤◌, ◌<◌, zero-le}
use native.Mathlib.Nat.{not-suc-le-zero}
use native.Mathlib.Omega.{arith}
use lib.ListN.{length}
use borrow.Author.Tests.{ne_eqb}
use Rattle.model.specs.Table.{Kept, Reached, used, size_for, table_size}
use Rattle.model.proofs.table.Grown.{zeros_good}
use Rattle.model.proofs.table.Inserts.{size_mono}

abbrev pub Shape : ℕ → List ℕ → Type 0
Shape base t = (t ≡ []) ⊎ ((0 < used t) × Kept base t)

pub shape_good : {base : ℕ} {t : List ℕ} → Shape base t → Reached t
shape_good (inl e) = subst Reached (sym e) (zeros_good 0)
shape_good (inr k) = k.1.good

-- ---- the size
pub size_some : (base n : ℕ) → 0 < n → table_size base n ≡ size_for base n
unfolding table_size
size_some base n h = rw (ne_eqb n 0 (omega arith))

pub size_shorter : (base m n : ℕ) → m ≤ n → table_size base m ≤ table_size base n
unfolding table_size
size_shorter base zero n h = zero-le
size_shorter base (suc m) zero h = absurd (not-suc-le-zero h)
size_shorter base (suc m) (suc n) h = rw (size_some base (suc m) (omega arith), size_some base (suc n) (omega arith)) (size_mono base (suc m) (suc n) h)

pub shape_size : {base : ℕ} {t : List ℕ} → Shape base t → length t ≡ table_size base (used t)
unfolding table_size used
shape_size {base} {t} (inl e) = ap length e ∙ sym (ap (λ (l : List ℕ). table_size base (used l)) e)
shape_size {base} {t} (inr k) = k.1.sized ∙ sym (size_some base (used t) k.0)
