-- What the code finds by walking is the book's `first`; the book's `some` by its test. Assumes nothing.
use mathlib.Core.Path.{◌≡◌, refl, ap₂}
use mathlib.Core.Bool.{Bool, true}
use Prim.Native.Nat.{ℕ, zero, suc, ◌<◌, zero-le}
use native.Mathlib.Nat.{le_refl}
use native.Mathlib.Decide.{ℕ_discrete}
use native.Mathlib.Omega.{arith}
use lib.Dec.{ltb}
use borrow.Author.Tests.{lt-ltb, le-ltb}
use Rattle.model.specs.Pick.{pick, some, first}
use Rattle.model.proofs.table.FirstLaws.{first_by}
use Rattle.image_faults.specs.Windows.{Found, Least}

pub found_first : {p : ℕ → ℕ} {limit n at : ℕ} → Found p limit n at → first (λ i. ltb 0 (p i)) limit ≡ at
found_first {p} {limit} {n} {at} h = first_by (λ i. ltb 0 (p i)) limit at h.upto (λ l. here l (ℕ_discrete n 0)) (λ m l. le-ltb 0 (p m) (omega (arith, h.before m l)))
  where
    here : at < limit → Dec (n ≡ 0) → ltb 0 (p at) ≡ true
    here l (yes e) = absurd (omega (arith, h.none e))
    here l (no e) = lt-ltb 0 (p at) (omega (arith, (h.here e).1))

pub least_first : {p : ℕ → Bool} {k s : ℕ} → Least p 0 k s → first p k ≡ s
least_first {p} {k} {s} h = first_by p k s h.upto h.here (λ m l. h.before m l zero-le)

-- the same test
pub some_same : (p q : ℕ → Bool) (n : ℕ) → ((m : ℕ) → m < n → p m ≡ q m) → some p n ≡ some q n
unfolding some
some_same p q zero e = refl
some_same p q (suc n) e = ap₂ (λ (a b : Bool). pick a true b) (e n (le_refl (suc n))) (some_same p q n (λ m l. e m (omega arith)))
