-- Registers that are raised: as many as before, none above 63, and what each then is. Assumes nothing.
use mathlib.Core.Path.{◌≡◌, refl, sym, ◌∙◌, subst}
use mathlib.Core.List.{List, [], ◌∷◌}
use mathlib.Core.Bool.{Bool, true, false}
use Prim.Native.Nat.{ℕ, suc, max, ◌%◌, ◌≤◌, ◌<◌, suc-le-suc}
use native.Mathlib.Omega.{arith}
use lib.ListN.{length, get_or, length-set}
use lib.Seq.{get_or-set_same, get_or-set_other}
use lib.Dec.{eqb}
use borrow.Author.Tests.{eqb-true, eqb-false}
use Rattle.model.specs.Coupon.{value, home}
use Rattle.model.specs.Registers.{raise, fed, poured}

-- no register above 63
abbrev pub Small : List ℕ → Type 0
Small R = (i : ℕ) → i < length R → get_or R i 0 ≤ 63

pub length_raise : (R : List ℕ) (s v : ℕ) → length (raise R s v) ≡ length R
unfolding raise
length_raise R s v = length-set R s (max (get_or R s 0) v)

pub length_fed : (k : ℕ) (R cs : List ℕ) → length (fed k R cs) ≡ length R
unfolding fed
length_fed k R [] = refl
length_fed k R (c ∷ cs) = length_fed k (raise R (home k c) (value c)) cs ∙ length_raise R (home k c) (value c)

pub length_poured : (k : ℕ) (R : List ℕ) (i : ℕ) (vs : List ℕ) → length (poured k R i vs) ≡ length R
unfolding poured
length_poured k R i [] = refl
length_poured k R i (v ∷ vs) = length_poured k (raise R (i % k) v) (suc i) vs ∙ length_raise R (i % k) v

pub raise_same : (R : List ℕ) (s v : ℕ) → s < length R → get_or (raise R s v) s 0 ≡ max (get_or R s 0) v
unfolding raise
raise_same R s v h = get_or-set_same R s _ 0 h

pub raise_other : (R : List ℕ) (s i v : ℕ) → (s ≡ i → ⊥) → get_or (raise R s v) i 0 ≡ get_or R i 0
unfolding raise
raise_other R s i v h = get_or-set_other R s i _ 0 (λ e. h (sym e))

pub raise_small : (R : List ℕ) (s v : ℕ) → v ≤ 63 → Small R → Small (raise R s v)
raise_small R s v hv f i h = go (eqb s i) refl
  where
    g : i < length R
    g = subst (λ (n : ℕ). i < n) (length_raise R s v) h

    go : (b : Bool) → eqb s i ≡ b → get_or (raise R s v) i 0 ≤ 63
    go true q =
        let e : s ≡ i = eqb-true s i q in
        let u = f i g in
        let w : get_or (raise R s v) i 0 ≡ max (get_or R i 0) v = subst (λ (n : ℕ). get_or (raise R n v) i 0 ≡ max (get_or R i 0) v) (sym e) (raise_same R i v g) in
        omega arith
    go false q = rw (raise_other R s i v (eqb-false s i q)) (f i g)

pub poured_small : (k : ℕ) (R : List ℕ) (j : ℕ) (vs : List ℕ) → Small R → Small vs → Small (poured k R j vs)
unfolding poured
poured_small k R j [] f g = f
poured_small k R j (v ∷ vs) f g = poured_small k (raise R (j % k) v) (suc j) vs (raise_small R (j % k) v (g 0 (omega arith)) f) (λ i h. g (suc i) (suc-le-suc h))
