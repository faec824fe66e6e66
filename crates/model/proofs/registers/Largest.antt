-- The registers of `fed` and `joined`, one by one, and the largest value as a least upper bound.
use mathlib.Core.Path.{◌≡◌, refl, sym, ap, ◌∙◌, subst}
use mathlib.Core.List.{List, [], ◌∷◌, ◌++◌, Memᴰ}
use mathlib.Core.Bool.{Bool, true, false}
use mathlib.Core.Logic.{⊎_elim}
use Prim.Native.Nat.{ℕ, zero, suc, max, ◌+◌, ◌-◌, ◌%◌, ◌^◌, ◌≤◌, ◌<◌, zero-le, suc-le-suc}
use native.Mathlib.Nat.{le_antisymm, le_trans, not-suc-le-zero, le_of_suc-le-suc, add-zero, add-suc, suc-add, zero-add, mod-lt}
use native.Mathlib.Omega.{arith}
use lib.ListN.{length, get_or}
use lib.Dec.{eqb, leb}
use lib.Pow.{mod-mod-pow, pow_pos}
use borrow.Author.Tests.{eqb-true, eqb-false, eq-eqb, leb-true, leb-false}
use Rattle.model.specs.Pick.{pick}
use Rattle.model.specs.Coupon.{value, slot, home}
use Rattle.model.specs.Registers.{raise, fed, poured, joined, largest}
use Rattle.model.proofs.registers.Raising.{length_raise, raise_same, raise_other}
use Rattle.model.specs.Claims.{SameSet, IsLargest}

-- one register of a raised list
raise_at : (t : List ℕ) (s i v m : ℕ) → i < length t → max (get_or (raise t s v) i 0) m ≡ max (get_or t i 0) (pick (eqb s i) (max v m) m)
raise_at t s i v m h = go (eqb s i) refl
  where
    go : (b : Bool) → eqb s i ≡ b → max (get_or (raise t s v) i 0) m ≡ max (get_or t i 0) (pick b (max v m) m)
    go true q =
        let e : s ≡ i = eqb-true s i q in
        let r : get_or (raise t s v) i 0 ≡ max (get_or t i 0) v = subst (λ (n : ℕ). get_or (raise t n v) i 0 ≡ max (get_or t i 0) v) (sym e) (raise_same t i v h) in
        omega arith
    go false q = ap (λ (x : ℕ). max x m) (raise_other t s i v (eqb-false s i q))

pub fed_at : (k : ℕ) (t cs : List ℕ) (i : ℕ) → i < length t → get_or (fed k t cs) i 0 ≡ max (get_or t i 0) (largest k i cs)
unfolding fed largest
fed_at k t [] i h = omega arith
fed_at k t (c ∷ cs) i h =
    fed_at k (raise t (home k c) (value c)) cs i (rw (length_raise t (home k c) (value c)) h) ∙ raise_at t (home k c) i (value c) (largest k i cs) h

-- the largest of the source registers j, j + 1, .. that go to register i
pub most : ℕ → ℕ → ℕ → List ℕ → ℕ
most k i j [] = 0
most k i j (v ∷ vs) = pick (eqb (j % k) i) (max v (most k i (suc j) vs)) (most k i (suc j) vs)

pub poured_at : (k : ℕ) (t : List ℕ) (j : ℕ) (vs : List ℕ) (i : ℕ) → i < length t → get_or (poured k t j vs) i 0 ≡ max (get_or t i 0) (most k i j vs)
unfolding poured most
poured_at k t j [] i h = omega arith
poured_at k t j (v ∷ vs) i h =
    poured_at k (raise t (j % k) v) (suc j) vs i (rw (length_raise t (j % k) v) h) ∙ raise_at t (j % k) i v (most k i (suc j) vs) h

-- a pick between a maximum and its rest is at most b exactly if both parts are
pick_least : (t : Bool) (v m b : ℕ) → (t ≡ true → v ≤ b) → m ≤ b → pick t (max v m) m ≤ b
pick_least true v m b f h = let g = f refl in omega arith
pick_least false v m b f h = h

pick_rest : (t : Bool) (v m : ℕ) → m ≤ pick t (max v m) m
pick_rest true v m = omega arith
pick_rest false v m = omega arith

pick_here : (t : Bool) (v m : ℕ) → t ≡ true → v ≤ pick t (max v m) m
pick_here true v m e = omega arith
pick_here false v m e = absurd (let z : ◌≡◌ {A = ℕ} 0 1 = cc in omega arith)

-- the largest value is an upper bound, and the least one
pub largest_above : (k i : ℕ) (cs : List ℕ) (c : ℕ) → Memᴰ c cs → home k c ≡ i → value c ≤ largest k i cs
unfolding largest
largest_above k i [] c m e = absurd (mathlib.Core.List.Memᴰ.not-nil m)
largest_above k i (d ∷ cs) c m e =
    ⊎_elim
    (λ (q : c ≡ d). subst (λ (x : ℕ). value x ≤ pick (eqb (home k d) i) (max (value d) (largest k i cs)) (largest k i cs)) (sym q) (pick_here _ _ _ (eq-eqb _ _ (ap (home k) (sym q) ∙ e))))
    (λ (n : Memᴰ c cs). le_trans (largest_above k i cs c n e) (pick_rest (eqb (home k d) i) (value d) (largest k i cs)))
    (mathlib.Core.List.Memᴰ.cases_cons m)

pub largest_least : (k i : ℕ) (cs : List ℕ) (b : ℕ) → ((c : ℕ) → Memᴰ c cs → home k c ≡ i → value c ≤ b) → largest k i cs ≤ b
unfolding largest
largest_least k i [] b f = zero-le
largest_least k i (d ∷ cs) b f =
    pick_least (eqb (home k d) i) (value d) (largest k i cs) b (λ q. f d (mathlib.Core.List.Memᴰ.head refl) (eqb-true _ _ q)) (largest_least k i cs b (λ c m e. f c (mathlib.Core.List.Memᴰ.tail m) e))

-- and it is the value of one of them, unless it is zero
abbrev Among : ℕ → ℕ → List ℕ → ℕ → Type 0
Among k i cs x = (c : ℕ) × Memᴰ c cs × (home k c ≡ i) × (value c ≡ x)

among_max : (k i d : ℕ) (cs : List ℕ) (m : ℕ) → home k d ≡ i → (0 < m → Among k i cs m) → 0 < max (value d) m → (b : Bool) → leb m (value d) ≡ b → Among k i (d ∷ cs) (max (value d) m)
among_max k i d cs m e f h true q = let l = leb-true m (value d) q in (d, mathlib.Core.List.Memᴰ.head refl, e, omega arith)
among_max k i d cs m e f h false q = let l = leb-false m (value d) q in let r = f (omega arith) in (r.0, mathlib.Core.List.Memᴰ.tail r.1, r.2, r.3 ∙ omega arith)

among_step : (k i d : ℕ) (cs : List ℕ) (m : ℕ) → (0 < m → Among k i cs m) → (t : Bool) → eqb (home k d) i ≡ t → 0 < pick t (max (value d) m) m → Among k i (d ∷ cs) (pick t (max (value d) m) m)
among_step k i d cs m f true q h = among_max k i d cs m (eqb-true _ _ q) f h (leb m (value d)) refl
among_step k i d cs m f false q h = let r = f h in (r.0, mathlib.Core.List.Memᴰ.tail r.1, r.2, r.3)

largest_among : (k i : ℕ) (cs : List ℕ) → 0 < largest k i cs → Among k i cs (largest k i cs)
unfolding largest
largest_among k i [] h = absurd (not-suc-le-zero h)
largest_among k i (d ∷ cs) h = among_step k i d cs (largest k i cs) (largest_among k i cs) (eqb (home k d) i) refl h

pub is_largest : (k i : ℕ) (cs : List ℕ) (x : ℕ) → x ≡ largest k i cs → IsLargest k i cs x
is_largest k i cs x e =
    record {
      above = λ c m q. rw e (largest_above k i cs c m q);
      among = λ h. let r = largest_among k i cs (subst (λ (n : ℕ). 0 < n) e h) in (r.0, r.1, r.2, r.3 ∙ sym e);
    }

-- so it depends on the set alone
le_of_set : (k i : ℕ) (p q : List ℕ) → ((c : ℕ) → Memᴰ c p → Memᴰ c q) → largest k i p ≤ largest k i q
le_of_set k i p q f = largest_least k i p _ (λ c m e. largest_above k i q c (f c m) e)

pub largest_same : (k i : ℕ) (p q : List ℕ) → SameSet p q → largest k i p ≡ largest k i q
largest_same k i p q h = le_antisymm (le_of_set k i p q (λ c. (h c).0)) (le_of_set k i q p (λ c. (h c).1))

pub largest_append : (k i : ℕ) (p q : List ℕ) → largest k i (p ++ q) ≡ max (largest k i p) (largest k i q)
largest_append k i p q =
    let a : largest k i p ≤ largest k i (p ++ q) = le_of_set k i p (p ++ q) (λ c m. mathlib.Core.List.Memᴰ.append_left q m) in
    let b : largest k i q ≤ largest k i (p ++ q) = le_of_set k i q (p ++ q) (λ c m. mathlib.Core.List.Memᴰ.append_right p m) in
    let d : largest k i (p ++ q) ≤ max (largest k i p) (largest k i q) =
    largest_least k i (p ++ q) _ (λ c m e. ⊎_elim
    (λ (n : Memᴰ c p). let u = largest_above k i p c n e in omega arith)
    (λ (n : Memᴰ c q). let u = largest_above k i q c n e in omega arith)
    (mathlib.Core.List.Memᴰ.append_cases p m)) in
    omega arith

-- the same two bounds of `most`, over the source's registers
pub most_above : (k i j : ℕ) (vs : List ℕ) (n : ℕ) → n < length vs → (j + n) % k ≡ i → get_or vs n 0 ≤ most k i j vs
unfolding most
most_above k i j [] n h e = absurd (not-suc-le-zero h)
most_above k i j (v ∷ vs) zero h e = pick_here (eqb (j % k) i) v (most k i (suc j) vs) (eq-eqb _ _ (ap (λ (x : ℕ). x % k) (sym (add-zero j)) ∙ e))
most_above k i j (v ∷ vs) (suc n) h e =
    le_trans (most_above k i (suc j) vs n (le_of_suc-le-suc h) (ap (λ (x : ℕ). x % k) (suc-add j n ∙ sym (add-suc j n)) ∙ e)) (pick_rest (eqb (j % k) i) v (most k i (suc j) vs))

pub most_least : (k i j : ℕ) (vs : List ℕ) (b : ℕ) → ((n : ℕ) → n < length vs → (j + n) % k ≡ i → get_or vs n 0 ≤ b) → most k i j vs ≤ b
unfolding most
most_least k i j [] b f = zero-le
most_least k i j (v ∷ vs) b f =
    pick_least (eqb (j % k) i) v (most k i (suc j) vs) b
    (λ q. f 0 (omega arith) (ap (λ (x : ℕ). x % k) (add-zero j) ∙ eqb-true _ _ q))
    (most_least k i (suc j) vs b (λ n h e. f (suc n) (suc-le-suc h) (ap (λ (x : ℕ). x % k) (add-suc j n ∙ sym (suc-add j n)) ∙ e)))

-- a smaller size's home is found from a larger one's
pub home_home : (a b c : ℕ) → a ≤ b → home (2 ^ b) c % 2 ^ a ≡ home (2 ^ a) c
home_home a b c h =
    let e : b - a + a ≡ b = omega arith in
    subst (λ (n : ℕ). slot c % 2 ^ n % 2 ^ a ≡ slot c % 2 ^ a) e (mod-mod-pow (slot c) (b - a) a)

-- a source whose registers are the largest values of what reached it, poured into a smaller size
most_largest : (a b i : ℕ) (vs got : List ℕ) → a ≤ b → length vs ≡ 2 ^ b → ((n : ℕ) → n < 2 ^ b → get_or vs n 0 ≡ largest (2 ^ b) n got)
    → most (2 ^ a) i 0 vs ≡ largest (2 ^ a) i got
most_largest a b i vs got le long f =
    le_antisymm
    (most_least (2 ^ a) i 0 vs _ (λ n h e. rw (f n (subst (λ (x : ℕ). n < x) long h))
    (largest_least (2 ^ b) n got _ (λ c m q. largest_above (2 ^ a) i got c m (sym (home_home a b c le) ∙ ap (λ (x : ℕ). x % 2 ^ a) (q ∙ sym (zero-add n)) ∙ e)))))
    (largest_least (2 ^ a) i got _ (λ c m q.
    let n = home (2 ^ b) c in
    let h : n < 2 ^ b = mod-lt (slot c) (pow_pos b) in
    let u : value c ≤ get_or vs n 0 = rw (f n h) (largest_above (2 ^ b) n got c m refl) in
    le_trans u (most_above (2 ^ a) i 0 vs n (rw long h) (ap (λ (x : ℕ). x % 2 ^ a) (zero-add n) ∙ home_home a b c le ∙ q))))

pub joined_at : (a b : ℕ) (t vs got more : List ℕ) (i : ℕ) → i < length t → a ≤ b → length vs ≡ 2 ^ b
    → get_or t i 0 ≡ largest (2 ^ a) i got
    → ((n : ℕ) → n < 2 ^ b → get_or vs n 0 ≡ largest (2 ^ b) n more)
    → get_or (joined (2 ^ a) t vs) i 0 ≡ largest (2 ^ a) i (got ++ more)
joined_at a b t vs got more i h le long e f =
    poured_at (2 ^ a) t 0 vs i h ∙ rw (e, most_largest a b i vs more le long f, largest_append)
