-- A number by its digits to any base c above 0. Assumes nothing.
use mathlib.Core.Path.{◌≡◌, refl, sym, ap, ap₂, ◌∙◌}
use mathlib.Core.List.{List, [], ◌∷◌, ◌++◌}
use Prim.Native.Nat.{ℕ, zero, suc, ◌+◌, ◌*◌, ◌/◌, ◌%◌, ◌^◌, ◌≤◌, ◌<◌}
use native.Mathlib.Nat.{pow-zero, pow-suc, pow-succ', mul-zero, mul-suc, zero-mod, zero-div, mod-one, one-le-pow, div-one, mul-one, div-div-eq-div-mul, div-add-mod', mod-lt, mod-eq_of_lt, le_of_suc-le-suc, not-suc-le-zero, zero-add, suc-add, mul-le-mul_left, lt_of_le_of_lt}
use native.Mathlib.Omega.{arith}
use lib.ListN.{length, get_or, set, take, drop, replicate, take-append-drop}
use lib.Dec.{lit<}
use lib.Arith.{digits_lt, digits_div, digits_mod, mod-mul}
use lib.Pow.{pow-add}
use Rattle.model.specs.Packed.{number, digits}

pub pow_mul : (n i j : ℕ) → n ^ (i * j) ≡ (n ^ i) ^ j
pow_mul n i zero = ap (λ (x : ℕ). n ^ x) (mul-zero i) ∙ pow-zero n ∙ sym (pow-zero (n ^ i))
pow_mul n i (suc j) =
    ap (λ (x : ℕ). n ^ x) (mul-suc i j) ∙ pow-add n (i * j) i ∙ ap (λ (x : ℕ). x * n ^ i) (pow_mul n i j) ∙ sym (pow-suc (n ^ i) j)

-- dividing by one digit more
pub div_suc : (n c s : ℕ) → n / c ^ suc s ≡ n / c / c ^ s
div_suc n c s = ap (λ (x : ℕ). n / x) (pow-succ' c s) ∙ sym (div-div-eq-div-mul n c (c ^ s))

pub digits_none : (c n : ℕ) → digits c 0 n ≡ []
unfolding digits
digits_none c n = refl

-- the digits of n above the first, each by a division of its own, as code reads them by shifts: p is what the first of them counts
abbrev pub shifted : ℕ → ℕ → ℕ → ℕ → List ℕ
shifted c zero p n = []
shifted c (suc k) p n = n / p % c ∷ shifted c k (p * c) n

pub digits_shifted : (c k n : ℕ) → digits c (suc k) n ≡ n % c ∷ shifted c k c n
unfolding digits
digits_shifted c k n = ap {B = List ℕ} (λ l. n % c ∷ l) (go k c)
  where
    go : (k p : ℕ) → digits c k (n / p) ≡ shifted c k p n
    go zero p = refl
    go (suc k) p = ap {B = List ℕ} (λ l. n / p % c ∷ l) (ap (digits c k) (div-div-eq-div-mul n p c) ∙ go k (p * c))

pub digits_zero : (c n : ℕ) → digits c n 0 ≡ replicate n 0
unfolding digits
digits_zero c zero = refl
digits_zero c (suc n) = rw (zero-mod c, zero-div c, digits_zero c n)

pub length_digits : (c k n : ℕ) → length (digits c k n) ≡ k
unfolding digits
length_digits c zero n = refl
length_digits c (suc k) n = ap suc (length_digits c k (n / c))

pub get_or_digits : (c k n s : ℕ) → s < k → get_or (digits c k n) s 0 ≡ n / c ^ s % c
unfolding digits
get_or_digits c zero n s h = absurd (not-suc-le-zero h)
get_or_digits c (suc k) n zero h = sym (ap (λ (x : ℕ). n / x % c) (pow-zero c) ∙ ap (λ (x : ℕ). x % c) (div-one n))
get_or_digits c (suc k) n (suc s) h = get_or_digits c k (n / c) s (le_of_suc-le-suc h) ∙ ap (λ (x : ℕ). x % c) (sym (div_suc n c s))

pub digit_lt : (c k n : ℕ) → 0 < c → (i : ℕ) → get_or (digits c k n) i 0 < c
unfolding digits
digit_lt c zero n p i = p
digit_lt c (suc k) n p zero = mod-lt n p
digit_lt c (suc k) n p (suc i) = digit_lt c k (n / c) p i

-- the number of the k lowest digits
pub number_digits : (c k n : ℕ) → 0 < c → number c (digits c k n) ≡ n % c ^ k
unfolding number digits
number_digits c zero n p = sym (ap (λ (x : ℕ). n % x) (pow-zero c) ∙ mod-one n)
number_digits c (suc k) n p =
    ap (λ (x : ℕ). x * c + n % c) (number_digits c k (n / c) p) ∙ sym (mod-mul n (one-le-pow k c p) p) ∙ ap (λ (x : ℕ). n % x) (sym (pow-suc c k))

pub digits_number : (c : ℕ) (ds : List ℕ) → ((i : ℕ) → get_or ds i 0 < c) → digits c (length ds) (number c ds) ≡ ds
unfolding number digits
digits_number c [] h = refl
digits_number c (d ∷ ds) h =
    ap₂ {C = List ℕ} (λ x y. x ∷ y) (digits_mod (number c ds) (h 0)) (ap (digits c (length ds)) (digits_div (number c ds) (h 0)) ∙ digits_number c ds (λ i. h (suc i)))

-- one digit of the number of a list
pub digit_number : (c : ℕ) (ds : List ℕ) → ((i : ℕ) → get_or ds i 0 < c) → (j : ℕ) → number c ds / c ^ j % c ≡ get_or ds j 0
unfolding number
digit_number c [] h j = ap (λ (x : ℕ). x % c) (zero-div (c ^ j)) ∙ zero-mod c
digit_number c (d ∷ ds) h zero = simp (pow-zero, div-one) (digits_mod (number c ds) (h 0))
digit_number c (d ∷ ds) h (suc j) = ap (λ (x : ℕ). x % c) (div_suc (number c ds * c + d) c j ∙ ap (λ (x : ℕ). x / c ^ j) (digits_div (number c ds) (h 0))) ∙ digit_number c ds (λ i. h (suc i)) j

-- a store at j, in the number
pub number_set : (c : ℕ) (ds : List ℕ) (j x : ℕ) → j < length ds → number c (set ds j x) + get_or ds j 0 * c ^ j ≡ number c ds + x * c ^ j
unfolding number
number_set c [] j x h = absurd (not-suc-le-zero h)
number_set c (d ∷ ds) zero x h = rw pow-zero (omega arith)
number_set c (d ∷ ds) (suc j) x h =
    let e : (number c (set ds j x) + get_or ds j 0 * c ^ j) * c ≡ (number c ds + x * c ^ j) * c = ap (λ (y : ℕ). y * c) (number_set c ds j x (le_of_suc-le-suc h)) in
    rw pow-suc (omega arith)

-- v in the place of n's digit s
abbrev pub Changed : ℕ → ℕ → ℕ → ℕ → ℕ → Type 0
Changed c s v n m = m + (n / c ^ s % c) * c ^ s ≡ n + v * c ^ s

changed_step : (c s v n m : ℕ) → 0 < c → Changed c (suc s) v n m → (m % c ≡ n % c) × Changed c s v (n / c) (m / c)
changed_step c s v n m p e =
    let e' : m + (n / c / c ^ s % c) * (c ^ s * c) ≡ n + v * (c ^ s * c) = rw (← pow-suc c s, ← div_suc n c s) e in
    let f : (m / c + (n / c / c ^ s % c) * c ^ s) * c + m % c ≡ (n / c + v * c ^ s) * c + n % c = omega (arith, div-add-mod' m c, div-add-mod' n c) in (
      sym (digits_mod (m / c + (n / c / c ^ s % c) * c ^ s) (mod-lt m p)) ∙ ap (λ (x : ℕ). x % c) f ∙ digits_mod (n / c + v * c ^ s) (mod-lt n p),
      sym (digits_div (m / c + (n / c / c ^ s % c) * c ^ s) (mod-lt m p)) ∙ ap (λ (x : ℕ). x / c) f ∙ digits_div (n / c + v * c ^ s) (mod-lt n p),
    )

changed_zero : (c v n m : ℕ) → Changed c 0 v n m → m ≡ n / c * c + v
changed_zero c v n m e =
    let e' : m + n % c ≡ n + v = simp (pow-zero, div-one, mul-one) at e in
    omega (arith, div-add-mod' n c)

pub digits_changed : (c k s v n m : ℕ) → 0 < c → v < c → Changed c s v n m → digits c k m ≡ set (digits c k n) s v
unfolding digits
digits_changed c zero s v n m p l e = refl
digits_changed c (suc k) zero v n m p l e =
    let f = changed_zero c v n m e in
    ap₂ {C = List ℕ} (λ x y. x ∷ y) (ap (λ (x : ℕ). x % c) f ∙ digits_mod (n / c) l) (ap (λ (x : ℕ). digits c k (x / c)) f ∙ ap (digits c k) (digits_div (n / c) l))
digits_changed c (suc k) (suc s) v n m p l e =
    let f = changed_step c s v n m p e in
    ap₂ {C = List ℕ} (λ x y. x ∷ y) f.0 (digits_changed c k s v (n / c) (m / c) p l f.1)

pub number_lt : (c : ℕ) (ds : List ℕ) → ((i : ℕ) → get_or ds i 0 < c) → number c ds < c ^ length ds
unfolding number
number_lt c [] h = rw pow-zero (lit< tt)
number_lt c (d ∷ ds) h = rw (pow-suc c (length ds)) (digits_lt (number_lt c ds (λ i. h (suc i))) (h 0))

pub drop_digits : (c k m n : ℕ) → drop k (digits c (k + m) n) ≡ digits c m (n / c ^ k)
unfolding digits
drop_digits c zero m n = simp (zero-add, pow-zero, div-one)
drop_digits c (suc k) m n = rw (suc-add k m) (drop_digits c k m (n / c) ∙ ap (digits c m) (sym (div_suc n c k)))

lt_pow : (c n : ℕ) → 1 < c → n < c ^ n
lt_pow c zero h = rw pow-zero (lit< tt)
lt_pow c (suc n) h =
    let ih = lt_pow c n h in
    let more : c ^ n * 2 ≤ c ^ n * c = mul-le-mul_left (c ^ n) h in
    rw (pow-suc c n) (omega arith)

-- a number is fixed by all its digits
pub digits_inj : (c a b : ℕ) → 1 < c → ((m : ℕ) → digits c m a ≡ digits c m b) → a ≡ b
digits_inj c a b h e =
    let p : 0 < c = omega arith in
    let la : a < c ^ (a + b) = lt_of_le_of_lt (omega arith) (lt_pow c (a + b) h) in
    let lb : b < c ^ (a + b) = lt_of_le_of_lt (omega arith) (lt_pow c (a + b) h) in
    sym (number_digits c (a + b) a p ∙ mod-eq_of_lt la) ∙ ap (number c) (e (a + b)) ∙ number_digits c (a + b) b p ∙ mod-eq_of_lt lb

-- the lowest digits of a number with more
pub take_digits : (c k m n : ℕ) → take k (digits c (k + m) n) ≡ digits c k n
unfolding digits
take_digits c zero m n = refl
take_digits c (suc k) m n = rw (suc-add k m) (ap {B = List ℕ} (λ l. n % c ∷ l) (take_digits c k m (n / c)))

pub digits_append : (c k m n : ℕ) → digits c (k + m) n ≡ digits c k n ++ digits c m (n / c ^ k)
digits_append c k m n = sym (take-append-drop k (digits c (k + m) n)) ∙ ap₂ {C = List ℕ} (λ x y. x ++ y) (take_digits c k m n) (drop_digits c k m n)

-- what is above does not show in the k lowest digits
pub digits_low : (c k q n : ℕ) → 0 < c → digits c k (q * c ^ k + n) ≡ digits c k n
unfolding digits
digits_low c zero q n p = refl
digits_low c (suc k) q n p =
    let e : q * c ^ suc k + n ≡ (q * c ^ k + n / c) * c + n % c = rw (pow-suc c k) (omega (arith, div-add-mod' n c)) in
    ap₂ {C = List ℕ} (λ x y. x ∷ y)
    (ap (λ (x : ℕ). x % c) e ∙ digits_mod (q * c ^ k + n / c) (mod-lt n p))
    (ap (λ (x : ℕ). digits c k (x / c)) e ∙ ap (digits c k) (digits_div (q * c ^ k + n / c) (mod-lt n p)) ∙ digits_low c k q (n / c) p)
