-- What `aux_fault` finds, by the lines of the table, each exactly when. Assumes nothing.
use mathlib.Core.Path.{◌≡◌, refl, sym, ◌∙◌, ap, subst}
use mathlib.Core.Bool.{Bool, true, false}
use mathlib.Core.List.{List}
use mathlib.Core.Logic.{◌⊎◌, inl, inr}
use Prim.Native.Nat.{ℕ, zero, suc, ◌+◌, ◌≤◌, ◌<◌}
use native.Mathlib.Nat.{le_refl, not-suc-le-zero}
use native.Mathlib.Decide.{dec_lt, ℕ_discrete}
use native.Mathlib.Omega.{arith}
use lib.Dec.{eqb, leb, ltb}
use lib.ListN.{length, get_or}
use borrow.Author.Tests.{ltb-true, ltb-false, eq-eqb, ne_eqb, eqb-true, eqb-false, leb-true, leb-false}
use Rattle.model.specs.Pick.{pick, some, differ, first, Tells}
use Rattle.model.specs.Coupon.{value, home, is_empty}
use Rattle.model.specs.Table.{filled}
use Rattle.model.specs.Answers.{Said, said, placed}
use Rattle.model.specs.Faults.{lists, listed, fault_at, unmatched, aux_fault}
use Rattle.model.specs.Claims.{refused, passed, found, nowhere, EmptyAt, ListedAt, TwiceAt, LowAt, RightAt, RightTo, InOne, AuxLines}
use Rattle.model.proofs.table.FirstLaws.{true_not_false, first_holds, first_before}

-- ---- a slot is listed where an entry for it stands
module _ (k : ℕ) (ws : List ℕ) (h : ℕ) where
  listed_at : (n : ℕ) → listed k ws n h ≡ true → ListedAt k ws n h
  unfolding some lists
  listed_at zero e = absurd (true_not_false e refl)
  listed_at (suc n) e = go (listed_at n) (is_empty (get_or ws n 0)) refl (ℕ_discrete (home k (get_or ws n 0)) h) e
    where
      up : ListedAt k ws n h → ListedAt k ws (suc n) h
      up (i, l, y, z) = (i, omega arith, y, z)

      go : (listed k ws n h ≡ true → ListedAt k ws n h) → (b : Bool) → is_empty (get_or ws n 0) ≡ b → Dec (home k (get_or ws n 0) ≡ h) → pick (lists k h (get_or ws n 0)) true (listed k ws n h) ≡ true → ListedAt k ws (suc n) h
      go ih true x d q = up (ih (sym (rw x refl) ∙ q))
      go ih false x (yes d) q = (n, le_refl (suc n), x, d)
      go ih false x (no d) q = up (ih (sym (rw (x, ne_eqb (home k (get_or ws n 0)) h d) refl) ∙ q))

  at_listed : (n : ℕ) → ListedAt k ws n h → listed k ws n h ≡ true
  unfolding some lists
  at_listed zero (i, l, x, e) = absurd (not-suc-le-zero l)
  at_listed (suc n) (i, l, x, e) = go (λ q. at_listed n (i, q, x, e)) (ℕ_discrete i n)
    where
      any : (b : Bool) → pick b true true ≡ true
      any true = refl
      any false = refl

      go : (i < n → listed k ws n h ≡ true) → Dec (i ≡ n) → pick (lists k h (get_or ws n 0)) true (listed k ws n h) ≡ true
      go ih (yes q) =
          let y : is_empty (get_or ws n 0) ≡ false = ap (λ (j : ℕ). is_empty (get_or ws j 0)) (sym q) ∙ x in
          let z : home k (get_or ws n 0) ≡ h = ap (λ (j : ℕ). home k (get_or ws j 0)) (sym q) ∙ e in
          rw (y, eq-eqb (home k (get_or ws n 0)) h z) refl
      go ih (no q) = ap (pick (lists k h (get_or ws n 0)) true) (ih (omega arith)) ∙ any (lists k h (get_or ws n 0))

  pub listed_tells : (n : ℕ) → Tells (listed k ws n h) (ListedAt k ws n h)
  listed_tells n = (listed_at n, λ f p. true_not_false (at_listed n p) f)

-- ---- a word by itself
module _ (compact : Bool) (k low : ℕ) (ws : List ℕ) where
  abbrev at : ℕ → ℕ
  at i = get_or ws i 0

  -- what its fault's number says of a word
  pub data Says (i : ℕ) (n : ℕ) : Type 0 where
    right : RightAt compact k low ws i → n ≡ 0 → Says i n
    empty : EmptyAt compact ws i → n ≡ 21 → Says i n
    twice : TwiceAt k ws i → n ≡ 22 → Says i n
    low_one : (TwiceAt k ws i → ⊥) → LowAt low ws i → n ≡ 23 → Says i n

  pub fault_says : (i : ℕ) → Says i (fault_at compact k low ws i)
  unfolding fault_at
  fault_says i = go (is_empty (at i)) refl compact refl (listed k ws i (home k (at i))) refl (leb (low + 15) (value (at i))) refl
    where
      go : (a : Bool) → is_empty (at i) ≡ a → (d : Bool) → compact ≡ d → (b : Bool) → listed k ws i (home k (at i)) ≡ b → (c : Bool) → leb (low + 15) (value (at i)) ≡ c
          → Says i (pick a (pick d 21 0) (pick b 22 (pick c 0 23)))
      go true e true f b g c h = empty (f, e) refl
      go true e false f b g c h = right ((λ p. true_not_false p.0 f), ((λ p. true_not_false e p.0), λ p. true_not_false e p.0)) refl
      go false e d f true g c h = twice (e, (listed_tells k ws (home k (at i)) i).0 g) refl
      go false e d f false g true h =
          right ((λ p. true_not_false p.1 e), ((λ p. (listed_tells k ws (home k (at i)) i).1 g p.1), λ p. omega (arith, p.1, leb-true (low + 15) (value (at i)) h))) refl
      go false e d f false g false h = low_one (λ p. (listed_tells k ws (home k (at i)) i).1 g p.1) (e, omega (arith, leb-false (low + 15) (value (at i)) h)) refl

  pub right_of : (i : ℕ) → ltb 0 (fault_at compact k low ws i) ≡ false → RightAt compact k low ws i
  right_of i e = go (fault_says i)
    where
      z : fault_at compact k low ws i ≤ 0
      z = ltb-false 0 (fault_at compact k low ws i) e

      go : Says i (fault_at compact k low ws i) → RightAt compact k low ws i
      go (right r q) = r
      go (empty p q) = absurd (omega (arith, z))
      go (twice p q) = absurd (omega (arith, z))
      go (low_one t p q) = absurd (omega (arith, z))

  -- the first that is wrong is one word
  pub one_first : (i j : ℕ) → RightTo compact k low ws i → RightTo compact k low ws j → (RightAt compact k low ws i → ⊥) → (RightAt compact k low ws j → ⊥) → i ≡ j
  one_first i j ri rj wi wj = go (dec_lt i j) (dec_lt j i)
    where
      go : Dec (i < j) → Dec (j < i) → i ≡ j
      go (yes l) e = absurd (wi (rj i l))
      go (no l) (yes m) = absurd (wj (ri j m))
      go (no l) (no m) = omega arith

-- ---- slots
in_one_tells : (k : ℕ) (ws ns : List ℕ) (s : ℕ) → Tells (unmatched k ws ns s) (InOne k ws ns s)
in_one_tells k ws ns s = go (eqb (get_or ns s 0) 15) refl (listed k ws (length ws) s) refl
  where
    t : Tells (listed k ws (length ws) s) (ListedAt k ws (length ws) s)
    t = listed_tells k ws s (length ws)

    go : (a : Bool) → eqb (get_or ns s 0) 15 ≡ a → (b : Bool) → listed k ws (length ws) s ≡ b → Tells (differ a b) (InOne k ws ns s)
    go true p true q = ((λ e. absurd (true_not_false e refl)), λ e x. none x)
      where
        none : InOne k ws ns s → ⊥
        none (inl x) = x.1 (t.0 q)
        none (inr x) = x.0 (eqb-true (get_or ns s 0) 15 p)
    go true p false q = ((λ e. inl (eqb-true (get_or ns s 0) 15 p, t.1 q)), λ e. absurd (true_not_false refl e))
    go false p true q = ((λ e. inr (eqb-false (get_or ns s 0) 15 p, t.0 q)), λ e. absurd (true_not_false refl e))
    go false p false q = ((λ e. absurd (true_not_false e refl)), λ e x. none x)
      where
        none : InOne k ws ns s → ⊥
        none (inl x) = eqb-false (get_or ns s 0) 15 p x.0
        none (inr x) = t.1 q x.1

-- ---- all of it
module _ (compact : Bool) (k low count : ℕ) (ws ns : List ℕ) where
  -- what was found
  pub data Finds (f : Said) : Type 0 where
    an_empty : (i : ℕ) → i < length ws → RightTo compact k low ws i → EmptyAt compact ws i → f ≡ said 21 i → Finds f
    a_twice : (i : ℕ) → i < length ws → RightTo compact k low ws i → TwiceAt k ws i → f ≡ said 22 i → Finds f
    a_low : (i : ℕ) → i < length ws → RightTo compact k low ws i → (TwiceAt k ws i → ⊥) → LowAt low ws i → f ≡ said 23 i → Finds f
    a_count : RightTo compact k low ws (length ws) → (length (filled ws) ≡ count → ⊥) → f ≡ said 24 0 → Finds f
    a_slot : (s : ℕ) → RightTo compact k low ws (length ws) → length (filled ws) ≡ count → s < k → InOne k ws ns s → ((t : ℕ) → t < s → InOne k ws ns t → ⊥) → f ≡ said 25 s → Finds f
    a_none : RightTo compact k low ws (length ws) → length (filled ws) ≡ count → ((s : ℕ) → s < k → InOne k ws ns s → ⊥) → f ≡ said 0 0 → Finds f

  pub finds : Finds (aux_fault compact k low count ws ns)
  unfolding aux_fault
  finds = go (ltb i n) refl (eqb (length (filled ws)) count) refl (ltb s k) refl
    where
      F : ℕ → Bool
      F j = ltb 0 (fault_at compact k low ws j)

      n : ℕ
      n = length ws

      i : ℕ
      i = first F n

      s : ℕ
      s = first (unmatched k ws ns) k

      before : RightTo compact k low ws i
      before j l = right_of compact k low ws j (first_before F n j l)

      matched : (t : ℕ) → t < s → InOne k ws ns t → ⊥
      matched t l = (in_one_tells k ws ns t).1 (first_before (unmatched k ws ns) k t l)

      word : i < n → Says compact k low ws i (fault_at compact k low ws i) → Finds (said (fault_at compact k low ws i) i)
      word l (right r q) = absurd (omega (arith, ltb-true 0 (fault_at compact k low ws i) (first_holds F n l)))
      word l (empty p q) = an_empty i l before p (ap (λ (m : ℕ). said m i) q)
      word l (twice p q) = a_twice i l before p (ap (λ (m : ℕ). said m i) q)
      word l (low_one t p q) = a_low i l before t p (ap (λ (m : ℕ). said m i) q)

      go : (a : Bool) → ltb i n ≡ a → (b : Bool) → eqb (length (filled ws)) count ≡ b → (c : Bool) → ltb s k ≡ c
          → Finds (pick a (said (fault_at compact k low ws i) i) (pick b (pick c (said 25 s) (said 0 0)) (said 24 0)))
      go true p b q c r = word (ltb-true i n p) (fault_says compact k low ws i)
      go false p false q c r = a_count (λ j l. before j (omega (arith, ltb-false i n p))) (eqb-false (length (filled ws)) count q) refl
      go false p true q true r =
          a_slot s (λ j l. before j (omega (arith, ltb-false i n p))) (eqb-true (length (filled ws)) count q) (ltb-true s k r) ((in_one_tells k ws ns s).0 (first_holds (unmatched k ws ns) k (ltb-true s k r))) matched refl
      go false p true q false r =
          a_none (λ j l. before j (omega (arith, ltb-false i n p))) (eqb-true (length (filled ws)) count q) (λ t l. matched t (omega (arith, ltb-false s k r))) refl

  -- nothing, or an answer that names its place
  pub finds_placed : (aux_fault compact k low count ws ns ≡ said 0 0) ⊎ (placed (aux_fault compact k low count ws ns).no ≡ true)
  finds_placed = go finds
    where
      told : {f : Said} (n p : ℕ) → placed n ≡ true → f ≡ said n p → placed f.no ≡ true
      told n p t e = ap (λ (g : Said). placed g.no) e ∙ t

      go : {f : Said} → Finds f → (f ≡ said 0 0) ⊎ (placed f.no ≡ true)
      go (an_empty i l r p e) = inr (told 21 i refl e)
      go (a_twice i l r p e) = inr (told 22 i refl e)
      go (a_low i l r t p e) = inr (told 23 i refl e)
      go (a_count r c e) = inr (told 24 0 refl e)
      go (a_slot s r c l x m e) = inr (told 25 s refl e)
      go (a_none r c x e) = inl e

  -- ---- the lines
  module _ (next : Said → Type 0) (answer : Said) where
    -- a word that is wrong in another way than the earliest one is not the earliest
    other : {P : ℕ → Type 0} (i : ℕ) → RightTo compact k low ws i → (RightAt compact k low ws i → ⊥) → ((j : ℕ) → P j → RightAt compact k low ws j → ⊥) → (P i → ⊥)
        → (j : ℕ) → (j < length ws) × (RightTo compact k low ws j × P j) → ⊥
    other {P} i r w v x j p = x (subst P (one_first compact k low ws j i p.1.0 r (v j p.1.1) w) p.1.1)

    not_empty : (j : ℕ) → EmptyAt compact ws j → RightAt compact k low ws j → ⊥
    not_empty j p r = r.0 p

    not_twice : (j : ℕ) → TwiceAt k ws j → RightAt compact k low ws j → ⊥
    not_twice j p r = r.1.0 p

    not_low : (j : ℕ) → (TwiceAt k ws j → ⊥) × LowAt low ws j → RightAt compact k low ws j → ⊥
    not_low j p r = r.1.1 p.1

    -- no word is wrong
    clean : {P : ℕ → Type 0} → RightTo compact k low ws (length ws) → ((j : ℕ) → P j → RightAt compact k low ws j → ⊥) → (j : ℕ) → (j < length ws) × (RightTo compact k low ws j × P j) → ⊥
    clean r v j p = v j p.1.1 (r j p.0)

    pub aux_lines : (((aux_fault compact k low count ws ns).no ≡ 0 → ⊥) → answer ≡ aux_fault compact k low count ws ns) → (aux_fault compact k low count ws ns ≡ said 0 0 → next answer)
        → AuxLines compact k low count ws ns next answer
    aux_lines is on = go is on finds
      where
        some_no : {f : Said} (n p : ℕ) → f ≡ said (suc n) p → f.no ≡ 0 → ⊥
        some_no n p e z = let q : suc n ≡ 0 = ap (λ (g : Said). g.no) (sym e) ∙ z in omega arith

        go : {f : Said} → ((f.no ≡ 0 → ⊥) → answer ≡ f) → (f ≡ said 0 0 → next answer) → Finds f → AuxLines compact k low count ws ns next answer
        go h o (an_empty i l r p e) = found i (l, (r, p)) (h (some_no 20 i e) ∙ e)
        go h o (a_twice i l r p e) =
            nowhere (other i r (not_twice i p) not_empty (λ q. true_not_false q.1 p.0))
            (found i (l, (r, p)) (h (some_no 21 i e) ∙ e))
        go h o (a_low i l r t p e) =
            nowhere (other i r (not_low i (t, p)) not_empty (λ q. true_not_false q.1 p.0))
            (nowhere (other i r (not_low i (t, p)) not_twice t)
            (found i (l, (r, (t, p))) (h (some_no 22 i e) ∙ e)))
        go h o (a_count r c e) =
            nowhere (clean r not_empty) (nowhere (clean r not_twice) (nowhere (clean r not_low)
            (refused c (h (some_no 23 0 e) ∙ e))))
        go h o (a_slot s r c l x m e) =
            nowhere (clean r not_empty) (nowhere (clean r not_twice) (nowhere (clean r not_low)
            (passed c (found s (l, (x, m)) (h (some_no 24 s e) ∙ e)))))
        go h o (a_none r c x e) =
            nowhere (clean r not_empty) (nowhere (clean r not_twice) (nowhere (clean r not_low)
            (passed c (nowhere (λ i p. x i p.0 p.1.0) (o e)))))
