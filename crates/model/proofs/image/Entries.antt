-- The entries among an image's exception words, and what they are where nothing is wrong with the words. Assumes nothing.
use mathlib.Core.Path.{◌≡◌, refl, sym, ap, ◌∙◌}
use mathlib.Core.Bool.{Bool, true, false}
use mathlib.Core.List.{List, [], ◌∷◌}
use mathlib.Core.Logic.{inl, inr}
use Prim.Native.Nat.{ℕ, zero, suc, ◌+◌, ◌^◌, ◌≤◌, ◌<◌, zero-le, suc-le-suc}
use native.Mathlib.Nat.{not-suc-le-zero, le_of_suc-le-suc}
use native.Mathlib.Decide.{dec_lt, ℕ_discrete}
use native.Mathlib.Omega.{arith}
use lib.ListN.{length, get_or, take}
use borrow.Author.Tests.{ne_eqb}
use Rattle.model.specs.Coupon.{value, home, is_empty}
use Rattle.model.specs.Registers.{count_of}
use Rattle.model.specs.Table.{filled}
use Rattle.model.specs.Answers.{Said, said}
use Rattle.model.specs.Faults.{listed, aux_fault}
use Rattle.model.specs.Claims.{EntryAt, EmptyAt, ListedAt, TwiceAt, RightTo, InOne, Listed, Entries, AuxNone}
use Rattle.model.specs.declared.Sketch.{Sketch}
use Rattle.model.proofs.table.FirstLaws.{true_not_false}
use Rattle.model.proofs.table.Sifted.{sifted_none, sifted_distinct, zero_empty, filled_in, filled_out, filled_from}
use Rattle.model.proofs.table.Grown.{DistinctBy}
use Rattle.model.proofs.image.Faults.{Finds, an_empty, a_twice, a_low, a_count, a_slot, a_none, finds, listed_tells}

-- no two entries have one slot of k
abbrev pub Apart : ℕ → List ℕ → Type 0
Apart k es = (i j : ℕ) → i < length es → j < length es → home k (get_or es i 0) ≡ home k (get_or es j 0) → i ≡ j

-- what a table is made of: in numbers, where the book speaks of sets
pub record AuxFits (k low count : ℕ) (nibbles es : List ℕ) : Type 0 where
  pub each : (i : ℕ) → i < length es → (low + 15 ≤ value (get_or es i 0)) × (get_or nibbles (home k (get_or es i 0)) 0 ≡ 15)
  pub apart : Apart k es
  pub many : length es ≡ count
  pub marked : count_of 15 nibbles ≡ count

-- ---- where an entry stands among the words, and where a word among the entries: behind as many as stand before it
abbrev at : List ℕ → ℕ → ℕ
at ws i = get_or ws i 0

abbrev rank : List ℕ → ℕ → ℕ
rank ws p = length (filled (take p ws))

-- what is left is an entry
pub filled_entry : (ws : List ℕ) (i : ℕ) → i < length (filled ws) → EntryAt (filled ws) i
filled_entry ws i l = ne_eqb _ 0 (filled_from ws (at (filled ws) i) (i, l, refl)).1

-- words of which none is empty are all entries
pub filled_all : (ws : List ℕ) → ((i : ℕ) → i < length ws → EntryAt ws i) → filled ws ≡ ws
filled_all [] h = sifted_none _
filled_all (w ∷ ws) h = filled_in w ws (h 0 (suc-le-suc zero-le)) ∙ ap (λ (l : List ℕ). w ∷ l) (filled_all ws (λ i l. h (suc i) (suc-le-suc l)))

pub record From (ws : List ℕ) (x : ℕ) : Type 0 where
  pub place : ℕ
  pub inside : place < length ws
  pub is : get_or ws place 0 ≡ x
  pub entry : EntryAt ws place

pub from : (ws : List ℕ) (i : ℕ) → i < length (filled ws) → From ws (at (filled ws) i)
from ws i l = let r = filled_from ws (at (filled ws) i) (i, l, refl) in record { place = r.0.0; inside = r.0.1; is = r.0.2; entry = ne_eqb _ 0 (λ z. r.1 (sym r.0.2 ∙ z)) }

pub record To (ws : List ℕ) (p : ℕ) : Type 0 where
  pub inside : rank ws p < length (filled ws)
  pub is : at (filled ws) (rank ws p) ≡ at ws p

to : (ws : List ℕ) (p : ℕ) → p < length ws → EntryAt ws p → To ws p
to [] p l e = absurd (not-suc-le-zero l)
to (w ∷ ws) zero l e = let k = filled_in w ws e in record { inside = rw (k, sifted_none) (suc-le-suc zero-le); is = rw (k, sifted_none) refl }
to (w ∷ ws) (suc p) l e = go (to ws p (le_of_suc-le-suc l) e) (is_empty w) refl
  where
    go : To ws p → (b : Bool) → is_empty w ≡ b → To (w ∷ ws) (suc p)
    go h true x = let k = filled_out w ws x in let r = filled_out w (take p ws) x in record { inside = rw (k, r) h.inside; is = rw (k, r) h.is }
    go h false x = let k = filled_in w ws x in let r = filled_in w (take p ws) x in record { inside = rw (k, r) (suc-le-suc h.inside); is = rw (k, r) h.is }

-- more entries stand before a later place
rises : (ws : List ℕ) (j i : ℕ) → j < i → EntryAt ws j → rank ws j < rank ws i
rises [] j i l e = absurd (true_not_false zero_empty e)
rises (w ∷ ws) j zero l e = absurd (not-suc-le-zero l)
rises (w ∷ ws) zero (suc i) l e = rw (filled_in w (take i ws) e, sifted_none) (suc-le-suc zero-le)
rises (w ∷ ws) (suc j) (suc i) l e = go (rises ws j i (le_of_suc-le-suc l) e) (is_empty w) refl
  where
    go : rank ws j < rank ws i → (b : Bool) → is_empty w ≡ b → rank (w ∷ ws) (suc j) < rank (w ∷ ws) (suc i)
    go h true x = rw (filled_out w (take j ws) x, filled_out w (take i ws) x) h
    go h false x = rw (filled_in w (take j ws) x, filled_in w (take i ws) x) (suc-le-suc h)

-- entries of one slot are one, if no word is twice
apart_kept : (k : ℕ) (ws : List ℕ) → ((i j : ℕ) → i < length ws → j < i → EntryAt ws i → EntryAt ws j → home k (at ws j) ≡ home k (at ws i) → ⊥) → Apart k (filled ws)
apart_kept k ws h i j li lj = sifted_distinct _ (home k) ws once i j li lj (some i li) (some j lj)
  where
    once : DistinctBy (home k) ws
    once i j li lj hi hj e = go (dec_lt i j) (dec_lt j i)
      where
        go : Dec (i < j) → Dec (j < i) → i ≡ j
        go (yes l) m = absurd (h j i lj l (ne_eqb _ 0 hj) (ne_eqb _ 0 hi) e)
        go (no l) (yes m) = absurd (h i j li m (ne_eqb _ 0 hi) (ne_eqb _ 0 hj) (sym e))
        go (no l) (no m) = omega arith

    some : (i : ℕ) → i < length (filled ws) → at (filled ws) i ≡ 0 → ⊥
    some i l = (filled_from ws (at (filled ws) i) (i, l, refl)).1

-- what entries are where no word is wrong
module _ (compact : Bool) (k low : ℕ) (ws : List ℕ) (right : RightTo compact k low ws (length ws)) where
  pub right_high : (i : ℕ) → i < length (filled ws) → low + 15 ≤ value (get_or (filled ws) i 0)
  right_high i l = let p = from ws i l in let d = go p.place p.inside p.entry (dec_lt (value (at ws p.place)) (low + 15)) in rw p.is at d
    where
      go : (j : ℕ) → j < length ws → EntryAt ws j → Dec (value (at ws j) < low + 15) → low + 15 ≤ value (at ws j)
      go j m x (yes d) = absurd ((right j m).1.1 (x, d))
      go j m x (no d) = omega arith

  pub right_apart : Apart k (filled ws)
  right_apart = apart_kept k ws (λ i j l d y z h. (right i l).1.0 (y, (j, d, z, h)))

-- ---- nothing is wrong exactly where the entries are what they should be
module _ (compact : Bool) (s : Sketch) (ns ws : List ℕ) where
  abbrev k : ℕ
  k = 2 ^ s.lg_k

  abbrev f : Said
  f = aux_fault compact k s.cur_min s.aux_count ws ns

  abbrev es : List ℕ
  es = filled ws

  -- a slot listed, by the words and by the entries
  list_entry : (i : ℕ) → ListedAt k ws (length ws) i → Listed k es i
  list_entry i (p, d, x, q) = let t = to ws p d x in (at ws p, (rank ws p, t.inside, t.is), q)

  entry_list : (i : ℕ) → Listed k es i → ListedAt k ws (length ws) i
  entry_list i (w, m, q) = let p = from ws m.0 m.1 in (p.place, p.inside, p.entry, ap (home k) (p.is ∙ m.2) ∙ q)

  pub none_entries : f.no ≡ 0 → Entries s ns (filled ws) × ((i : ℕ) → i < length ws → EmptyAt compact ws i → ⊥)
  none_entries z = go z (finds compact k s.cur_min s.aux_count ws ns)
    where
      off : {g : Said} (n p : ℕ) → g ≡ said (suc n) p → g.no ≡ 0 → ⊥
      off n p e q = let r : suc n ≡ 0 = ap (λ (h : Said). h.no) (sym e) ∙ q in omega arith

      go : {g : Said} → g.no ≡ 0 → Finds compact k s.cur_min s.aux_count ws ns g → Entries s ns (filled ws) × ((i : ℕ) → i < length ws → EmptyAt compact ws i → ⊥)
      go q (an_empty i l r p e) = absurd (off 20 i e q)
      go q (a_twice i l r p e) = absurd (off 21 i e q)
      go q (a_low i l r t p e) = absurd (off 22 i e q)
      go q (a_count r c e) = absurd (off 23 0 e q)
      go q (a_slot t r c l x m e) = absurd (off 24 t e q)
      go q (a_none r c x e) = (
        record {
          high = right_high compact k s.cur_min ws r;
          apart = right_apart compact k s.cur_min ws r;
          count = c;
          listed = λ i l h. fifteen i l (entry_list i h) (ℕ_discrete (get_or ns i 0) 15);
          lists = λ i l h. list_entry i (lists i l h);
        },
        λ i l. (r i l).0,
      )
        where
          fifteen : (i : ℕ) → i < k → ListedAt k ws (length ws) i → Dec (get_or ns i 0 ≡ 15) → get_or ns i 0 ≡ 15
          fifteen i l h (yes d) = d
          fifteen i l h (no d) = absurd (x i l (inr (d, h)))

          lists : (i : ℕ) → i < k → get_or ns i 0 ≡ 15 → ListedAt k ws (length ws) i
          lists i l h = by (listed k ws (length ws) i) refl
            where
              by : (b : Bool) → listed k ws (length ws) i ≡ b → ListedAt k ws (length ws) i
              by true e = (listed_tells k ws i (length ws)).0 e
              by false e = absurd (x i l (inl (h, (listed_tells k ws i (length ws)).1 e)))

  pub entries_none : Entries s ns (filled ws) → ((i : ℕ) → i < length ws → EmptyAt compact ws i → ⊥) → f ≡ said 0 0
  entries_none h full = go (finds compact k s.cur_min s.aux_count ws ns)
    where
      twice : (i : ℕ) → i < length ws → TwiceAt k ws i → ⊥
      twice i l (x, (j, d, y, e)) =
          let a = to ws i l x in
          let b = to ws j (omega arith) y in
          let q : rank ws j ≡ rank ws i = h.apart (rank ws j) (rank ws i) b.inside a.inside (ap (home k) b.is ∙ e ∙ ap (home k) (sym a.is)) in
          omega (arith, rises ws j i d y)

      high : (i : ℕ) → i < length ws → EntryAt ws i → s.cur_min + 15 ≤ value (at ws i)
      high i l x = let t = to ws i l x in rw t.is at (h.high (rank ws i) t.inside)

      in_one : (i : ℕ) → i < k → InOne k ws ns i → ⊥
      in_one i l (inl p) = p.1 (entry_list i (h.lists i l p.0))
      in_one i l (inr p) = p.0 (h.listed i l (list_entry i p.1))

      go : {g : Said} → Finds compact k s.cur_min s.aux_count ws ns g → g ≡ said 0 0
      go (an_empty i l r p e) = absurd (full i l p)
      go (a_twice i l r p e) = absurd (twice i l p)
      go (a_low i l r t p e) = absurd (omega (arith, high i l p.0, p.1))
      go (a_count r c e) = absurd (c h.count)
      go (a_slot t r c l x m e) = absurd (in_one t l x)
      go (a_none r c x e) = e

pub aux_none : AuxNone
aux_none = record { entries = none_entries; nothing = entries_none }
