-- What `insert` keeps: size, load, good order, and the table as a map from slots to words. Assumes nothing.
use mathlib.Core.Path.{◌≡◌, refl, sym, ◌∙◌, ap, ap₂, subst}
use mathlib.Core.Bool.{Bool, true, false}
use mathlib.Core.Logic.{◌⊎◌, inl, inr}
use mathlib.Core.List.{List}
use Prim.Native.Nat.{ℕ, suc, ◌+◌, ◌*◌, ◌^◌, ◌≤◌, ◌<◌}
use native.Mathlib.Nat.{pow-suc, mul_assoc, mul-le-mul_left, eq-or-lt_of_le, le_of_suc-le-suc}
use native.Mathlib.Omega.{arith}
use native.Mathlib.Decide.{dec_lt}
use lib.ListN.{length}
use lib.Dec.{leb}
use lib.Pow.{pow_pos}
use borrow.Author.Tests.{le-leb, lt-leb, leb-true, leb-false}
use Rattle.model.specs.Pick.{first, pick}
use Rattle.model.specs.Table.{Room, Reached, Member, Kept, word_at, replace, grown, used, insert, size_for}
use Rattle.model.specs.Coupon.{slot}
use Rattle.model.proofs.table.FirstLaws.{first_is, first_holds, first_before}
use Rattle.model.proofs.table.Refill.{room_of, double_size}
use Rattle.model.proofs.table.Order.{length_replace, fresh_good, fresh_new, fresh_old, fresh_inv, more_same, more_other}
use Rattle.model.proofs.table.Grown.{used_fresh, length_grown, grown_good, grown_room, grown_to, grown_from, used_grown}

-- ---- the size
-- how often the base is doubled for count words
abbrev doublings : ℕ → ℕ → ℕ
doublings base count = first (λ n. leb (4 * count) (3 * (base * 2 ^ n))) 32

pub twice_size : (base n : ℕ) → base * 2 ^ suc n ≡ base * 2 ^ n + base * 2 ^ n
twice_size base n = ap (λ (x : ℕ). base * x) (pow-suc 2 n) ∙ sym (mul_assoc base (2 ^ n) 2) ∙ omega arith

module _ (base count : ℕ) (few : count < 2 ^ 26) (four : 4 ≤ base) where
  least : doublings base count < 32
  least = go (dec_lt (doublings base count) 32)
    where
      go : Dec (doublings base count < 32) → doublings base count < 32
      go (yes h) = h
      go (no h) =
          let big : 3 * (base * 2 ^ 31) < 4 * count = leb-false (4 * count) (3 * (base * 2 ^ 31)) (first_before (λ n. leb (4 * count) (3 * (base * 2 ^ n))) 32 31 (omega arith)) in
          absurd (omega arith)

  pub size_fits : 4 * count ≤ 3 * size_for base count
  unfolding size_for
  size_fits = leb-true _ _ (first_holds (λ n. leb (4 * count) (3 * (base * 2 ^ n))) 32 least)

  -- a size is that of count words where it holds them and no smaller doubling does
  pub size_is : (n : ℕ) → n < 32 → 4 * count ≤ 3 * (base * 2 ^ n) → ((m : ℕ) → m < n → 3 * (base * 2 ^ m) < 4 * count) → size_for base count ≡ base * 2 ^ n
  unfolding size_for
  size_is n l h b = ap (λ (k : ℕ). base * 2 ^ k) (first_is (λ m. leb (4 * count) (3 * (base * 2 ^ m))) 32 n l (le-leb _ _ h) (λ m k. lt-leb _ _ (b m k)))

  -- one word more: the same size or twice it
  pub size_stays : 4 * suc count ≤ 3 * size_for base count → size_for base (suc count) ≡ size_for base count
  unfolding size_for
  size_stays h =
      ap (λ (k : ℕ). base * 2 ^ k)
      (first_is (λ m. leb (4 * suc count) (3 * (base * 2 ^ m))) 32 _ least (le-leb _ _ h)
      (λ m k. let b : 3 * (base * 2 ^ m) < 4 * count = leb-false _ _ (first_before (λ n. leb (4 * count) (3 * (base * 2 ^ n))) 32 m k) in lt-leb (4 * suc count) (3 * (base * 2 ^ m)) (omega arith)))

  pub size_doubles : suc count < 2 ^ 26 → 4 * count ≤ 3 * size_for base count → 3 * size_for base count < 4 * suc count → size_for base (suc count) ≡ size_for base count + size_for base count
  unfolding size_for
  size_doubles few' l h = ap (λ (k : ℕ). base * 2 ^ k) (first_is (λ m. leb (4 * suc count) (3 * (base * 2 ^ m))) 32 (suc (doublings base count)) (room (dec_lt (suc (doublings base count)) 32)) enough before) ∙ twice_size base (doublings base count)
    where
      room : Dec (suc (doublings base count) < 32) → suc (doublings base count) < 32
      room (yes k) = k
      room (no k) =
          let last : doublings base count ≡ 31 = omega (arith, least) in
          let big : 3 * (base * 2 ^ 31) < 4 * suc count = subst (λ (m : ℕ). 3 * (base * 2 ^ m) < 4 * suc count) last h in
          absurd (omega arith)

      enough : leb (4 * suc count) (3 * (base * 2 ^ suc (doublings base count))) ≡ true
      enough =
          le-leb (4 * suc count) (3 * (base * 2 ^ suc (doublings base count)))
          (omega (arith, l, twice_size base (doublings base count), mul-le-mul_left base (pow_pos (doublings base count))))

      before : (m : ℕ) → m < suc (doublings base count) → leb (4 * suc count) (3 * (base * 2 ^ m)) ≡ false
      before m k = go (eq-or-lt_of_le (le_of_suc-le-suc k))
        where
          go : (m ≡ doublings base count) ⊎ (m < doublings base count) → leb (4 * suc count) (3 * (base * 2 ^ m)) ≡ false
          go (inl e) = lt-leb (4 * suc count) (3 * (base * 2 ^ m)) (subst (λ (j : ℕ). 3 * (base * 2 ^ j) < 4 * suc count) (sym e) h)
          go (inr j) =
              let b : 3 * (base * 2 ^ m) < 4 * count = leb-false (4 * count) (3 * (base * 2 ^ m)) (first_before (λ n. leb (4 * count) (3 * (base * 2 ^ n))) 32 m j) in
              lt-leb (4 * suc count) (3 * (base * 2 ^ m)) (omega arith)

-- ---- a kept table has room
pub kept_size : (base : ℕ) (t : List ℕ) → Kept base t → 4 ≤ base → 4 ≤ length t
unfolding size_for
kept_size base t kept four = omega (arith, four, kept.sized, mul-le-mul_left base (pow_pos (doublings base (used t))))

pub kept_room : (base : ℕ) (t : List ℕ) → Kept base t → 4 ≤ base → Room t
kept_room base t kept four = room_of t kept.lg kept.power (omega (arith, kept_size base t kept four, kept.load))

-- ---- a word inserted for a slot that the table has not
module _ (base : ℕ) (t : List ℕ) (w : ℕ) (kept : Kept base t) (four : 4 ≤ base) (few : suc (used t) < 2 ^ 26) (some : w ≡ 0 → ⊥) (absent : word_at t (slot w) ≡ 0) where
  size4 : 4 ≤ length t
  size4 = kept_size base t kept four

  room : Room t
  room = kept_room base t kept four

  one_more : used (replace t w) ≡ suc (used t)
  one_more = used_fresh t w room some absent

  good' : Reached (replace t w)
  good' = fresh_good t w room some absent kept.good

  power' : length (replace t w) ≡ 2 ^ kept.lg
  power' = length_replace t w ∙ kept.power

  -- what holds of the table with the word, grown or not, holds after `insert`
  cases : (P : List ℕ → Type 0) → (4 * used (replace t w) ≤ 3 * length t → P (replace t w)) → (3 * length t < 4 * used (replace t w) → P (grown (replace t w))) → P (insert t w)
  unfolding insert
  cases P stay grow = go (leb (4 * used (replace t w)) (3 * length t)) refl
    where
      go : (b : Bool) → leb (4 * used (replace t w)) (3 * length t) ≡ b → P (pick b (replace t w) (grown (replace t w)))
      go true e = stay (leb-true _ _ e)
      go false e = grow (leb-false _ _ e)

  pub insert_used : used (insert t w) ≡ suc (used t)
  insert_used = cases (λ u. used u ≡ suc (used t)) (λ h. one_more) (λ h. used_grown (replace t w) kept.lg power' good' ∙ one_more)

  pub insert_kept : Kept base (insert t w)
  insert_kept = cases (Kept base) stay grow
    where
      stay : 4 * used (replace t w) ≤ 3 * length t → Kept base (replace t w)
      stay h = record {
        lg = kept.lg;
        power = power';
        sized = length_replace t w ∙ kept.sized ∙ sym (size_stays base (used t) (omega arith) four (omega (arith, h, one_more, kept.sized))) ∙ ap (size_for base) (sym one_more);
        load = omega (arith, h, length_replace t w);
        good = good';
      }

      grow : 3 * length t < 4 * used (replace t w) → Kept base (grown (replace t w))
      grow h =
          let same : used (grown (replace t w)) ≡ suc (used t) = used_grown (replace t w) kept.lg power' good' ∙ one_more in
          let long : length (grown (replace t w)) ≡ length t + length t = length_grown (replace t w) ∙ ap₂ ◌+◌ (length_replace t w) (length_replace t w) in
          record {
            lg = suc kept.lg;
            power = length_grown (replace t w) ∙ double_size (replace t w) kept.lg power';
            sized =
                long ∙ ap₂ ◌+◌ kept.sized kept.sized
                ∙ sym (size_doubles base (used t) (omega arith) four few (omega (arith, kept.load, kept.sized)) (omega (arith, h, one_more, kept.sized)))
                ∙ ap (size_for base) (sym same);
            load = omega (arith, long, same, kept.load, size4);
            good = grown_good (replace t w) kept.lg power' good';
          }

  pub insert_room : Room (insert t w)
  insert_room =
      cases Room (λ h. room_of (replace t w) kept.lg power' (omega (arith, h, length_replace t w, size4))) (λ h. grown_room (replace t w) kept.lg power' good')

  -- its words: the new one and those that it had. (The table with the word may be full before it is grown, so it yields nothing itself.)
  pub insert_to : (x : ℕ) → (x ≡ 0 → ⊥) → (x ≡ w) ⊎ Member t x → Member (insert t w) x
  insert_to x hx m = cases (λ u. Member u x) (λ h. ins m) (λ h. grown_to (replace t w) kept.lg power' good' x hx (ins m))
    where
      ins : (x ≡ w) ⊎ Member t x → Member (replace t w) x
      ins (inl e) = subst (Member (replace t w)) (sym e) (fresh_new t w room some absent)
      ins (inr k) = fresh_old t w room some absent x hx k

  pub insert_from : (x : ℕ) → (x ≡ 0 → ⊥) → Member (insert t w) x → (x ≡ w) ⊎ Member t x
  insert_from x hx =
      cases (λ u. Member u x → (x ≡ w) ⊎ Member t x) (λ h m. fresh_inv t w room some absent x m)
      (λ h m. fresh_inv t w room some absent x (grown_from (replace t w) kept.lg power' good' x hx m))

  -- as a map from slots to words: w at its slot, and the others as they were
  pub insert_same : word_at (insert t w) (slot w) ≡ w
  insert_same = more_same t (insert t w) w room insert_room kept.good insert_kept.good some insert_to insert_from

  pub insert_other : (sl : ℕ) → (sl ≡ slot w → ⊥) → word_at (insert t w) sl ≡ word_at t sl
  insert_other = more_other t (insert t w) w room insert_room kept.good insert_kept.good some insert_to insert_from
