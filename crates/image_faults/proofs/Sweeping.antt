-- Windows one after the other: what is wrong in none of them is not wrong, and what is wrong in one is so in the book. Assumes nothing.
use Rattle.std.specs.Prelude.{Option, None, Some}
use Rattle.std.specs.Option.{option_or}
use mathlib.Core.Path.{◌≡◌, refl, sym, ◌∙◌, ap, ap₂, subst}
use mathlib.Core.Bool.{Bool, true, false}
use mathlib.Core.List.{List}
use Prim.Native.Nat.{ℕ, ◌+◌, ◌*◌, ◌/◌, ◌≤◌, ◌<◌, min, zero-le}
use native.Mathlib.Nat.{le_refl}
use native.Mathlib.Decide.{ℕ_discrete}
use native.Mathlib.Omega.{arith}
use lib.Dec.{eqb, leb}
use lib.ListN.{length, get_or}
use borrow.Author.Count.{below_more}
use borrow.Author.Tests.{eq-eqb}
use Rattle.model.specs.Pick.{pick, differ}
use Rattle.model.specs.Coupon.{value, home, is_empty}
use Rattle.model.specs.Faults.{lists, listed, fault_at}
use Rattle.coupon.proofs.Masks.{home_in}
use Rattle.image_header.specs.declared.Header.{Header}
use Rattle.image_faults.specs.declared.Fault.{Fault}
use Rattle.image_faults.specs.declared.View.{View}
use Rattle.image_faults.specs.Windows.{slots, listed_by, entries_of, no_of, fault_by, fault_in, Fifteen, unmatched_by, Found, LeastIn, Viewed, Sweeping, Swept}
use Rattle.image_faults.proofs.Firsts.{some_same}
use Rattle.image_faults.proofs.Passing.{some_wrong}
use Rattle.image_faults.proofs.Entries.{entries_same, entries_filled}
use Rattle.image_faults.proofs.Leasts.{within_same, within_on}

pub sweep_none : {look : Bool} {h : Header} {f g : ℕ → ℕ} {many : ℕ} → Sweeping look h f g many 0 0 many 0 true None
sweep_none = record {
  upto = omega arith;
  before = λ i l c d. absurd (omega arith);
  none = λ z. refl;
  here = λ x. absurd (x refl);
  counted = λ l. absurd (omega arith);
  evens = λ e i l c d. absurd (omega arith);
  least = λ y z. record { least = record { low = zero-le; upto = le_refl _; before = λ t l m. absurd (omega arith); here = λ l. absurd (omega arith) }; inside = tt };
}

-- the later fault, if there is one
pub later : (new old : Option Fault) → (no_of new ≡ 0 → no_of (option_or new old) ≡ no_of old) × ((no_of new ≡ 0 → ⊥) → no_of (option_or new old) ≡ no_of new)
later (Some e) old = ((λ z. absurd (some_wrong e z)), λ x. refl)
later None old = ((λ z. refl), λ x. absurd (x refl))

module _ {look : Bool} {h : Header} {f g : ℕ → ℕ} {many b n at entries : ℕ} {even : Bool} {slot : Option ℕ} (s : Sweeping look h f g many b n at entries even slot) where
  -- one window more
  pub sweep_on : b * 524288 < slots h → {v : View} → Viewed look h b f g at v
      → {m : ℕ} → (no_of v.walk.fault ≡ 0 → m ≡ n) × ((no_of v.walk.fault ≡ 0 → ⊥) → m ≡ no_of v.walk.fault)
      → {even' : Bool} → (even' ≡ true → (even ≡ true) × (v.walk.even ≡ true))
      → Sweeping look h f g many (b + 1) m v.walk.at v.walk.entries even' (option_or slot v.slot)
  sweep_on inside {v} w {m} is evens = record {
    upto = omega (arith, s.upto, found.upto);
    before = λ i l. below_more _ _ (s.before i (omega (arith, found.upto))) (found.before i l);
    none = λ z. let q = clean z in found.none q.0 ∙ s.none q.1;
    here = λ x. here x (ℕ_discrete (no_of v.walk.fault) 0);
    counted = λ l. w.walked.counted;
    evens = λ e i l. below_more _ _ (s.evens (evens e).0 i (omega (arith, found.upto))) (w.walked.evens (evens e).1 i l);
    least = λ y z.
        let q = clean z in
        within_on (omega arith) slot v.slot
        (subst (λ (k : ℕ). LeastIn (unmatched_by h f g many) 0 k slot) (omega arith) (s.least y q.1))
        (subst (λ (k : ℕ). LeastIn (unmatched_by h f g k) (b * 524288) (min ((b + 1) * 524288) (slots h)) v.slot) (s.none q.1) (w.least y q.0));
  }
    where
      found : Found (fault_in h b f) at (no_of v.walk.fault) v.walk.at
      found = w.walked.found

      clean : m ≡ 0 → (no_of v.walk.fault ≡ 0) × (n ≡ 0)
      clean z = go (ℕ_discrete (no_of v.walk.fault) 0)
        where
          go : Dec (no_of v.walk.fault ≡ 0) → (no_of v.walk.fault ≡ 0) × (n ≡ 0)
          go (yes e) = (e, sym (is.0 e) ∙ z)
          go (no d) = absurd (d (sym (is.1 d) ∙ z))

      here : (m ≡ 0 → ⊥) → Dec (no_of v.walk.fault ≡ 0) → (v.walk.at < many) × (c : ℕ) × (m ≡ fault_in h c f v.walk.at)
      here x (yes e) =
          let o = s.here (λ z. x (is.0 e ∙ z)) in
          let q = found.none e in
          (omega (arith, o.0), o.1, is.0 e ∙ o.2 ∙ ap (fault_in h o.1 f) (sym q))
      here x (no d) = let o = found.here d in (omega (arith, o.0, s.upto), b, is.1 d ∙ o.1)

  -- the words are a list's, and the nibbles
  module _ (ws ns : List ℕ) (long : length ws ≡ many) (reads : (i : ℕ) → i < many → f i ≡ get_or ws i 0) (nibbles : (t : ℕ) → t < slots h → g t ≡ get_or ns t 0) where
    abbrev book : ℕ → ℕ
    book i = fault_at h.compact (slots h) h.cur_min ws i

    same_listed : (i : ℕ) → i ≤ many → (t : ℕ) → listed_by (slots h) f i t ≡ listed (slots h) ws i t
    same_listed i l t = some_same (λ j. lists (slots h) t (f j)) (λ j. lists (slots h) t (get_or ws j 0)) i (λ j d. ap (lists (slots h) t) (reads j (omega arith)))

    -- a window has the empty words and its own
    abbrev mine : ℕ → ℕ → Bool
    mine c w = pick (is_empty w) true (eqb (home (slots h) w / 524288) c)

    fault_mine : (c i : ℕ) → i < many → fault_in h c f i ≡ pick (mine c (get_or ws i 0)) (book i) 0
    unfolding fault_in fault_by fault_at
    fault_mine c i l =
        ap₂ (λ (b : Bool) (w : ℕ). fault_by h c b w) (ap (λ (w : ℕ). listed_by (slots h) f i (home (slots h) w)) (reads i l) ∙ same_listed i (omega arith) (home (slots h) w)) (reads i l)
        ∙ go (is_empty w) (eqb (home (slots h) w / 524288) c)
      where
        w : ℕ
        w = get_or ws i 0

        x : ℕ
        x = pick h.compact 21 0

        y : ℕ
        y = pick (listed (slots h) ws i (home (slots h) w)) 22 (pick (leb (h.cur_min + 15) (value w)) 0 23)

        go : (e d : Bool) → pick e x (pick d y 0) ≡ pick (pick e true d) (pick e x y) 0
        go true d = refl
        go false true = refl
        go false false = refl

    fault_own : (i : ℕ) → i < many → fault_in h (home (slots h) (get_or ws i 0) / 524288) f i ≡ book i
    fault_own i l = fault_mine (home (slots h) w / 524288) i l ∙ go (is_empty w)
      where
        w : ℕ
        w = get_or ws i 0

        go : (e : Bool) → pick (pick e true (eqb (home (slots h) w / 524288) (home (slots h) w / 524288))) (book i) 0 ≡ book i
        go true = refl
        go false = rw (eq-eqb (home (slots h) w / 524288) (home (slots h) w / 524288) refl) refl

    fault_some : (c i n : ℕ) → i < many → n ≡ fault_in h c f i → (n ≡ 0 → ⊥) → n ≡ book i
    fault_some c i n l e ne = go (mine c (get_or ws i 0)) (e ∙ fault_mine c i l)
      where
        go : (d : Bool) → n ≡ pick d (book i) 0 → n ≡ book i
        go true q = q
        go false q = absurd (ne q)

    pub sweep_ends : {fault : Option Fault} → n ≡ no_of fault → slots h ≤ b * 524288 → Swept look h ws ns (record { walk = record { fault = fault; at = at; entries = entries; even = even }; slot = slot })
    sweep_ends is all = record {
      found = record {
        upto = omega (arith, s.upto);
        before = λ i l. sym (fault_own i (omega (arith, s.upto))) ∙ s.before i l (window i) (below i);
        none = λ z. s.none (is ∙ z) ∙ sym long;
        here = λ x. let o = s.here (λ z. x (sym is ∙ z)) in (omega (arith, o.0), sym is ∙ fault_some o.1 at n o.0 o.2 (λ z. x (sym is ∙ z)));
      };
      counted = λ z.
          s.counted (omega (arith, home_in h.lg_k 0)) ∙ ap (entries_of f) (s.none (is ∙ z)) ∙ entries_same f (λ i. get_or ws i 0) many reads
          ∙ ap (entries_of (λ i. get_or ws i 0)) (sym long) ∙ entries_filled ws;
      evens = λ z e i l some.
          let r = reads i (omega arith) in
          sym (nibbles (home (slots h) (get_or ws i 0)) (home_in h.lg_k (get_or ws i 0)))
          ∙ subst (Fifteen h (window i) g) r (s.evens e i (omega (arith, s.none (is ∙ z))) (window i) (below i)) some refl;
      least = λ y z.
          within_same (λ t m l. ap₂ (λ (v : ℕ) (d : Bool). differ (eqb v 15) d) (sym (nibbles t l)) (ap (λ (j : ℕ). listed (slots h) ws j t) long ∙ sym (same_listed many (omega arith) t)))
          (subst (λ (k : ℕ). LeastIn (unmatched_by h f g many) 0 k slot) (omega arith) (s.least y (is ∙ z)));
    }
      where
        window : ℕ → ℕ
        window i = home (slots h) (get_or ws i 0) / 524288

        below : (i : ℕ) → window i < b
        below i = omega (arith, home_in h.lg_k (get_or ws i 0))

-- the first window, after none
pub first_window : {look : Bool} {h : Header} {f g : ℕ → ℕ} {many : ℕ} {v : View} → Viewed look h 0 f g many v
    → Sweeping look h f g many 1 (no_of v.walk.fault) v.walk.at v.walk.entries v.walk.even v.slot
first_window {h = h} w = sweep_on sweep_none (omega (arith, home_in h.lg_k 0)) w ((λ z. z), λ x. refl) (λ e. (refl, e))
