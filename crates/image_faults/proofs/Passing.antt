-- The walk over the words for a window: the marks go on being what is listed, so a turn says what the definition says. Assumes nothing.
use Rattle.std.specs.Prelude.{Option, None, Some, Result, Ok, Err, not, is_some, unwrap_or}
use Rattle.std.specs.Int.{from_bool}
use mathlib.Core.Path.{◌≡◌, refl, sym, ◌∙◌, ap, subst}
use mathlib.Core.Bool.{Bool, true, false}
use mathlib.Core.List.{List}
use Prim.Native.Nat.{ℕ, ◌+◌, ◌/◌, ◌%◌, ◌≤◌, ◌<◌}
use native.Mathlib.Numerals.{add-one}
use native.Mathlib.Omega.{arith}
use lib.Dec.{eqb, leb}
use borrow.Author.Count.{below_none, below_more}
use borrow.Author.Tests.{eqb-true}
use Rattle.model.specs.Pick.{pick, some}
use Rattle.model.specs.Coupon.{value, home, is_empty}
use Rattle.model.specs.Faults.{lists}
use Rattle.image_header.specs.declared.Header.{Header}
use Rattle.image_faults.specs.declared.Fault.{Fault}
use Rattle.image_faults.specs.declared.Fault.TheVariants.{Empty, Twice, Low}
use Rattle.image_faults.specs.Windows.{slots, bit, listed_by, entries_of, fault_by, fault_in, no_of, turn_no, Fifteen, Found, Taken, Turned, Walked, Passed, Clear}
use Rattle.image_faults.proofs.Entries.{entries_none, entries_on}

pub some_wrong : (e : Fault) → no_of (Some e) ≡ 0 → ⊥
some_wrong Empty z = omega arith
some_wrong Twice z = omega arith
some_wrong Low z = omega arith

-- an entry counts
one_of : (none : Bool) → from_bool (not none) ≡ pick none 0 1
one_of true = refl
one_of false = refl

one_most : (none : Bool) → pick none 0 1 ≤ 1
one_most true = omega arith
one_most false = omega arith

-- the marks are what is listed among the first i words
abbrev pub Agrees : Header → ℕ → (ℕ → ℕ) → List ℕ → ℕ → Type 0
Agrees h b f marks i = (s : ℕ) → s / 524288 ≡ b → bit marks (s % 524288) ≡ listed_by (slots h) f i s

module _ {h : Header} {b : ℕ} (f : ℕ → ℕ) (i : ℕ) {g : ℕ → ℕ} {w : ℕ} {marks exit : List ℕ} {r : Result (Option Bool) Fault} (read : w ≡ f i) (agrees : Agrees h b f marks i) (t : Turned h b g marks w r exit) where
  says_fault : turn_no r ≡ fault_in h b f i
  unfolding fault_by fault_in
  says_fault = t.says ∙ ap (λ (x : ℕ). fault_by h b (bit marks (home (slots h) x % 524288)) x) read ∙ go (is_empty (f i)) (eqb (s / 524288) b) refl
    where
      s : ℕ
      s = home (slots h) (f i)

      low : ℕ
      low = pick (leb (h.cur_min + 15) (value (f i))) 0 23

      go : (e c : Bool) → eqb (s / 524288) b ≡ c → pick e (pick h.compact 21 0) (pick c (pick (bit marks (s % 524288)) 22 low) 0) ≡ pick e (pick h.compact 21 0) (pick c (pick (listed_by (slots h) f i s) 22 low) 0)
      go true c q = refl
      go false true q = ap (λ (x : Bool). pick x 22 low) (agrees s (eqb-true (s / 524288) b q))
      go false false q = refl

agrees_on : {h : Header} {b : ℕ} (f : ℕ → ℕ) (i : ℕ) {g : ℕ → ℕ} {w : ℕ} {marks exit : List ℕ} {r : Option Bool} → w ≡ f i → Agrees h b f marks i → Taken h b g marks w r exit → Agrees h b f exit (i + 1)
unfolding some
agrees_on {h} f i read agrees t s l = t.marked s l ∙ rw (read, add-one) (ap (pick (lists (slots h) s (f i)) true) (agrees s l))

-- what is known before word i
pub record Passing (h : Header) (b : ℕ) (f g : ℕ → ℕ) (limit : ℕ) (marks : List ℕ) (even : Bool) (n i : ℕ) : Type 0 where
  pub upto : i ≤ limit
  pub few : n ≤ i
  pub counted : n ≡ entries_of f i
  pub before : (m : ℕ) → m < i → fault_in h b f m ≡ 0
  pub evens : even ≡ true → (m : ℕ) → m < i → Fifteen h b g (f m)
  pub agrees : Agrees h b f marks i

pub pass_none : {h : Header} {b : ℕ} {f g : ℕ → ℕ} {limit : ℕ} {marks : List ℕ} → Clear h marks → Passing h b f g limit marks true 0 0
unfolding some
pass_none {f = f} c =
    record { upto = omega arith; few = omega arith; counted = entries_none f; before = below_none _; evens = λ e. below_none _; agrees = λ s l. c.clear (s % 524288) }

module _ {h : Header} {b : ℕ} {f g : ℕ → ℕ} {limit : ℕ} {marks : List ℕ} {even : Bool} {n i : ℕ} (p : Passing h b f g limit marks even n i) where
  walked : {r : Option Fault} → Found (fault_in h b f) limit (no_of r) i → Walked h b f g limit (record { fault = r; at = i; entries = n; even = even })
  walked found = record { found = found; counted = p.counted; evens = p.evens }

  pub pass_ends : i ≡ limit → Passed h b f g limit (record { fault = None; at = limit; entries = n; even = even }) marks
  pass_ends e =
      let done : Passed h b f g limit (record { fault = None; at = i; entries = n; even = even }) marks = record {
        walked = walked {r = None} (record { upto = p.upto; before = p.before; none = λ z. e; here = λ x. absurd (x refl) });
        marked = λ z s d. p.agrees s d ∙ ap (λ (m : ℕ). listed_by (slots h) f m s) e;
      }
      in subst (λ (m : ℕ). Passed h b f g limit (record { fault = None; at = m; entries = n; even = even }) marks) e done

  module _ (more : i < limit) {w : ℕ} {exit : List ℕ} (read : w ≡ f i) where
    pub pass_stops : {e : Fault} → Turned h b g marks w (Err e) exit → Passed h b f g limit (record { fault = Some e; at = i; entries = n; even = even }) exit
    pass_stops {e} t =
        record {
          walked = walked {r = Some e} (record { upto = p.upto; before = p.before; none = λ z. absurd (some_wrong e z); here = λ x. (more, says_fault f i read p.agrees t) });
          marked = λ z. absurd (some_wrong e z);
        }

    pub pass_on : {r : Option Bool} → Turned h b g marks w (Ok r) exit → {even' : Bool} → (even' ≡ true → (even ≡ true) × (unwrap_or r true ≡ true)) → {m : ℕ} → m ≡ n + from_bool (is_some r) → Passing h b f g limit exit even' m (i + 1)
    pass_on {r} t both {m} is =
        let adds : from_bool (is_some r) ≡ pick (is_empty w) 0 1 = ap from_bool t.taken.counted ∙ one_of (is_empty w) in
        record {
          upto = omega arith;
          few = omega (arith, is, p.few, adds, one_most (is_empty w));
          counted = is ∙ entries_on f i p.counted read adds;
          before = below_more _ _ p.before (sym (says_fault f i read p.agrees t));
          evens = λ e. below_more _ _ (p.evens (both e).0) (rw read at (t.taken.even (both e).1));
          agrees = agrees_on f i read p.agrees t.taken;
        }
