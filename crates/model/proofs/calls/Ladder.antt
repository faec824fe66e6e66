-- Ladders of refusals: a ladder is 0 exactly where each of its rungs is, and a rung exactly where its test says so. Assumes nothing.
use mathlib.Core.Path.{◌≡◌, refl, sym, ap, ◌∙◌}
use mathlib.Core.Bool.{Bool, true, false}
use mathlib.Core.List.{List, [], ◌∷◌, ◌++◌}
use Prim.Native.Nat.{ℕ, suc, ◌≤◌}
use native.Mathlib.Omega.{arith}
use lib.Dec.{eqb}
use lib.ListN.{length}
use borrow.Author.Tests.{eqb-true, eqb-false, eq-eqb, ne_eqb}
use Rattle.model.specs.Pick.{pick, first_of, Tells}
use Rattle.model.specs.Answers.{Said, said}
use Rattle.model.specs.Sketch.{is_kind, bytes_of, Shaped}
use Rattle.model.specs.Check.{good_of, lgk_no, size_no, shape_no, check_no}
use Rattle.model.specs.Claims.{Unless, refused, passed}
use Rattle.model.specs.declared.Sketch.{Sketch}
use Rattle.model.proofs.order.Tells.{tells_pass, tells_both, tells_le, tells_eq}

-- a number is no refusal exactly where P
abbrev pub Says : ℕ → Type 0 → Type 0
Says n P = (n ≡ 0 → P) × (P → n ≡ 0)

pub says_as : {P Q : Type 0} (n : ℕ) → Says n P → (P → Q) → (Q → P) → Says n Q
says_as n x f g = ((λ e. f (x.0 e)), λ q. x.1 (g q))

-- a refusal of its own
pub says_self : (n : ℕ) → Says n (n ≡ 0)
says_self n = ((λ e. e), λ e. e)

-- a rung that a passed test goes on from, with the refusal n + 1
pub says_pass : {P : Type 0} (b : Bool) (n : ℕ) → Tells b P → Says (pick b 0 (suc n)) P
says_pass true n x = ((λ e. x.0 refl), λ p. refl)
says_pass false n x = ((λ e. absurd (omega arith)), λ p. absurd (x.1 refl p))

pub says_last : Says (first_of []) (Unit {0})
unfolding first_of
says_last = ((λ e. tt), λ u. refl)

pub says_next : {P Q : Type 0} (n : ℕ) (ns : List ℕ) → Says n P → Says (first_of ns) Q → Says (first_of (n ∷ ns)) (P × Q)
unfolding first_of
says_next {P} {Q} n ns x y = (down (eqb n 0) refl, λ p. rw (eq-eqb n 0 (x.1 p.0)) (y.1 p.1))
  where
    down : (b : Bool) → eqb n 0 ≡ b → pick b (first_of ns) n ≡ 0 → P × Q
    down true q e = (x.0 (eqb-true n 0 q), y.0 e)
    down false q e = absurd (eqb-false n 0 q e)

-- a ladder inside a ladder is one ladder
pub first_append : (ms ns : List ℕ) → first_of (first_of ms ∷ ns) ≡ first_of (ms ++ ns)
unfolding first_of
first_append [] ns = refl
first_append (m ∷ ms) ns = go (first_append ms ns) (eqb m 0) refl
  where
    go : first_of (first_of ms ∷ ns) ≡ first_of (ms ++ ns) → (b : Bool) → eqb m 0 ≡ b → pick (eqb (pick b (first_of ms) m) 0) (first_of ns) (pick b (first_of ms) m) ≡ pick b (first_of (ms ++ ns)) m
    go ih true q = ih
    go ih false q = rw q

pub first_tail : (ms xs ys : List ℕ) → first_of xs ≡ first_of ys → first_of (ms ++ xs) ≡ first_of (ms ++ ys)
unfolding first_of
first_tail [] xs ys e = e
first_tail (m ∷ ms) xs ys e = ap (λ (n : ℕ). pick (eqb m 0) n m) (first_tail ms xs ys e)

pub first_inside : (ms xs ys : List ℕ) → first_of xs ≡ first_of ys → first_of (first_of ms ∷ xs) ≡ first_of (ms ++ ys)
first_inside ms xs ys e = first_append ms xs ∙ first_tail ms xs ys e

pub first_one : (n : ℕ) → first_of (n ∷ []) ≡ n
unfolding first_of
first_one n = go (eqb n 0) refl
  where
    go : (b : Bool) → eqb n 0 ≡ b → pick b 0 n ≡ n
    go true q = sym (eqb-true n 0 q)
    go false q = refl

-- a line of the table decides, or hands on with what it asked
pub unless : {Q : Type 0} {next : ℕ → Type 0} (b : Bool) (n : ℕ) (ns : List ℕ) → Tells b Q → (Q → next (first_of ns)) → Unless (suc n) Q next (first_of (pick b 0 (suc n) ∷ ns))
unfolding first_of
unless true n ns t f = passed (t.0 refl) (f (t.0 refl))
unless false n ns t f = refused (t.1 refl) (rw (ne_eqb (suc n) 0 (λ e. omega arith)))

-- a number with the place that goes by it
abbrev pub said_by : (ℕ → ℕ) → ℕ → Said
said_by place n = said n (place n)

-- the same of a line that names no place, among lines that may
pub plain : (place : ℕ → ℕ) {Q : Type 0} {next : Said → Type 0} (b : Bool) (n : ℕ) (ns : List ℕ) → place (suc n) ≡ 0 → Tells b Q → (Q → next (said_by place (first_of ns)))
    → Unless (said (suc n) 0) Q next (said_by place (first_of (pick b 0 (suc n) ∷ ns)))
unfolding first_of
plain place true n ns z t f = passed (t.0 refl) (f (t.0 refl))
plain place false n ns z t f = refused (t.1 refl) (rw (ne_eqb (suc n) 0 (λ e. omega arith), z))

-- ---- the refusals that all calls share
pub lgk_says : (lgk : ℕ) → Says (lgk_no lgk) ((4 ≤ lgk) × (lgk ≤ 21))
unfolding lgk_no
lgk_says lgk = says_pass _ 1 (tells_both _ _ (tells_le 4 lgk) (tells_le lgk 21))

pub size_says : (kind lgk len : ℕ) → Says (size_no kind lgk len) (len ≡ bytes_of kind lgk)
unfolding size_no
size_says kind lgk len = says_pass _ 2 (tells_eq len (bytes_of kind lgk))

pub shape_says : (kind lgk len : ℕ) → Says (shape_no kind lgk len) (Shaped kind lgk len)
unfolding shape_no
shape_says kind lgk len =
    says_as _ (says_next _ _ (says_pass _ 0 (tells_pass (is_kind kind))) (says_next _ _ (lgk_says lgk) (says_next _ _ (size_says kind lgk len) says_last)))
    (λ p. search) (λ h. search)

pub check_says : (lent : Bool) (s : Sketch) (regs aux : List ℕ) → Says (check_no lent s regs aux) (Shaped s.kind s.lg_k (length regs) × ((lent ≡ true) × (good_of s regs aux ≡ true)))
unfolding check_no
check_says lent s regs aux =
    says_as _ (says_next _ _ (shape_says _ _ _) (says_next _ _ (says_pass _ 2 (tells_pass lent)) (says_next _ _ (says_pass _ 3 (tells_pass (good_of s regs aux))) says_last)))
    (λ p. search) (λ p. search)
