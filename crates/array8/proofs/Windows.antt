-- Registers poured into neighbours alone, and a source poured in part by part, each as long as the target. Assumes nothing.
use mathlib.Core.Path.{◌≡◌, refl, sym, ap, ◌∙◌}
use mathlib.Core.List.{List, [], ◌∷◌, ◌++◌}
use Prim.Native.Nat.{ℕ, suc, max, ◌+◌, ◌-◌, ◌*◌, ◌%◌, ◌^◌, ◌≤◌, ◌<◌}
use native.Mathlib.Nat.{add-suc, suc-add, add-zero, zero-add, zero-mod, mod-eq_of_lt, add-mod_left, add-mul-mod_self_right, sub-add_cancel}
use native.Mathlib.Omega.{arith}
use native.Mathlib.Decide.{dec_lt}
use lib.Bits.{bit_and}
use lib.ListN.{length, get_or, set, take, drop, length-set, length-append, length-drop, get_or-append, take-append-drop}
use lib.Seq.{set-append_left, get_or-append-add, length-take-le}
use borrow.Rule.Slice.PartMut.{put_mid}
use lib.Pow.{pow-add, pow-lt}
use Rattle.std.proofs.lemmas.List.{set-append_right, nil_from_length}
use Rattle.model.specs.Registers.{raise, poured, joined}
use Rattle.model.proofs.registers.Turns.{poured_append}
use Rattle.array8.specs.Asked.{Finer, Blocked}
use Rattle.array8.proofs.Masks.{block_in, block_mask}

-- ---- neighbours M, behind A and before B
module _ (A : List ℕ) where
  raise_behind : (R : List ℕ) (j v : ℕ) → raise (A ++ R) (length A + j) v ≡ A ++ raise R j v
  unfolding raise
  raise_behind R j v =
      rw (get_or-append-add A R j 0) (set-append_right A R (length A) (length A + j) (max (get_or R j 0) v) refl (omega arith) ∙ ap (λ (n : ℕ). A ++ set R n (max (get_or R j 0) v)) (omega arith))

raise_before : (M B : List ℕ) (j v : ℕ) → j < length M → raise (M ++ B) j v ≡ raise M j v ++ B
unfolding raise
raise_before M B j v l = rw (get_or-append M B 0 j l) (set-append_left M B j (max (get_or M j 0) v) l)

length_raise : (R : List ℕ) (s v : ℕ) → length (raise R s v) ≡ length R
unfolding raise
length_raise R s v = simp length-set

-- k registers in all, n of them neighbours: what is for these is poured in as if they stood alone
pub poured_window : (k n : ℕ) (A B M : List ℕ) (i j : ℕ) (vs : List ℕ) → length M ≡ n → ((t : ℕ) → t < length vs → (i + t) % k ≡ length A + (j + t)) → j + length vs ≤ n → poured k (A ++ (M ++ B)) i vs ≡ A ++ (poured n M j vs ++ B)
unfolding poured
poured_window k n A B M i j [] size at fits = refl
poured_window k n A B M i j (v ∷ vs) size at fits =
    let here : i % k ≡ length A + j = ap (λ (x : ℕ). x % k) (sym (add-zero i)) ∙ at 0 (omega arith) ∙ ap (λ (x : ℕ). length A + x) (add-zero j) in
    let inside : j < length M = omega arith in
    let own : j % n ≡ j = mod-eq_of_lt (omega arith) in
    ap (λ (R : List ℕ). poured k R (suc i) vs) (ap (λ (s : ℕ). raise (A ++ (M ++ B)) s v) here ∙ raise_behind A (M ++ B) j v ∙ ap (λ (R : List ℕ). A ++ R) (raise_before M B j v inside))
    ∙ poured_window k n A B (raise M j v) (suc i) (suc j) vs (length_raise M j v ∙ size)
    (λ t l. ap (λ (x : ℕ). x % k) (suc-add i t ∙ sym (add-suc i t)) ∙ at (suc t) (omega arith) ∙ ap (λ (x : ℕ). length A + x) (add-suc j t ∙ sym (suc-add j t)))
    (omega arith)
    ∙ ap (λ (s : ℕ). A ++ (poured n (raise M s v) (suc j) vs ++ B)) (sym own)

-- ---- a whole turn of the target's slots further on they are the same slots
poured_again : (k : ℕ) (T : List ℕ) (i : ℕ) (vs : List ℕ) → poured k T (k + i) vs ≡ poured k T i vs
unfolding poured
poured_again k T i [] = refl
poured_again k T i (v ∷ vs) =
    ap (λ (s : ℕ). poured k (raise T s v) (suc (k + i)) vs) (add-mod_left k i)
    ∙ ap (λ (x : ℕ). poured k (raise T (i % k) v) x vs) (sym (add-suc k i))
    ∙ poured_again k (raise T (i % k) v) (suc i) vs

-- what is left of a source to pour into the k registers T, which leads to all: so many whole parts
pub record Parted (k : ℕ) (T left all : List ℕ) : Type 0 where
  pub size : length T ≡ k
  pub whole : length left % k ≡ 0
  pub leads : joined k T left ≡ all

pub parted_first : (T src : List ℕ) → Finer (length T) (length src) → Parted (length T) T src (joined (length T) T src)
parted_first T src f = record { size = refl; whole = whole; leads = refl }
  where
    coarser : Dec (f.source.lg < f.target.lg) → f.target.lg ≤ f.source.lg
    coarser (yes h) = absurd (omega (arith, f.most, f.target.power, f.source.power, pow-lt h))
    coarser (no h) = omega arith

    whole : length src % length T ≡ 0
    whole =
        rw (f.source.power, f.target.power)
        (let b = f.source.lg in
        let a = f.target.lg in
        ap (λ (n : ℕ). n % 2 ^ a) (ap (λ (e : ℕ). 2 ^ e) (sym (sub-add_cancel (coarser (dec_lt b a)))) ∙ pow-add 2 (b - a) a)
        ∙ ap (λ (n : ℕ). n % 2 ^ a) (sym (zero-add (2 ^ (b - a) * 2 ^ a))) ∙ add-mul-mod_self_right 0 (2 ^ (b - a)) (2 ^ a) ∙ zero-mod (2 ^ a))

module _ {k : ℕ} {T all : List ℕ} where
  pub parted_turn : (part : List ℕ) {left rest S : List ℕ} → Parted k T left all → left ≡ part ++ rest → length part ≡ k → length S ≡ length T → S ≡ joined (length T) T part → Parted k S rest all
  parted_turn part {left} {rest} {S} p e l long s = record {
    size = long ∙ p.size;
    whole = sym (ap (λ (n : ℕ). n % k) (ap length e ∙ length-append part rest ∙ ap (λ (n : ℕ). n + length rest) l) ∙ add-mod_left k (length rest)) ∙ p.whole;
    leads =
        ap (λ (R : List ℕ). joined k R rest) (s ∙ ap (λ (n : ℕ). joined n T part) p.size)
        ∙ sym (poured_again k (joined k T part) 0 rest)
        ∙ ap (λ (n : ℕ). poured k (joined k T part) n rest) (omega (arith, l))
        ∙ sym (poured_append k T 0 part rest) ∙ ap (joined k T) (sym e) ∙ p.leads;
  }

  pub parted_end : {left : List ℕ} → Parted k T left all → length left < k → T ≡ all
  unfolding poured
  parted_end {left} p h = rw (nil_from_length left (sym (mod-eq_of_lt h) ∙ p.whole)) at p.leads

-- ---- n neighbours from the slot f on, and what they hold
abbrev part : List ℕ → ℕ → ℕ → List ℕ
part T f n = take (f + n - f) (drop f T)

part_long : (T : List ℕ) (f n : ℕ) → f + n ≤ length T → length (part T f n) ≡ n
part_long T f n h = length-take-le (f + n - f) (drop f T) (rw (length-drop f T) (omega arith)) ∙ omega arith

-- a block, merged into those that it meets
pub block_window : (T block : List ℕ) {from : ℕ} → Blocked (length T) from (length block) → (f : ℕ) {S : List ℕ} → f ≡ bit_and from (length T - 1) → S ≡ joined (length (part T f (length block))) (part T f (length block)) block → put_mid f (f + length block - f) T S ≡ poured (length T) T from block
block_window T block {from} b f {S} is s =
    let n = length block in
    let M = part T f n in
    let B = drop (f + n - f) (drop f T) in
    let inside : f + n ≤ length T = rw is (block_in b) in
    ap (λ (l : List ℕ). take f T ++ (l ++ B)) s
    ∙ sym (poured_window (length T) (length M) (take f T) B M from 0 block refl (λ t l. sym (block_mask b t l) ∙ omega (arith, is, length-take-le f T (omega (arith, inside)))) (omega (arith, part_long T f n inside)))
    ∙ ap (λ (l : List ℕ). poured (length T) l from block) (ap (λ (l : List ℕ). take f T ++ l) (take-append-drop (f + n - f) (drop f T)) ∙ take-append-drop f T)
