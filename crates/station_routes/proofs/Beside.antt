-- Two histories go on side by side: one on the even numbers, the other on the odd ones. Assumes nothing.
use mathlib.Core.Path.{◌≡◌, refl, ap, ◌∙◌, fun_ext}
use mathlib.Core.Bool.{Bool, true, false}
use mathlib.Core.List.{List, [], ◌∷◌, ◌++◌, map}
use Prim.Native.Nat.{ℕ, ◌+◌, ◌*◌}
use native.Mathlib.Omega.{arith}
use lib.Dec.{eqb}
use borrow.Author.Tests.{eqb-true, eqb-false, eq-eqb, ne_eqb}
use Rattle.model.specs.History.{none, World, Call, start, feed, feed_image, merge, send, step, after, run}

-- calls after calls
pub after_append : (w : World) (cs ds : List Call) → after w (cs ++ ds) ≡ after (after w cs) ds
unfolding after
after_append w [] ds = refl
after_append w (c ∷ cs) ds = after_append (step w c) cs ds

-- the same call on sketches that go by other numbers
renamed : (ℕ → ℕ) → Call → Call
renamed f (start n kind lgk regs aux) = start (f n) kind lgk regs aux
renamed f (feed n scratch cs) = feed (f n) scratch cs
renamed f (feed_image n scratch l) = feed_image (f n) scratch l
renamed f (merge n m) = merge (f n) (f m)
renamed f (send n m buf regs aux scratch) = send (f n) (f m) buf regs aux scratch

module _ (f : ℕ → ℕ) (one : (i j : ℕ) → f i ≡ f j → i ≡ j) where
  same_number : (i j : ℕ) → eqb (f i) (f j) ≡ eqb i j
  same_number i j = go (eqb i j) refl
    where
      go : (b : Bool) → eqb i j ≡ b → eqb (f i) (f j) ≡ b
      go true q = eq-eqb _ _ (ap f (eqb-true i j q))
      go false q = ne_eqb _ _ (λ e. eqb-false i j q (one i j e))

  step_renamed : (w : World) (c : Call) (i : ℕ) → step w (renamed f c) (f i) ≡ step (λ j. w (f j)) c i
  unfolding step renamed
  step_renamed w (start n kind lgk regs aux) i = rw same_number
  step_renamed w (feed n scratch cs) i = rw same_number
  step_renamed w (feed_image n scratch l) i = rw same_number
  step_renamed w (merge n m) i = rw same_number
  step_renamed w (send n m buf regs aux scratch) i = rw same_number

  -- they do there what they did
  after_renamed : (w : World) (cs : List Call) (i : ℕ) → after w (map (renamed f) cs) (f i) ≡ after (λ j. w (f j)) cs i
  unfolding after
  after_renamed w [] i = refl
  after_renamed w (c ∷ cs) i = after_renamed (step w (renamed f c)) cs i ∙ ap (λ (v : World). after v cs i) (fun_ext (step_renamed w c))

module _ (f : ℕ → ℕ) (n : ℕ) (other : (i : ℕ) → eqb n (f i) ≡ false) where
  step_other : (w : World) (c : Call) → step w (renamed f c) n ≡ w n
  unfolding step renamed
  step_other w (start m kind lgk regs aux) = rw other
  step_other w (feed m scratch cs) = rw other
  step_other w (feed_image m scratch l) = rw other
  step_other w (merge m k) = rw other
  step_other w (send m k buf regs aux scratch) = rw other

  -- and nothing elsewhere
  after_other : (w : World) (cs : List Call) → after w (map (renamed f) cs) n ≡ w n
  unfolding after
  after_other w [] = refl
  after_other w (c ∷ cs) = after_other (step w (renamed f c)) cs ∙ step_other w c

abbrev pub even : ℕ → ℕ
even i = 2 * i

abbrev pub odd : ℕ → ℕ
odd i = 2 * i + 1

pub both : List Call → List Call → List Call
both cs ds = map (renamed even) cs ++ map (renamed odd) ds

pub beside_even : (cs ds : List Call) (n : ℕ) → run (both cs ds) (even n) ≡ run cs n
unfolding both
beside_even cs ds n =
    ap (λ (w : World). w (even n)) (after_append _ (map (renamed even) cs) (map (renamed odd) ds))
    ∙ after_other odd (even n) (λ i. ne_eqb (even n) (odd i) (λ e. omega arith)) _ ds
    ∙ after_renamed even (λ i j e. omega arith) _ cs n

pub beside_odd : (cs ds : List Call) (n : ℕ) → run (both cs ds) (odd n) ≡ run ds n
unfolding both
beside_odd cs ds n =
    ap (λ (w : World). w (odd n)) (after_append _ (map (renamed even) cs) (map (renamed odd) ds))
    ∙ after_renamed odd (λ i j e. omega arith) _ ds n
    ∙ ap (λ (w : World). after w ds n) (fun_ext (λ i. after_other even (odd i) (λ j. ne_eqb (odd i) (even j) (λ e. omega arith)) (λ k. none) cs))
