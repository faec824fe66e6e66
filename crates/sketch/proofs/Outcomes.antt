-- Each outcome of start, view, feed and unpack, by one law: what the code has found there, and so what the call's definition gives. Assumes nothing.
use mathlib.Core.Path.{◌≡◌, ap}
use mathlib.Core.Bool.{Bool}
use mathlib.Core.List.{List, []}
use Prim.Native.Nat.{ℕ, ◌^◌}
use lib.Dec.{eqb}
use lib.ListN.{length, replicate}
use borrow.Author.Tests.{eq-eqb, ne_eqb}
use Rattle.model.specs.Sketch.{sketch_of, area_of, registers}
use Rattle.model.specs.Check.{shape_no, scratch_fits, check_no}
use Rattle.model.specs.Calls.{out, refused_at, nothing, kept_out, start_of, feed_of, unpacked_to, unpack_of}
use Rattle.model.specs.declared.Sketch.{Sketch}
use Rattle.model.proofs.calls.Ladder.{shape_says}
use Rattle.model.proofs.calls.Starting.{record_zeros, stored_zeros}

-- ---- start
module _ (kind lgk : ℕ) (regs aux : List ℕ) where
  pub start_no : {n p : ℕ} → n ≡ shape_no kind lgk (length regs) → p ≡ 0 → (n ≡ 0 → ⊥) → refused_at n p nothing regs aux ≡ start_of kind lgk regs aux
  unfolding start_of
  start_no {n} e z h = rw (← e, z, ne_eqb n 0 h)

  pub start_ok : {s : Sketch} {k : ℕ} {after area : List ℕ} → shape_no kind lgk (length regs) ≡ 0 → k ≡ 2 ^ lgk → s ≡ sketch_of kind lgk 0 k 0 → after ≡ replicate (length regs) 0 → area ≡ area_of kind [] aux
      → out 0 0 s 0 after area ≡ start_of kind lgk regs aux
  unfolding start_of kept_out
  start_ok e k q r a =
      rw (q, k, r, a, eq-eqb (shape_no kind lgk (length regs)) 0 e, record_zeros kind lgk, stored_zeros kind lgk)
      (ap (λ (n : ℕ). out 0 0 (sketch_of kind lgk 0 (2 ^ lgk) 0) 0 (replicate n 0) (area_of kind [] aux)) ((shape_says kind lgk (length regs)).0 e).long)

-- ---- feed
module _ (s : Sketch) (regs aux scratch : List ℕ) where
  pub feed_no : (cs : List ℕ) {n p : ℕ} → n ≡ check_no (scratch_fits s.kind (length aux) (length scratch)) s regs aux → p ≡ 0 → (n ≡ 0 → ⊥) → refused_at n p s regs aux ≡ feed_of s regs aux scratch cs
  unfolding feed_of
  feed_no cs {n} e z h = rw (← e, z, ne_eqb n 0 h)

-- ---- unpack
module _ (s : Sketch) (regs aux buf : List ℕ) {fits : Bool} (lent : fits ≡ eqb (length buf) (2 ^ s.lg_k)) where
  pub unpack_no : {n : ℕ} → n ≡ check_no fits s regs aux → (n ≡ 0 → ⊥) → unpacked_to n buf ≡ unpack_of s regs aux buf
  unfolding unpack_of
  unpack_no {n} e h = rw (← lent, ← e, ne_eqb n 0 h)

  pub unpack_ok : {after : List ℕ} → check_no fits s regs aux ≡ 0 → after ≡ registers s regs aux → unpacked_to 0 after ≡ unpack_of s regs aux buf
  unfolding unpack_of
  unpack_ok e q = rw (← lent, e, q)
