-- Demand 3: what the same set of coupons has reached is the same, image and all. Assumes nothing.
use mathlib.Core.Path.{◌≡◌, refl, sym, ap, ap₂, ◌∙◌, subst}
use mathlib.Core.List.{List, []}
use mathlib.Core.Logic.{inl, inr}
use Prim.Native.Nat.{ℕ, max, ◌^◌, ◌≤◌, ◌<◌}
use native.Mathlib.Omega.{arith}
use lib.ListN.{length, get_or, take, replicate, length-replicate, get_or-replicate}
use lib.Seq.{take-length, ext_get_or}
use borrow.Author.Tests.{ne_eqb}
use Rattle.model.specs.Registers.{fed, largest}
use Rattle.model.specs.Four.{state}
use Rattle.model.specs.Sketch.{record_of, stored, table_in, registers, Shaped, Good}
use Rattle.model.specs.Check.{good_of, scratch_fits, check_no}
use Rattle.model.specs.Calls.{Out, start_of}
use Rattle.model.specs.Image.{image_in, write_no, write_of}
use Rattle.model.specs.Claims.{SameSet, SameAs, Demand3, freshly_fed, FeedLine, FedTaken}
use Rattle.model.specs.declared.Sketch.{Sketch}
use Rattle.model.proofs.packing.Lengths.{is_eight, bytes_eight}
use Rattle.model.proofs.registers.Raising.{length_fed}
use Rattle.model.proofs.registers.Largest.{fed_at, largest_same}
use Rattle.model.proofs.order.Sound.{Has}
use Rattle.model.proofs.calls.Ladder.{shape_says}
use Rattle.model.proofs.calls.Has.{ok_check, start_has, batch_line, feed_is, registers_long}
use Rattle.model.proofs.calls.Standing.{feed_keeps}
use Rattle.model.proofs.histories.Demands.{Each, Holding, holds_run}

-- the image of a kind 8 sketch does not depend on the area
write_eight : (s : Sketch) (regs aux aux' buf : List ℕ) → s.kind ≡ 8 → write_of s regs aux buf ≡ write_of s regs aux' buf
unfolding write_of write_no image_in registers table_in check_no good_of
write_eight s regs aux aux' buf e = rw (ne_eqb s.kind 4 (λ q. omega arith))

-- registers that are the largest values of what reached them are those of empty ones fed that set
each_fed : (lgk : ℕ) (R got cs : List ℕ) → length R ≡ 2 ^ lgk → Each lgk R got → SameSet cs got → R ≡ fed (2 ^ lgk) (replicate (2 ^ lgk) 0) cs
each_fed lgk R got cs long f same =
    ext_get_or 0 R _ (long ∙ sym (length_fed _ (replicate (2 ^ lgk) 0) cs ∙ length-replicate (2 ^ lgk) 0))
    (λ i h.
    let q : i < 2 ^ lgk = subst (λ (n : ℕ). i < n) long h in
    let z : ◌≡◌ {A = ℕ} (get_or (replicate (2 ^ lgk) 0) i 0) 0 = get_or-replicate (2 ^ lgk) i 0 0 q in
    let e : get_or (fed (2 ^ lgk) (replicate (2 ^ lgk) 0) cs) i 0 ≡ max (get_or (replicate (2 ^ lgk) 0) i 0) (largest (2 ^ lgk) i cs) = fed_at (2 ^ lgk) (replicate (2 ^ lgk) 0) cs i (rw (length-replicate {A = ℕ} (2 ^ lgk) 0) q) in
    f i q ∙ sym (largest_same (2 ^ lgk) i cs got same) ∙ omega arith)

-- kind and size and registers make the record and the bytes
module _ (lgk : ℕ) (R : List ℕ) (s : Sketch) (regs aux : List ℕ) (g : Good s regs aux) (k : s.kind ≡ 8) (z : s.lg_k ≡ lgk) (e : registers s regs aux ≡ R) where
  record_8 : s ≡ record_of 8 lgk R
  record_8 = g.record_is ∙ ap₂ (λ (x y : ℕ). record_of x y (registers s regs aux)) k z ∙ ap (record_of 8 lgk) e

  bytes_8 : regs ≡ stored 8 lgk R
  bytes_8 = g.bytes_are ∙ ap₂ (λ (x y : ℕ). stored x y (registers s regs aux)) k z ∙ ap (stored 8 lgk) e

-- an empty sketch fed a list takes it all
module _ (lgk : ℕ) (mem cs : List ℕ) (h : Shaped 8 lgk (length mem)) where
  abbrev o : Out
  o = start_of 8 lgk mem []

  abbrev f : Out
  f = freshly_fed lgk mem cs

  begun : Has 8 lgk (state (replicate (2 ^ lgk) 0) []) o.sketch o.regs o.aux
  begun = (start_has 8 lgk mem [] ((shape_says 8 lgk (length mem)).1 h)).1

  passed : check_no (scratch_fits o.sketch.kind (length o.aux) 0) o.sketch o.regs o.aux ≡ 0
  unfolding scratch_fits
  passed = ok_check _ o.sketch o.regs o.aux (rw (ne_eqb o.sketch.kind 4 (λ q. omega (arith, begun.same_kind)))) begun.good

  fed_to_lem : FedTaken o.sketch o.regs o.aux cs f
  fed_to_lem = feed_keeps o.sketch o.regs o.aux [] cs begun.good

  fresh_registers : registers f.sketch f.regs f.aux ≡ fed (2 ^ lgk) (replicate (2 ^ lgk) 0) cs
  fresh_registers =
      let all : f.count ≡ length cs = ap (λ (p : Out). p.count) (feed_is o.sketch o.regs o.aux [] cs passed) ∙ took (batch_line o.sketch o.regs o.aux cs begun.good) in
      fed_to_lem.holds
      ∙ ap (λ (l : List ℕ). fed (2 ^ o.sketch.lg_k) (registers o.sketch o.regs o.aux) l) (ap (λ (n : ℕ). take n cs) all ∙ take-length cs)
      ∙ ap₂ (λ (n : ℕ) (l : List ℕ). fed (2 ^ n) l cs) begun.same_size begun.holds
    where
      took : {count answer : ℕ} → FeedLine o.sketch o.regs o.aux cs count answer → count ≡ length cs
      took (inl (n, m, g)) = m
      took (inr (n, m, x, g)) = absurd (omega (arith, x.0, begun.same_kind))

  -- a kind 8 sketch of that size that the same set has reached is the same
  pub same_as : (s : Sketch) (regs aux got : List ℕ) → Holding s regs aux got → s.kind ≡ 8 → s.lg_k ≡ lgk → SameSet cs got → SameAs f s regs aux
  same_as s regs aux got j k z same =
      let R = fed (2 ^ lgk) (replicate (2 ^ lgk) 0) cs in
      let e : registers s regs aux ≡ R = each_fed lgk (registers s regs aux) got cs (registers_long s regs aux j.good ∙ ap (λ (n : ℕ). 2 ^ n) z) (subst (λ (n : ℕ). Each n (registers s regs aux) got) z j.each) same in
      let k' : f.sketch.kind ≡ 8 = fed_to_lem.same_kind ∙ begun.same_kind in
      let z' : f.sketch.lg_k ≡ lgk = fed_to_lem.same_size ∙ begun.same_size in
      let g' = fed_to_lem.good in
      record {
        registers_same = e ∙ sym fresh_registers;
        image_same = λ buf.
            write_eight s regs aux f.aux buf k
            ∙ ap₂ (λ (x : Sketch) (y : List ℕ). write_of x y f.aux buf)
            (record_8 lgk R s regs aux j.good k z e ∙ sym (record_8 lgk R f.sketch f.regs f.aux g' k' z' fresh_registers))
            (bytes_8 lgk R s regs aux j.good k z e ∙ sym (bytes_8 lgk R f.sketch f.regs f.aux g' k' z' fresh_registers));
      }

pub eight_shaped : (lgk len : ℕ) → 4 ≤ lgk → lgk ≤ 21 → len ≡ 2 ^ lgk → Shaped 8 lgk len
eight_shaped lgk len a b e = record { kind_known = is_eight; low = a; high = b; long = e ∙ sym (bytes_eight lgk) }

pub demand_3 : Demand3
demand_3 calls₁ calls₂ n₁ n₂ s₁ s₂ regs₁ aux₁ got₁ regs₂ aux₂ got₂ e₁ e₂ k₁ k₂ size same mem cs long set =
    let h₁ = holds_run calls₁ n₁ s₁ regs₁ aux₁ got₁ e₁ in
    let h₂ = holds_run calls₂ n₂ s₂ regs₂ aux₂ got₂ e₂ in
    let sh = eight_shaped s₁.lg_k (length mem) h₁.good.shaped.low h₁.good.shaped.high long in (
      same_as s₁.lg_k mem cs sh s₁ regs₁ aux₁ got₁ h₁ k₁ refl set,
      same_as s₁.lg_k mem cs sh s₂ regs₂ aux₂ got₂ h₂ k₂ (sym size) (λ c. (λ m. (same c).0 ((set c).0 m), λ m. (set c).1 ((same c).1 m))),
    )
