-- Registers of kind 8 as cells of 8 bits: the bytes themselves. Assumes nothing.
use mathlib.Core.Path.{◌≡◌, refl, sym, ap, ◌∙◌}
use mathlib.Core.List.{List}
use Prim.Native.Nat.{ℕ, ◌/◌, ◌%◌, ◌^◌, ◌<◌}
use native.Mathlib.Omega.{arith}
use native.Mathlib.Decide.{ℕ_discrete}
use lib.ListN.{length, get_or, set, length-set}
use lib.Seq.{ext_get_or, get_or-set_same, get_or-set_other}
use Rattle.model.specs.Registers.{fed, count_of}
use Rattle.model.specs.Packed.{Bytes, number, slot_at, unpacked, Put}
use Rattle.model.proofs.packing.Digits.{pow_mul, digit_number}
use Rattle.model.proofs.packing.Packing.{unpacked_8, length_unpacked, get_or_unpacked}
use Rattle.model.proofs.packing.Lengths.{bytes_eight, is_eight}
use Rattle.plain.specs.Cells.{Held, Counted, Given}
use Rattle.array8.specs.Asked.{Ready}
use Rattle.array8.specs.Given.{Fed}

pub held_8 : {slot n : ℕ} → Held 8 slot n → slot < n
held_8 h = omega (arith, h.inside, h.shaped.long, bytes_eight h.lg)

pub cell_8 : (bs : List ℕ) → Bytes bs → (s : ℕ) → slot_at 8 bs s ≡ get_or bs s 0
unfolding slot_at
cell_8 bs h s = ap (λ (x : ℕ). number 256 bs / x % 256) (pow_mul 2 8 s) ∙ digit_number 256 bs h s

pub put_8 : (bs : List ℕ) → Bytes bs → (s v : ℕ) → s < length bs → v < 256 → Put 8 bs s v (set bs s v)
put_8 bs before s v inside small = record {
  long = length-set bs s v;
  slots = λ k. ext_get_or 0 (unpacked 8 k (set bs s v)) (set (unpacked 8 k bs) s v) (length_unpacked 8 k (set bs s v) ∙ sym (length-set (unpacked 8 k bs) s v ∙ length_unpacked 8 k bs)) (λ i l. let h : i < k = rw length_unpacked at l in get_or_unpacked 8 k (set bs s v) i h ∙ cell_8 (set bs s v) after i ∙ go k i h (ℕ_discrete s i));
}
  where
    after : Bytes (set bs s v)
    after i = at_place (ℕ_discrete s i)
      where
        at_place : Dec (s ≡ i) → get_or (set bs s v) i 0 < 256
        at_place (yes e) = rw (← e, get_or-set_same bs s v 0 inside) small
        at_place (no d) = rw (get_or-set_other bs s i v 0 (λ e. d (sym e))) (before i)

    go : (k i : ℕ) → i < k → Dec (s ≡ i) → get_or (set bs s v) i 0 ≡ get_or (set (unpacked 8 k bs) s v) i 0
    go k i h (yes e) = rw (← e) (get_or-set_same bs s v 0 inside ∙ sym (get_or-set_same (unpacked 8 k bs) s v 0 (rw length_unpacked (omega arith))))
    go k i h (no d) = get_or-set_other bs s i v 0 (λ e. d (sym e)) ∙ sym (cell_8 bs before i) ∙ sym (get_or_unpacked 8 k bs i h) ∙ sym (get_or-set_other (unpacked 8 k bs) s i v 0 (λ e. d (sym e)))

module _ {lgk zeros : ℕ} {R : List ℕ} (ready : Ready lgk zeros R) (b : Bytes R) where
  reads : (S : List ℕ) → Bytes S → length S ≡ length R → unpacked 8 (2 ^ lgk) S ≡ S
  reads S h e = ap (λ (k : ℕ). unpacked 8 k S) (sym (e ∙ ready.long)) ∙ unpacked_8 S h

  pub counted_8 : Counted 8 lgk zeros R
  counted_8 = record {
    shaped = record { kind_known = is_eight; low = ready.low; high = ready.high; long = ready.long ∙ sym (bytes_eight lgk) };
    zeros_are = ready.zeros_are ∙ ap (count_of 0) (sym (reads R b refl));
  }

  pub given_fed : {cs S : List ℕ} {next : ℕ} → Bytes S → length S ≡ length R → Given 8 lgk R cs S next → Fed lgk R cs S next
  given_fed {cs} {S} h e g =
      let regs : S ≡ fed (2 ^ lgk) R cs = sym (reads S h e) ∙ g.regs ∙ ap (λ (l : List ℕ). fed (2 ^ lgk) l cs) (reads R b refl) in
      record { regs = regs; zeros_are = g.zeros_are ∙ ap (count_of 0) (reads S h e ∙ regs) }
