-- Kinds 6 and 8: what their bytes read as, and that record and bytes after a call are what is kept of the registers. Assumes nothing.
use mathlib.Core.Path.{◌≡◌, refl, sym, ap, ◌∙◌}
use mathlib.Core.List.{List, [], ◌∷◌}
use mathlib.Core.Logic.{⊎_elim}
use Prim.Native.Nat.{ℕ, ◌^◌}
use native.Mathlib.Omega.{arith}
use lib.ListN.{length}
use Rattle.model.specs.Coupon.{value, home}
use Rattle.model.specs.Registers.{raise, fed, count_of}
use Rattle.model.specs.Packed.{Bytes, unpacked, packed}
use Rattle.model.specs.Sketch.{sketch_of, bytes_of, low_of, record_of, stored, registers}
use Rattle.model.specs.declared.Sketch.{Sketch}
use Rattle.model.proofs.registers.Raising.{Small, raise_small, length_fed}
use Rattle.model.proofs.packing.ByteLists.{at_all}
use Rattle.model.proofs.packing.Packing.{packed_unpacked, unpacked_8, covered}
use Rattle.model.proofs.packing.Lengths.{six_or_eight, bytes_eight}
use Rattle.model.proofs.order.Plain.{bytes_8}
use Rattle.model.proofs.order.Lawful.{lawful}
use Rattle.array8.specs.Given.{Fed}
use Rattle.array6.specs.Given.{Fed6}
use Rattle.sketch_check.proofs.ByKind.{reads_6, eight_long}
use Rattle.sketch_feed.specs.Asked.{Plain}
use Rattle.sketch_feed.specs.Given.{KeptAs}

-- kind 8 keeps the registers themselves
pub eight_kept : (lgk zeros : ℕ) (R : List ℕ) → Small R → length R ≡ 2 ^ lgk → zeros ≡ count_of 0 R → KeptAs 8 lgk R (sketch_of 8 lgk 0 zeros 0) R
unfolding record_of low_of stored
eight_kept lgk zeros R small long e =
    let b : Bytes R = at_all R (omega arith) (λ i l. omega (arith, small i l)) in
    record {
      record_is = ap (λ (n : ℕ). sketch_of 8 lgk 0 n 0) e;
      bytes_are = sym (ap (λ (n : ℕ). packed 8 n R) (bytes_eight lgk ∙ sym long) ∙ ap (packed 8 (length R)) (sym (unpacked_8 R b)) ∙ packed_unpacked 8 (length R) R b (covered 8 (length R) R b (omega arith)));
    }

fed_small : (k : ℕ) (R cs : List ℕ) → Small R → Small (fed k R cs)
unfolding fed
fed_small k R [] h = h
fed_small k R (c ∷ cs) h = fed_small k (raise R (home k c) (value c)) cs (raise_small R (home k c) (value c) (omega arith) h)

-- ---- after a batch
module _ {s : Sketch} {regs : List ℕ} (p : Plain s regs) where
  pub fed_8 : {cs after : List ℕ} {zeros : ℕ} {r : Sketch} → s.kind ≡ 8 → Bytes regs → Fed s.lg_k regs cs after zeros → r ≡ sketch_of 8 s.lg_k 0 zeros 0
      → KeptAs s.kind s.lg_k (fed (2 ^ s.lg_k) (registers s regs []) cs) r after
  fed_8 {cs} {zeros = zeros} e b f q =
      let reads : registers s regs [] ≡ regs = bytes_8 s regs [] e p.shaped b in
      let small : Small regs = rw reads at (((lawful s.kind p.shaped.kind_known).tells s regs [] refl p.shaped b).0 p.good).small in
      rw (reads, q, f.regs, e) (eight_kept s.lg_k zeros (fed (2 ^ s.lg_k) regs cs) (fed_small (2 ^ s.lg_k) regs cs small) (length_fed (2 ^ s.lg_k) regs cs ∙ eight_long p.shaped e) f.zeros_are)

  pub is_6 : (s.kind ≡ 8 → ⊥) → s.kind ≡ 6
  is_6 h = ⊎_elim (λ (e : s.kind ≡ 6). e) (λ e. absurd (h e)) (six_or_eight s.kind p.shaped.kind_known p.not_4)

  pub fed_6 : {cs after : List ℕ} {zeros : ℕ} {r : Sketch} → s.kind ≡ 6 → Fed6 s.lg_k regs cs after zeros → r ≡ sketch_of 6 s.lg_k 0 zeros 0
      → KeptAs s.kind s.lg_k (fed (2 ^ s.lg_k) (registers s regs []) cs) r after
  unfolding record_of low_of stored
  fed_6 {cs} e f q =
      rw (reads_6 s regs [] e, q, e)
      (record {
        record_is = ap (λ (n : ℕ). sketch_of 6 s.lg_k 0 n 0) f.zeros_are;
        bytes_are = f.bytes ∙ ap (λ (n : ℕ). packed 6 n (fed (2 ^ s.lg_k) (unpacked 6 (2 ^ s.lg_k) regs) cs)) (p.shaped.long ∙ ap (λ (k : ℕ). bytes_of k s.lg_k) e);
      })
