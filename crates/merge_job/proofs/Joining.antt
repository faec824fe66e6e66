-- The outcomes of opening and merging. Assumes nothing.
use mathlib.Core.Path.{◌≡◌, refl, sym, ap, ap₂, ◌∙◌}
use mathlib.Core.Bool.{Bool}
use mathlib.Core.List.{List, [], ◌∷◌}
use Prim.Native.Nat.{ℕ, zero, suc, ◌≤◌}
use native.Mathlib.Nat.{not-suc-le-zero, le_of_suc-le-suc}
use native.Mathlib.Omega.{arith}
use lib.Dec.{eqb}
use lib.ListN.{length, take, replicate, length-replicate}
use borrow.Author.Tests.{eq-eqb, ne_eqb}
use Rattle.model.specs.Pick.{pick}
use Rattle.model.specs.Sketch.{bytes_of}
use Rattle.model.specs.Calls.{Out, out, refused_at, refused_out, merge_of}
use Rattle.model.specs.Image.{sketch_in, open_of}
use Rattle.model.specs.declared.Sketch.{Sketch}
use Rattle.model.proofs.packing.Lengths.{bytes_within}
use Rattle.image_header.specs.declared.Image.{Image}
use Rattle.image_header.proofs.Headers.{record_is}
use Rattle.merge_job.specs.Merge.{large_no, file_no, opened_of, join_of, take_of}
use Rattle.merge_job.specs.declared.Fault.{Fault}
use Rattle.merge_job.specs.Promised.{fault_no, fault_place, Opened}
use Rattle.merge_job.proofs.Faults.{fault_some, low_fault}
use Rattle.merge_job.proofs.Filed.{Fits, file_low}

module _ (t : Sketch) (tregs : List ℕ) where
  module _ (i : Image) (regs aux scratch : List ℕ) (lent : Opened i regs aux scratch) (n p : ℕ) (s : Sketch) (r a : List ℕ) (opened : out n p s 0 r a ≡ open_of i.bytes.now regs aux scratch) where
    is_opened : out n p s 0 r a ≡ opened_of i.bytes.now
    unfolding opened_of
    is_opened = let x = lent.regs_are in let y = lent.aux_is in let z = lent.scratch_is in opened ∙ (cc)

    pub join_refused : (n ≡ 0 → ⊥) → refused_at n p t tregs [] ≡ join_of t tregs i.bytes.now
    unfolding join_of
    join_refused h =
        ap (λ (b : Bool). pick b (merge_of t tregs s r a) (refused_at n p t tregs [])) (sym (ne_eqb n 0 h))
        ∙ ap (λ (o : Out). pick (eqb o.no 0) (merge_of t tregs o.sketch o.regs o.aux) (refused_at o.no o.place t tregs [])) is_opened

    pub join_merged : {o : Out} → o ≡ merge_of t tregs s r a → n ≡ 0 → o ≡ join_of t tregs i.bytes.now
    unfolding join_of
    join_merged merged e =
        merged
        ∙ ap (λ (b : Bool). pick b (merge_of t tregs s r a) (refused_at n p t tregs [])) (sym (eq-eqb n 0 e))
        ∙ ap (λ (o : Out). pick (eqb o.no 0) (merge_of t tregs o.sketch o.regs o.aux) (refused_at o.no o.place t tregs [])) is_opened

  pub take_refused : (l : List ℕ) (e : Fault) → fault_no e ≡ file_no l → refused_at (fault_no e) (fault_place e) t tregs [] ≡ take_of t tregs l
  unfolding take_of
  take_refused l e q =
      ap₂ (λ (n p : ℕ). refused_at n p t tregs []) q (low_fault e (rw q (file_low l)))
      ∙ ap (λ (b : Bool). pick b (join_of t tregs l) (refused_out (file_no l) t tregs [])) (sym (ne_eqb (file_no l) 0 (λ z. fault_some e (q ∙ z))))

  pub take_joined : (l : List ℕ) → file_no l ≡ 0 → join_of t tregs l ≡ take_of t tregs l
  unfolding take_of
  take_joined l e = ap (λ (b : Bool). pick b (join_of t tregs l) (refused_out (file_no l) t tregs [])) (sym (eq-eqb (file_no l) 0 e))

-- ---- the header, as it was decoded
module _ (i : Image) where
  pub large_is : {n : ℕ} → n ≡ large_no i.header.kind i.header.lg_k → n ≡ large_no (sketch_in i.bytes.now).kind (sketch_in i.bytes.now).lg_k
  large_is e = e ∙ ap (λ (s : Sketch). large_no s.kind s.lg_k) (record_is i.bytes.now i.header i.headed)

  pub small_is : Fits i.bytes.now → i.header.lg_k ≤ 21
  small_is f = let e = ap (λ (s : Sketch). s.lg_k) (record_is i.bytes.now i.header i.headed) in omega (arith, e, f.small)

-- ---- the memory
-- the registers of an image that is not LARGE
pub bytes_room : (kind lgk : ℕ) → lgk ≤ 12 → bytes_of kind lgk ≤ 4096
bytes_room kind lgk h = bytes_within kind lgk 12 (omega arith) h

pub zeros_front : (n m : ℕ) → n ≤ m → take {A = ℕ} n (replicate m 0) ≡ replicate n 0
zeros_front zero m h = refl
zeros_front (suc n) zero h = absurd (not-suc-le-zero h)
zeros_front (suc n) (suc m) h = ap (λ (l : List ℕ). 0 ∷ l) (zeros_front n m (le_of_suc-le-suc h))

module _ (i : Image) (fits : Fits i.bytes.now) (n : ℕ) (size : n ≡ bytes_of i.header.kind i.header.lg_k) where
  size_is : n ≡ bytes_of (sketch_in i.bytes.now).kind (sketch_in i.bytes.now).lg_k
  size_is = size ∙ ap (λ (s : Sketch). bytes_of s.kind s.lg_k) (record_is i.bytes.now i.header i.headed)

  pub size_room : n ≤ 4096
  size_room = omega (arith, bytes_room (sketch_in i.bytes.now).kind (sketch_in i.bytes.now).lg_k fits.small, size_is)

  pub size_same : n ≡ length {A = ℕ} (take n (replicate 4096 0))
  size_same = sym (ap length (zeros_front n 4096 size_room) ∙ length-replicate n 0)

  pub lent : Opened i (take n (replicate 4096 0)) (replicate 8192 0) (replicate 8192 0)
  lent = record { regs_are = zeros_front n 4096 size_room ∙ ap (λ (n : ℕ). replicate n 0) size_is; aux_is = refl; scratch_is = refl }
