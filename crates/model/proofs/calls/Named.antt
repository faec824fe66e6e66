-- An answer is known by its number and its place, so that two results which meet one equation coincide. Assumes nothing.
use mathlib.Core.Path.{◌≡◌, refl, sym, ap, ◌∙◌, subst}
use mathlib.Core.Bool.{true}
use mathlib.Core.List.{List}
use Prim.Native.Nat.{ℕ, ◌^◌, ◌<◌}
use native.Mathlib.Omega.{arith}
use lib.Dec.{eqb, leb}
use lib.ListN.{length}
use Rattle.model.specs.Pick.{pick}
use Rattle.std.specs.Prelude.{Result, Ok, Err}
use Rattle.model.specs.Answers.{Answer, refusal_no, refusal_place, number_of, Said, said, said_of}
use Rattle.model.specs.Calls.{Out, kept_or, fed_out, Unpacked, unpack_of, Summed}
use Rattle.model.specs.Image.{image_in, Written, wrote_out, write_no, write_of}
use Rattle.model.specs.Claims.{Coincide}
use Rattle.model.specs.declared.Sketch.{Sketch}
use Rattle.model.specs.declared.Refusal.{Refusal}
use Rattle.model.specs.declared.Fed.{Fed}
use Rattle.model.specs.declared.Stopped.{Stopped}
use Rattle.model.specs.declared.Refusal.TheVariants as v
use Rattle.model.proofs.calls.Picked.{picked_no}
use Rattle.model.proofs.calls.Refusals.{refusal_some}
use Rattle.model.proofs.calls.Rungs.{first_either, pick_either, first_none}
use Rattle.model.proofs.calls.Places.{low_place, check_low}

-- the answer of a number, with a place where it has one
named : Said → Answer
named s =
    let n = s.no in
    pick (eqb n 0) (Ok tt) (Err (pick (eqb n 1) v.Kind (pick (eqb n 2) v.LgK (pick (eqb n 3) v.Size (pick (eqb n 4) v.Damaged (pick (eqb n 5) v.Finer (pick (eqb n 6) v.NoRoom (pick (eqb n 7) v.Short (pick (eqb n 8) v.Header (pick (eqb n 9) v.Mode (pick (eqb n 10) v.Counts (pick (eqb n 11) v.LgArr (pick (eqb n 12) v.Value (pick (eqb n 14) v.Spare (pick (eqb n 15) v.Tally (pick (eqb n 16) v.Out (pick (eqb n 21) (v.AuxEmpty s.place) (pick (eqb n 22) (v.AuxTwice s.place) (pick (eqb n 23) (v.AuxLow s.place) (pick (eqb n 24) v.AuxCount (pick (eqb n 25) (v.AuxMatch s.place) (pick (eqb n 26) v.Form (v.ListEmpty s.place)))))))))))))))))))))))

named_refusal : (e : Refusal) → named (said (refusal_no e) (refusal_place e)) ≡ Err e
unfolding named
named_refusal v.Kind = refl
named_refusal v.LgK = refl
named_refusal v.Size = refl
named_refusal v.Damaged = refl
named_refusal v.Finer = refl
named_refusal v.NoRoom = refl
named_refusal v.Short = refl
named_refusal v.Header = refl
named_refusal v.Mode = refl
named_refusal v.Counts = refl
named_refusal v.LgArr = refl
named_refusal v.Value = refl
named_refusal v.Spare = refl
named_refusal v.Tally = refl
named_refusal v.Out = refl
named_refusal (v.AuxEmpty i) = refl
named_refusal (v.AuxTwice i) = refl
named_refusal (v.AuxLow i) = refl
named_refusal v.AuxCount = refl
named_refusal (v.AuxMatch s) = refl
named_refusal v.Form = refl
named_refusal (v.ListEmpty i) = refl

named_said : (a : Answer) → named (said_of a) ≡ a
unfolding named
named_said (Ok x) = refl
named_said (Err e) = named_refusal e

-- an answer is known by what it says
pub said_one : (a b : Answer) → said_of a ≡ said_of b → a ≡ b
said_one a b e = sym (named_said a) ∙ ap named e ∙ named_said b

-- two answers of one number that name no place are one
low_one : (a b : Answer) (n : ℕ) → number_of a ≡ n → number_of b ≡ n → n < 21 → a ≡ b
low_one a b n e f h =
    let p = low_place a (rw e h) in
    let q = low_place b (rw f h) in
    said_one a b (λ i. said ((e ∙ sym f) i) ((p ∙ sym q) i))

abbrev Low : ℕ → Type 0
Low n = n < 21

write_low : (s : Sketch) (regs aux buf : List ℕ) → write_no s regs aux buf < 21
unfolding write_no
write_low s regs aux buf = first_either Low _ _ (check_low true s regs aux) (first_either Low _ _ (pick_either Low (leb (length (image_in s regs aux)) (length buf)) (omega arith) (omega arith)) (first_none Low (omega arith)))

unpack_low : (s : Sketch) (regs aux buf : List ℕ) → (unpack_of s regs aux buf).no < 21
unfolding unpack_of
unpack_low s regs aux buf = check_low (eqb (length buf) (2 ^ s.lg_k)) s regs aux

wrote_low : (s : Sketch) (regs aux buf : List ℕ) → (write_of s regs aux buf).no < 21
unfolding write_of
wrote_low s regs aux buf = subst Low (sym (picked_no (write_no s regs aux buf) _ _ (λ (z : Written). z.no) refl refl)) (write_low s regs aux buf)

-- ---- a result by what it says and gives
refusal_one : (e f : Refusal) → refusal_no e ≡ refusal_no f → refusal_place e ≡ refusal_place f → e ≡ f
refusal_one e f n p = let h : ◌≡◌ {A = Answer} (Err e) (Err f) = said_one (Err e) (Err f) (λ i. said (n i) (p i)) in cc

result_one : (came : Sketch) (a b : Result Sketch Refusal) (r q x y : List ℕ) → kept_or came a r x ≡ kept_or came b q y → (a ≡ b) × ((r ≡ q) × (x ≡ y))
result_one came (Ok s) (Ok t) r q x y g = (ap Ok (ap (λ (z : Out). z.sketch) g), (ap (λ (z : Out). z.regs) g, ap (λ (z : Out). z.aux) g))
result_one came (Ok s) (Err f) r q x y g = absurd (refusal_some f (sym (ap (λ (z : Out). z.no) g)))
result_one came (Err e) (Ok t) r q x y g = absurd (refusal_some e (ap (λ (z : Out). z.no) g))
result_one came (Err e) (Err f) r q x y g = (ap Err (refusal_one e f (ap (λ (z : Out). z.no) g) (ap (λ (z : Out). z.place) g)), (ap (λ (z : Out). z.regs) g, ap (λ (z : Out). z.aux) g))

-- the record and the count of what was fed
fed_in : Out → Fed
fed_in o = record { sketch = o.sketch; taken = o.count }

fed_one : (a b : Result Fed Stopped) (r q x y : List ℕ) → fed_out a r x ≡ fed_out b q y → (a ≡ b) × ((r ≡ q) × (x ≡ y))
unfolding fed_in
fed_one (Ok s) (Ok t) r q x y g = (ap Ok (ap fed_in g), (ap (λ (z : Out). z.regs) g, ap (λ (z : Out). z.aux) g))
fed_one (Ok s) (Err f) r q x y g = absurd (refusal_some f.why (sym (ap (λ (z : Out). z.no) g)))
fed_one (Err e) (Ok t) r q x y g = absurd (refusal_some e.why (ap (λ (z : Out). z.no) g))
fed_one (Err e) (Err f) r q x y g =
    let why = refusal_one e.why f.why (ap (λ (z : Out). z.no) g) (ap (λ (z : Out). z.place) g) in
    let fed = ap fed_in g in
    (λ i. Err (record { why = why i; fed = fed i }), (ap (λ (z : Out). z.regs) g, ap (λ (z : Out). z.aux) g))

length_one : (a b : Result ℕ Refusal) (x y : List ℕ) → (wrote_out a x).no < 21 → wrote_out a x ≡ wrote_out b y → (a ≡ b) × (x ≡ y)
length_one (Ok m) (Ok n) x y low g = (ap Ok (ap (λ (z : Written). z.len) g), ap (λ (z : Written). z.out) g)
length_one (Ok m) (Err f) x y low g = absurd (refusal_some f (sym (ap (λ (z : Written). z.no) g)))
length_one (Err e) (Ok n) x y low g = absurd (refusal_some e (ap (λ (z : Written). z.no) g))
length_one (Err e) (Err f) x y low g =
    let h : ◌≡◌ {A = Answer} (Err e) (Err f) = low_one (Err e) (Err f) _ refl (sym (ap (λ (z : Written). z.no) g)) low in
    (cc, ap (λ (z : Written). z.out) g)

-- ---- so that two results which meet one equation coincide
pub coincide : Coincide
coincide = record {
  made_same = λ o a b s t c d r q x y e f.
      let g = e ∙ sym f in
      (said_one a b (ap (λ (z : Out). said z.no z.place) g), (ap (λ (z : Out). z.sketch) g, (ap (λ (z : Out). z.count) g, (ap (λ (z : Out). z.regs) g, ap (λ (z : Out). z.aux) g))));
  unpacked_same = λ s regs aux buf a b x y e f.
      (low_one a b _ (ap (λ (z : Unpacked). z.no) e) (ap (λ (z : Unpacked). z.no) f) (unpack_low s regs aux buf), ap (λ (z : Unpacked). z.out) (e ∙ sym f));
  viewed_same = λ s regs x y e f. e ∙ sym f;
  summed_same = λ o m n x y u v e f. let g = e ∙ sym f in (ap (λ (z : Summed). z.no) g, (ap (λ (z : Summed). z.low) g, ap (λ (z : Summed). z.high) g));
  written_same = λ s regs aux buf a b m n x y e f.
      let g = e ∙ sym f in
      (low_one a b _ (ap (λ (z : Written). z.no) e) (ap (λ (z : Written). z.no) f) (wrote_low s regs aux buf), (ap (λ (z : Written). z.len) g, ap (λ (z : Written). z.out) g));
  result_same = λ o came a b r q x y e f. result_one came a b r q x y (e ∙ sym f);
  fed_same = λ o a b r q x y e f. fed_one a b r q x y (e ∙ sym f);
  length_same = λ s regs aux buf a b x y e f. length_one a b x y (subst Low (sym (ap (λ (z : Written). z.no) e)) (wrote_low s regs aux buf)) (e ∙ sym f);
}
