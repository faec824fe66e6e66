-- The words of an image, block by block: i are taken, and what is left of them gives what all of them give. Assumes nothing.
use mathlib.Core.Path.{◌≡◌, refl, sym, ap, ◌∙◌, subst}
use mathlib.Core.List.{List, ◌++◌}
use mathlib.Core.Logic.{⊎_elim}
use Prim.Native.Nat.{ℕ, ◌+◌, ◌*◌, ◌≤◌, ◌<◌}
use native.Mathlib.Nat.{zero-add, add-zero}
use native.Mathlib.Omega.{arith}
use lib.ListN.{length, take, drop, length-take, length-append, length-drop, take-append-drop}
use lib.Seq.{length-take-le, take-append_seam, get_or-take, get_or-drop, drop-drop, drop-length, ext_get_or}
use Rattle.model.specs.Packed.{Bytes, slot_at, unpacked}
use Rattle.model.specs.Sketch.{Good}
use Rattle.model.specs.Calls.{Out, out, batch_of}
use Rattle.model.specs.declared.Sketch.{Sketch}
use Rattle.model.proofs.packing.ByteLists.{bytes_take}
use Rattle.model.proofs.packing.Packing.{length_unpacked, get_or_unpacked}
use Rattle.model.proofs.image.Fields.{slot_behind}
use Rattle.model.proofs.calls.Has.{batch_has, batch_line}
use Rattle.model.proofs.calls.Batches.{onward, batch_all, batch_none, batch_halts, batch_rest}

-- the words of a block are a part of the words
pub block_words : (i n many : ℕ) (bs : List ℕ) → Bytes bs → 4 * many ≤ length bs → i + n ≤ many → unpacked 32 n (drop (4 * i) bs) ≡ take n (drop i (unpacked 32 many bs))
block_words i n many bs b h k =
    ext_get_or 0 _ _ (length_unpacked 32 n _ ∙ sym part_long) (λ j l.
    let q : j < n = subst (λ (m : ℕ). j < m) (length_unpacked 32 n (drop (4 * i) bs)) l in
    get_or_unpacked 32 n (drop (4 * i) bs) j q
    ∙ sym (slot_behind 32 i j (take (4 * i) bs) (drop (4 * i) bs) (bytes_take (4 * i) bs b) (let e = length-take-le (4 * i) bs (omega arith) in omega arith))
    ∙ ap (λ (x : List ℕ). slot_at 32 x (i + j)) (take-append-drop (4 * i) bs)
    ∙ sym (get_or-take n (drop i (unpacked 32 many bs)) j 0 q ∙ get_or-drop i (unpacked 32 many bs) j 0 ∙ get_or_unpacked 32 many bs (i + j) (omega arith)))
  where
    part_long : length (take n (drop i (unpacked 32 many bs))) ≡ n
    part_long = length-take-le n (drop i (unpacked 32 many bs)) (let e = length-drop i (unpacked 32 many bs) in let f = length_unpacked 32 many bs in omega arith)

-- a block whose front was unpacked
module _ (n : ℕ) (words block front : List ℕ) (h : n ≤ length block) (e : front ≡ unpacked 32 (length (take n block)) words) where
  are : front ≡ unpacked 32 n words
  are = e ∙ ap (λ (k : ℕ). unpacked 32 k words) (length-take-le n block h)

  pub front_long : length front ≡ n
  front_long = ap length are ∙ length_unpacked 32 n words

  pub front_fits : n ≤ length (front ++ drop n block)
  front_fits = let a = length-append front (drop n block) in let b = front_long in omega arith

  pub front_is : take n (front ++ drop n block) ≡ unpacked 32 n words
  front_is = ap (λ (k : ℕ). take k (front ++ drop n block)) (sym front_long) ∙ take-append_seam front (drop n block) ∙ are

-- what is left of a batch after i of its coupons, in a sketch that has taken them
pub record Feeding (s₀ : Sketch) (regs₀ aux₀ cs : List ℕ) (i : ℕ) (s : Sketch) (regs aux : List ℕ) : Type 0 where
  pub upto : i ≤ length cs
  pub good : Good s regs aux
  pub kind : s.kind ≡ s₀.kind
  pub going : batch_of s₀ regs₀ aux₀ cs ≡ onward i (batch_of s regs aux (drop i cs))

counted : (o : Out) (m n : ℕ) → m ≡ n → out o.no o.place o.sketch m o.regs o.aux ≡ out o.no o.place o.sketch n o.regs o.aux
counted o m n e = ap (λ (k : ℕ). out o.no o.place o.sketch k o.regs o.aux) e

pub feeding_none : (s : Sketch) (regs aux cs : List ℕ) → Good s regs aux → Feeding s regs aux cs 0 s regs aux
feeding_none s regs aux cs g = record { upto = omega arith; good = g; kind = refl; going = let o = batch_of s regs aux cs in counted o o.count (0 + o.count) (sym (zero-add o.count)) }

module _ {s₀ : Sketch} {regs₀ aux₀ cs : List ℕ} {i : ℕ} {s : Sketch} {regs aux : List ℕ} (f : Feeding s₀ regs₀ aux₀ cs i s regs aux) where
  -- the end: nothing is left
  pub feeding_end : i ≡ length cs → out 0 0 s i regs aux ≡ batch_of s₀ regs₀ aux₀ cs
  feeding_end e = sym (f.going ∙ ap (λ (l : List ℕ). onward i (batch_of s regs aux l)) (ap (λ (k : ℕ). drop k cs) e ∙ drop-length cs) ∙ ap (onward i) (batch_none s regs aux f.good) ∙ counted (out 0 0 s i regs aux) (i + 0) i (add-zero i))

  -- a block of n, and what it gave
  module _ (n : ℕ) (h : i + n ≤ length cs) (o : Out) (e : o ≡ batch_of s regs aux (take n (drop i cs))) where
    pub feeding_few : o.count ≤ n
    feeding_few =
        let c = ap (λ (q : Out). q.count) e in
        let l = length-take n (drop i cs) in
        let upto : (batch_of s regs aux (take n (drop i cs))).count ≤ length (take n (drop i cs)) = ⊎_elim (λ x. let y = x.1 in omega arith) (λ x. let y = x.1 in omega arith) (batch_line s regs aux (take n (drop i cs)) f.good) in
        omega arith

    pub feeding_stop : (o.no ≡ 0 → ⊥) → onward i o ≡ batch_of s₀ regs₀ aux₀ cs
    feeding_stop k = sym (f.going ∙ ap (onward i) (batch_halts s regs aux n (drop i cs) (λ z. k (ap (λ (q : Out). q.no) e ∙ z)) ∙ sym e))

    pub feeding_more : o.no ≡ 0 → Feeding s₀ regs₀ aux₀ cs (i + n) o.sketch o.regs o.aux
    feeding_more z =
        let q = batch_of s regs aux (take n (drop i cs)) in
        let y : q.no ≡ 0 = ap (λ (q : Out). q.no) (sym e) ∙ z in
        let has = (batch_has s regs aux (take n (drop i cs)) f.good).2 in
        let count : q.count ≡ n = batch_all s regs aux (take n (drop i cs)) f.good y ∙ length-take-le n (drop i cs) (let d = length-drop i cs in omega arith) in
        let rest = batch_of q.sketch q.regs q.aux (drop (i + n) cs) in
        subst (λ (o : Out). Feeding s₀ regs₀ aux₀ cs (i + n) o.sketch o.regs o.aux) (sym e)
        (record {
          upto = h;
          good = has.good;
          kind = has.same_kind ∙ f.kind;
          going =
              f.going
              ∙ ap (onward i) (batch_rest s regs aux n (drop i cs) f.good y)
              ∙ ap (λ (l : List ℕ). onward i (onward q.count (batch_of q.sketch q.regs q.aux l))) (drop-drop n i cs)
              ∙ counted rest (i + (q.count + rest.count)) (i + n + rest.count) (let c = count in omega arith);
        })
