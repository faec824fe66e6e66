-- The words that are put, one behind the other: which they are, those written so far, and one more. Assumes nothing.
use mathlib.Core.Path.{◌≡◌, refl, sym, ap, ◌∙◌}
use mathlib.Core.Bool.{Bool, true, false, not}
use mathlib.Core.List.{List, [], ◌∷◌, ◌++◌, append_assoc}
use Prim.Native.Nat.{ℕ, zero, suc, ◌+◌, ◌*◌, ◌^◌, ◌≤◌, ◌<◌}
use native.Mathlib.Omega.{arith}
use lib.Dec.{lit<}
use lib.ListN.{length, get_or, take}
use lib.Seq.{get_or-take, length-take-le}
use Rattle.std.specs.List.{filter, enumerate_from}
use Rattle.std.proofs.lemmas.List.{take_more, get_or_default}
use Rattle.std.proofs.lemmas.List.FromFn.{length-enumerate_from, get_or-enumerate_from}
use Rattle.model.specs.Coupon.{is_empty}
use Rattle.model.specs.Packed.{digits, packed}
use Rattle.model.specs.Table.{filled}
use Rattle.model.proofs.packing.ByteLists.{length_packed, at_all}
use Rattle.model.proofs.table.Sifted.{sifted_none, filled_in, filled_out}
use Rattle.model.proofs.packing.Digits.{length_digits}
use Rattle.model.proofs.packing.Packing.{packed_none, packed_one, packed_cons}
use Rattle.image_put.specs.Parts.{over, word_bytes}
use Rattle.image_put.proofs.Over.{over_none, next}

pub length_words : (n : ℕ) (words : List ℕ) → length (word_bytes n words) ≡ 4 * n
unfolding word_bytes
length_words n words = length_packed 32 (4 * n) (take n (filled words))

-- the entries as the code picks them
pub filter_filled : (ws : List ℕ) → filter (λ w. not (is_empty w)) ws ≡ filled ws
filter_filled [] = sym (sifted_none _)
filter_filled (w ∷ ws) = go (is_empty w) refl (filter_filled ws)
  where
    go : (b : Bool) → is_empty w ≡ b → filter (λ v. not (is_empty v)) ws ≡ filled ws → filter (λ v. not (is_empty v)) (w ∷ ws) ≡ filled (w ∷ ws)
    go true e rest = rw e (rest ∙ sym (filled_out w ws e))
    go false e rest = rw e (ap (λ (l : List ℕ). w ∷ l) rest ∙ sym (filled_in w ws e))

filled_small : (c : ℕ) → 0 < c → (ws : List ℕ) → ((i : ℕ) → get_or ws i 0 < c) → (i : ℕ) → get_or (filled ws) i 0 < c
filled_small c p [] h i = rw sifted_none p
filled_small c p (w ∷ ws) h i = go (is_empty w) refl (filled_small c p ws (λ j. h (suc j))) i
  where
    go : (b : Bool) → is_empty w ≡ b → ((i : ℕ) → get_or (filled ws) i 0 < c) → (i : ℕ) → get_or (filled (w ∷ ws)) i 0 < c
    go true e rest i = rw (filled_out w ws e) (rest i)
    go false e rest zero = rw (filled_in w ws e) (h 0)
    go false e rest (suc i) = rw (filled_in w ws e) (rest i)

-- the item of a turn, by what the chain gives: its place, and its word
pub turned : (words : List ℕ) (count i : ℕ) (p : ℕ × ℕ) → count ≤ length (filled words)
    → (i < length (enumerate_from 0 (take count (filled words)))) × (p ≡ get_or (enumerate_from 0 (take count (filled words))) i p)
    → (i < count) × (p.0 ≡ i) × (p.1 ≡ get_or (filled words) i 0)
turned words count i p enough t =
    let f = filled words in
    let long : length (take count f) ≡ count = length-take-le count f enough in
    let h : i < count = omega (arith, t.0, length-enumerate_from 0 (take count f), long) in
    let at : p ≡ (0 + i, get_or (take count f) i p.1) = t.1 ∙ get_or-enumerate_from 0 (take count f) i p (omega (arith, long)) in
    (h, ap (λ (q : ℕ × ℕ). q.0) at ∙ omega arith, ap (λ (q : ℕ × ℕ). q.1) at ∙ get_or-take count f i p.1 h ∙ get_or_default f i p.1 0 (omega arith))

pub ended : (words : List ℕ) (count n : ℕ) → count ≤ length (filled words) → n ≡ length (enumerate_from 0 (take count (filled words))) → n ≡ count
ended words count n enough e = e ∙ length-enumerate_from 0 (take count (filled words)) ∙ length-take-le count (filled words) enough

-- words of 32 bits, and one behind them
packed_snoc : (vs : List ℕ) (w : ℕ) → ((i : ℕ) → get_or vs i 0 < 2 ^ 32) → packed 32 (4 * (length vs + 1)) (vs ++ (w ∷ [])) ≡ packed 32 (4 * length vs) vs ++ digits 256 4 w
packed_snoc [] w h = packed_one 32 4 w ∙ ap (λ (l : List ℕ). l ++ digits 256 4 w) (sym (packed_none 32 []))
packed_snoc (v ∷ vs) w h =
    let n = 4 * length vs in
    let m : 4 * (length (v ∷ vs) + 1) ≡ 4 + 4 * (length vs + 1) = omega arith in
    let k : 4 * length (v ∷ vs) ≡ 4 + n = omega arith in
    ap (λ (j : ℕ). packed 32 j (v ∷ (vs ++ (w ∷ [])))) m
    ∙ packed_cons 4 (4 * (length vs + 1)) v (vs ++ (w ∷ [])) (h 0)
    ∙ ap (λ (l : List ℕ). digits 256 4 v ++ l) (packed_snoc vs w (λ i. h (suc i)))
    ∙ sym (append_assoc (digits 256 4 v) (packed 32 n vs) (digits 256 4 w))
    ∙ ap (λ (l : List ℕ). l ++ digits 256 4 w) (sym (packed_cons 4 n v vs (h 0)) ∙ ap (λ (j : ℕ). packed 32 j (v ∷ vs)) (sym k))

module _ (d words : List ℕ) (at : ℕ) where
  pub words_none : d ≡ over d at (word_bytes 0 words)
  unfolding word_bytes
  words_none = sym (ap (over d at) (packed_none 32 (take 0 (filled words))) ∙ over_none d at)

  module _ (n : ℕ) (small : (i : ℕ) → get_or words i 0 < 2 ^ 32) (inside : n < length (filled words)) where
    abbrev w : ℕ
    w = get_or (filled words) n 0

    words_snoc : word_bytes (n + 1) words ≡ word_bytes n words ++ digits 256 4 w
    unfolding word_bytes
    words_snoc =
        let f = take n (filled words) in
        let long : length f ≡ n = length-take-le n (filled words) (omega arith) in
        let few : (i : ℕ) → get_or f i 0 < 2 ^ 32 =
        at_all f (lit< tt) (λ i h. let k : i < n = omega (arith, long) in rw (get_or-take n (filled words) i 0 k) (filled_small (2 ^ 32) (lit< tt) words small i)) in
        ap (packed 32 (4 * (n + 1))) (take_more (filled words) n 0 inside)
        ∙ ap (λ (j : ℕ). packed 32 (4 * (j + 1)) (f ++ (w ∷ []))) (sym long)
        ∙ packed_snoc f w few
        ∙ ap (λ (j : ℕ). packed 32 (4 * j) f ++ digits 256 4 w) long

    pub words_more : {l m v : List ℕ} → l ≡ over d at (word_bytes n words) → v ≡ digits 256 4 w → m ≡ over l (at + 4 * n) v → at + 4 * (n + 1) ≤ length d
        → m ≡ over d at (word_bytes (n + 1) words)
    words_more p e q room =
        next d at (at + 4 * n) (word_bytes n words) (digits 256 4 w) refl e p q (ap (◌+◌ at) (sym (length_words n words))) (omega (arith, length_digits 256 4 w))
        ∙ ap (over d at) (sym words_snoc)
