-- Images that agree in all that open reads open alike. Assumes nothing.
use mathlib.Core.Path.{◌≡◌, refl, sym, ap, ap₂, ◌∙◌}
use mathlib.Core.Logic.{inl, inr}
use mathlib.Core.List.{List}
use Prim.Native.Nat.{ℕ, zero, suc, min, ◌+◌, ◌*◌, ◌/◌, ◌%◌, ◌^◌, ◌≤◌, ◌<◌}
use native.Mathlib.Omega.{arith}
use lib.Dec.{leb}
use lib.ListN.{length, get_or, take, drop, length-take, length-drop}
use lib.Seq.{get_or-take, get_or-drop, ext_get_or}
use Rattle.model.specs.Packed.{Bytes, slot_at, unpacked}
use Rattle.model.specs.Sketch.{bytes_of}
use Rattle.model.specs.Image.{sketch_in, regs_in, compact_in, word_count, words_in, entries_in, aux_in, place_in, header_no, lg_arr_fits, counts_no, body_no, open_no, open_of}
use Rattle.model.specs.Claims.{end_of, Alike, OpensAlike}
use Rattle.model.specs.declared.Sketch.{Sketch}
use Rattle.model.proofs.packing.ByteLists.{bytes_drop}
use Rattle.model.proofs.order.Tells.{tells_one, tells_le}
use Rattle.model.proofs.packing.Packing.{window, slot_window, length_unpacked, get_or_unpacked}

-- a word depends on its four bytes
window_same : (a : ℕ) (xs ys : List ℕ) (j : ℕ) → ((i : ℕ) → j ≤ i → i < j + a → get_or xs i 0 ≡ get_or ys i 0) → window a xs j ≡ window a ys j
window_same zero xs ys j h = refl
window_same (suc a) xs ys j h = ap₂ (λ (x y : ℕ). x * 256 + y) (window_same a xs ys (suc j) (λ i p q. h i (omega arith) (omega arith))) (h j (omega arith) (omega arith))

word_same : (s : ℕ) (xs ys : List ℕ) → Bytes xs → Bytes ys → ((i : ℕ) → 4 * s ≤ i → i < 4 * s + 4 → get_or xs i 0 ≡ get_or ys i 0) → slot_at 32 xs s ≡ slot_at 32 ys s
word_same s xs ys bx by h =
    slot_window 32 s 4 (4 * s) 0 xs bx (omega arith) (omega arith)
    ∙ ap (λ (x : ℕ). x / 2 ^ 0 % 2 ^ 32) (window_same 4 xs ys (4 * s) h)
    ∙ sym (slot_window 32 s 4 (4 * s) 0 ys by (omega arith) (omega arith))

-- a length is tested alike below the end
long_same : (x y e n : ℕ) → min x e ≡ min y e → n ≤ e → leb n x ≡ leb n y
long_same x y e n h l = tells_one _ _ (tells_le n x) ((λ q. let r = (tells_le n y).0 q in omega arith), λ q r. (tells_le n y).1 q (omega arith))

module _ (l m : List ℕ) (bl : Bytes l) (bm : Bytes m) (a : Alike l m) where
  abbrev s : Sketch
  s = sketch_in l

  abbrev n : ℕ
  n = bytes_of s.kind s.lg_k

  front : (i : ℕ) → i < 8 → (i ≡ 5 → ⊥) → get_or l i 0 ≡ get_or m i 0
  front i h k = a.same i (inl h) k (omega arith)

  behind : (i : ℕ) → 32 ≤ i → i < end_of l → get_or l i 0 ≡ get_or m i 0
  behind i h k = a.same i (inr h) (λ e. omega arith) k

  same_sketch : sketch_in l ≡ sketch_in m
  unfolding sketch_in
  same_sketch = rw (
    front 7 (omega arith) (λ e. omega arith),
    front 3 (omega arith) (λ e. omega arith),
    front 6 (omega arith) (λ e. omega arith),
    word_same 8 l m bl bm (λ i p q. behind i (omega arith) (omega arith)),
    word_same 9 l m bl bm (λ i p q. behind i (omega arith) (omega arith)),
  )

  same_regs : regs_in l ≡ regs_in m
  unfolding regs_in
  same_regs =
      rw (← same_sketch)
      (ext_get_or 0 (take n (drop 40 l)) (take n (drop 40 m)) (omega (arith, a.long, length-take n (drop 40 l), length-take n (drop 40 m), length-drop 40 l, length-drop 40 m))
      (λ i h. let d : i < n = omega (arith, length-take n (drop 40 l)) in
      get_or-take n (drop 40 l) i 0 d ∙ get_or-drop 40 l i 0 ∙ behind (40 + i) (omega arith) (omega arith) ∙ sym (get_or-drop 40 m i 0) ∙ sym (get_or-take n (drop 40 m) i 0 d)))

  same_compact : compact_in l ≡ compact_in m
  unfolding compact_in
  same_compact = rw a.flag

  same_count : word_count l ≡ word_count m
  unfolding word_count
  same_count = rw (same_compact, same_sketch, front 4 (omega arith) (λ e. omega arith))

  same_words : unpacked 32 (word_count l) (drop (40 + n) l) ≡ unpacked 32 (word_count l) (drop (40 + n) m)
  same_words =
      ext_get_or 0 _ _ (length_unpacked 32 (word_count l) (drop (40 + n) l) ∙ sym (length_unpacked 32 (word_count l) (drop (40 + n) m)))
      (λ i h. let d : i < word_count l = rw length_unpacked at h in
      get_or_unpacked 32 (word_count l) (drop (40 + n) l) i d
      ∙ word_same i (drop (40 + n) l) (drop (40 + n) m) (bytes_drop (40 + n) l bl) (bytes_drop (40 + n) m bm)
      (λ j p q. get_or-drop (40 + n) l j 0 ∙ behind (40 + n + j) (omega arith) (omega arith) ∙ sym (get_or-drop (40 + n) m j 0))
      ∙ sym (get_or_unpacked 32 (word_count l) (drop (40 + n) m) i d))

  all_words : words_in l ≡ words_in m
  all_words = rw (same_words, same_count, same_sketch)

  same_entries : entries_in l ≡ entries_in m
  unfolding entries_in
  same_entries = rw all_words

  same_aux : aux_in l ≡ aux_in m
  unfolding aux_in
  same_aux = rw (all_words, same_compact, same_regs, same_sketch)

  same_no : (regs aux scratch : ℕ) → open_no l regs aux scratch ≡ open_no m regs aux scratch
  unfolding open_no header_no counts_no lg_arr_fits body_no
  same_no regs aux scratch =
      rw (
        long_same (length l) (length m) (end_of l) 40 a.long (omega arith),
        long_same (length l) (length m) (end_of l) (end_of l) a.long (omega arith),
        front 0 (omega arith) (λ e. omega arith),
        front 1 (omega arith) (λ e. omega arith),
        front 2 (omega arith) (λ e. omega arith),
        front 4 (omega arith) (λ e. omega arith),
        same_aux,
        same_regs,
        same_count,
        same_compact,
        same_sketch,
      )

pub opens_alike : OpensAlike
unfolding open_of place_in
opens_alike l m regs aux scratch bl bm a = rw (same_aux l m bl bm a, same_no l m bl bm a (length regs) (length aux) (length scratch), same_entries l m bl bm a, same_regs l m bl bm a, same_sketch l m bl bm a)
