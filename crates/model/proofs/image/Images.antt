-- What open reads of an image with anything behind it: the record, the register bytes and, for kind 4, the words. Assumes nothing.
use mathlib.Core.Path.{◌≡◌, refl, sym, ap, ap₂, ◌∙◌}
use mathlib.Core.Bool.{true}
use mathlib.Core.List.{List, ◌++◌}
use Prim.Native.Nat.{ℕ, ◌+◌, ◌*◌, ◌/◌, ◌%◌, ◌^◌, ◌<◌}
use native.Mathlib.Omega.{arith}
use lib.ListN.{length, get_or, take, drop, length-append}
use lib.Seq.{take_at, drop_at, drop-drop}
use Rattle.model.specs.Packed.{unpacked, packed}
use Rattle.model.specs.Sketch.{bytes_of}
use Rattle.model.specs.Image.{header, sketch_in, regs_in, compact_in, word_count, words_in}
use Rattle.model.specs.declared.Sketch.{Sketch}
use Rattle.model.proofs.packing.ByteLists.{length_packed}
use Rattle.model.proofs.image.Fields.{FieldsFit, unpacked_front, length_header, from_40, sketch_back}

abbrev pub image_over : Sketch → List ℕ → List ℕ → List ℕ → List ℕ → List ℕ
image_over s R regs ws rest = header s R ++ (regs ++ (packed 32 (4 * length ws) ws ++ rest))

module _ (s : Sketch) (R regs ws rest : List ℕ) where
  abbrev l : List ℕ
  l = image_over s R regs ws rest

  abbrev behind : List ℕ
  behind = packed 32 (4 * length ws) ws ++ rest

  pub over_long : length (image_over s R regs ws rest) ≡ 40 + length regs + 4 * length ws + length rest
  over_long = simp (length-append, length_header, length_packed) (omega arith)

  -- kind 4 is written in the compact form
  pub over_flag : s.kind ≡ 4 → get_or (image_over s R regs ws rest) 5 0 / 8 % 2 ≡ 1
  unfolding header
  over_flag four = rw four

  over_compact : s.kind ≡ 4 → compact_in l ≡ true
  unfolding compact_in
  over_compact four = rw (over_flag four)

  module _ (small : FieldsFit s) where
    pub over_sketch : sketch_in (image_over s R regs ws rest) ≡ s
    over_sketch = sketch_back s R small (regs ++ behind)

    pub over_count : s.kind ≡ 4 → word_count (image_over s R regs ws rest) ≡ s.aux_count
    unfolding word_count
    over_count four = rw (over_compact four, over_sketch)

    module _ (long : length regs ≡ bytes_of s.kind s.lg_k) where
      size : bytes_of (sketch_in l).kind (sketch_in l).lg_k ≡ length regs
      size = rw over_sketch (sym long)

      pub over_regs : regs_in (image_over s R regs ws rest) ≡ regs
      unfolding regs_in
      over_regs = ap₂ take size (from_40 s R (regs ++ behind)) ∙ take_at regs behind (length regs) refl

      pub over_words : s.kind ≡ 4 → ((i : ℕ) → get_or ws i 0 < 2 ^ 32) → length ws ≡ s.aux_count → words_in (image_over s R regs ws rest) ≡ ws
      over_words four fit many =
          ap₂ (unpacked 32) (over_count four ∙ sym many)
          (ap (λ (n : ℕ). drop (40 + n) l) size ∙ sym (drop-drop (length regs) 40 l) ∙ ap (drop (length regs)) (from_40 s R (regs ++ behind)) ∙ drop_at regs behind (length regs) refl)
          ∙ unpacked_front 32 (4 * length ws) ws rest fit (omega arith)
