-- The exception words of an image, as their judge is given them. Assumes nothing.
use mathlib.Core.Path.{◌≡◌, sym, ◌∙◌, ap, ap₂}
use mathlib.Core.Bool.{Bool}
use mathlib.Core.List.{List}
use Prim.Native.Nat.{ℕ, ◌+◌, ◌-◌, ◌^◌}
use native.Mathlib.Omega.{arith}
use lib.ListN.{length, take, drop}
use Rattle.model.specs.Registers.{count_of}
use Rattle.model.specs.Packed.{unpacked}
use Rattle.model.specs.Sketch.{cells, bytes_of}
use Rattle.model.specs.Answers.{said}
use Rattle.model.specs.Faults.{aux_fault}
use Rattle.model.specs.Image.{sketch_in, regs_in, words_in, aux_in}
use Rattle.model.specs.declared.Sketch.{Sketch}
use Rattle.model.proofs.packing.Lengths.{if_four}
use Rattle.model.proofs.table.Sizes.{fours}
use Rattle.model.proofs.image.SameSlots.{aux_other, by_words, aux_empty}
use Rattle.image_faults.specs.Windows.{Judgeable}
use Rattle.image_header.specs.Header as said-by
use Rattle.image_header.specs.declared.Image.{Image}
use Rattle.image_header.proofs.Headers.{compact_is, words_are}
use Rattle.image_check.specs.Passed.{Full}
use Rattle.image_check.proofs.Passing.{formed, is_in, payload_here, words_here}
use Rattle.image_check.proofs.Payload.{regs_part, regs_long, words_part, words_long}

module _ (i : Image) (fulls : ℕ) (full : Full i fulls) where
  is : said-by.record_in i.header ≡ sketch_in i.bytes.now
  is = is_in full.sound.formed

  pub other : (i.header.kind ≡ 4 → ⊥) → said 0 0 ≡ aux_in i.bytes.now
  other n = sym (aux_other i.bytes.now (λ e. n (ap (λ (r : Sketch). r.kind) is ∙ e)))

  module _ (four : i.header.kind ≡ 4) where
    four_in : (sketch_in i.bytes.now).kind ≡ 4
    four_in = ap (λ (r : Sketch). r.kind) (sym is) ∙ four

    -- no words are counted, and no nibble is 15
    pub none : i.header.aux_count ≡ 0 → fulls ≡ 0 → said 0 0 ≡ aux_in i.bytes.now
    none z f = sym (aux_empty i.bytes.now four_in (ap (λ (r : Sketch). r.aux_count) (sym is) ∙ z) (sym (full.counted four) ∙ f))

    module _ (n : ℕ) (bytes : n ≡ bytes_of i.header.kind i.header.lg_k) (many : ℕ) (words : many ≡ said-by.words_in i.header) where
      abbrev part : List ℕ
      part = take (40 + n - 40) (drop 40 i.bytes.now)

      abbrev tail : List ℕ
      tail = take (length i.bytes.now - (40 + n)) (drop (40 + n) i.bytes.now)

      nibbles_are : unpacked 4 (2 ^ i.header.lg_k) part ≡ cells (sketch_in i.bytes.now) (regs_in i.bytes.now)
      unfolding cells
      nibbles_are =
          ap (unpacked 4 (2 ^ i.header.lg_k)) (regs_part i.bytes.now (said-by.record_in i.header) is n bytes)
          ∙ ap (λ (r : Sketch). unpacked 4 (2 ^ r.lg_k) (regs_in i.bytes.now)) is ∙ ap (λ (w : ℕ). unpacked w (2 ^ (sketch_in i.bytes.now).lg_k) (regs_in i.bytes.now)) (sym four_in)

      words_in_lem : unpacked 32 many tail ≡ words_in i.bytes.now
      words_in_lem = ap₂ (unpacked 32) (words ∙ words_are i.bytes.now i.header i.headed) (words_part i.bytes.now (said-by.record_in i.header) is n bytes)

      pub judgeable : Judgeable i.header (take (40 + n - 40) (drop 40 i.bytes.now)) (take (length i.bytes.now - (40 + n)) (drop (40 + n) i.bytes.now)) many fulls
      judgeable =
          let f = formed full.sound.formed in
          let payload = payload_here full.sound in
          record {
            sweepable = record {
              high = f.1.1;
              few = rw words (words_here full.sound);
              whole = omega (arith, words_long i.bytes.now (said-by.record_in i.header) is n bytes);
              nibbles = omega (arith, regs_long i.bytes.now (said-by.record_in i.header) is n bytes (omega arith), bytes, if_four i.header.lg_k four, fours i.header.lg_k f.1.0);
            };
            full = full.counted four ∙ ap (count_of 15) (sym nibbles_are);
          }

      pub judged : aux_fault i.header.compact (2 ^ i.header.lg_k) i.header.cur_min i.header.aux_count (unpacked 32 many (take (length i.bytes.now - (40 + n)) (drop (40 + n) i.bytes.now))) (unpacked 4 (2 ^ i.header.lg_k) (take (40 + n - 40) (drop 40 i.bytes.now))) ≡ aux_in i.bytes.now
      judged =
          ap₂ (aux_fault i.header.compact (2 ^ i.header.lg_k) i.header.cur_min i.header.aux_count) words_in_lem nibbles_are
          ∙ ap₂ (λ (c : Bool) (r : Sketch). aux_fault c (2 ^ r.lg_k) r.cur_min r.aux_count (words_in i.bytes.now) (cells (sketch_in i.bytes.now) (regs_in i.bytes.now))) (compact_is i.bytes.now i.header i.headed) is
          ∙ sym (by_words i.bytes.now four_in)
