-- What the code's header says of an image: the book's fields, in one record, and what is worked out from them.
use Rattle.std.specs.Prelude.{◌≡◌, Bool, true, List, ℕ, ◌^◌, eqb, leb, get_or}
use Rattle.model.specs.Pick.{pick}
use Rattle.model.specs.Sketch.{sketch_of}
use Rattle.model.specs.Image.{sketch_in, compact_in, header_no}
use Rattle.model.specs.declared.Sketch.{Sketch}
use Rattle.image_header.specs.declared.Header.{Header}

-- the header of any list of bytes
unfoldable pub header_in : List ℕ → Header
header_in l =
    let s = sketch_in l in
    record {
      kind = s.kind;
      lg_k = s.lg_k;
      lg_arr = get_or l 4 0;
      compact = compact_in l;
      cur_min = s.cur_min;
      num_at_cur_min = s.num_at_cur_min;
      aux_count = s.aux_count;
    }

-- the record that it says
abbrev pub record_in : Header → Sketch
record_in h = sketch_of h.kind h.lg_k h.cur_min h.num_at_cur_min h.aux_count

-- its lg_arr fits
abbrev pub lg_arr_in : Header → Bool
lg_arr_in h = pick h.compact true (pick (eqb h.aux_count 0) true (leb h.lg_arr 22))

-- how many words it says
abbrev pub words_in : Header → ℕ
words_in h = pick h.compact h.aux_count (pick (eqb h.aux_count 0) 0 (2 ^ h.lg_arr))

-- the header of an image that begins as every image does
pub record Headed (l : List ℕ) (h : Header) : Type 0 where
  pub passed : header_no l ≡ 0
  pub is : h ≡ header_in l
