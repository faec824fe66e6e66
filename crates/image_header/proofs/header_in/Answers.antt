-- `image_header::header_in` meets its contract. Assumes nothing.
use lib.ListN.{get_or}
use Rattle.model.specs.Image.{sketch_in, compact_in}
use Rattle.image_header.specs.Header.{header_in}
use Rattle.image_header.proofs.header_in.Goals as goal

pub returns : goal.returns
unfolding header_in sketch_in compact_in
returns c =
    let l = c.args.image.now in
    λ i. record {
      kind = c.kind_of.ensures i;
      lg_k = get_or l 3 0;
      lg_arr = get_or l 4 0;
      compact = compact_in l;
      cur_min = get_or l 6 0;
      num_at_cur_min = c.word_at.ensures i;
      aux_count = c.word_at-2.ensures i;
    }
