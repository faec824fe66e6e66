-- `image_put::header::put_header` meets its contract. Assumes nothing.
use Rattle.image_put.proofs.Heading.{header_put}
use Rattle.image_put.proofs.header.put_header.Goals as goal

pub returns : goal.returns
returns c =
    header_put c.args.out.now _ _ _ c.requires.room c.put_fields.ensures c.put_sums.ensures c.put_counts.ensures
