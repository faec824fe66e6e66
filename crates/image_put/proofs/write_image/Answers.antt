-- `image_put::write_image` meets its contract: the header, the part from byte 40 on, and the words behind it. Assumes nothing.
use mathlib.Core.Path.{◌∙◌}
use native.Mathlib.Omega.{arith}
use lib.ListN.{length-take, length-drop}
use Rattle.model.proofs.calls.Has.{checked_good}
use Rattle.image_put.proofs.Over.{over_lent, over_pasted}
use Rattle.image_put.proofs.Image.{words_enough, image_room, header_fits, image_put}
use Rattle.image_put.proofs.write_image.Goals as goal

pub put_header-requires : goal.put_header-requires
put_header-requires c = header_fits c.requires

pub slice_bounds-put-count : goal.slice_bounds-put-count
slice_bounds-put-count c = omega (arith, image_room c.requires)

pub slice_bounds-put-start : goal.slice_bounds-put-start
slice_bounds-put-start c = omega (arith, image_room c.requires)

pub put-requires : goal.put-requires
put-requires c = simp (length-take, length-drop) (omega (arith, image_room c.requires))

pub put_words-requires : goal.put_words-requires
put_words-requires c = record { enough = words_enough _ _ _ (checked_good c.args.held); room = omega (arith, image_room c.requires) }

pub returns : goal.returns
returns c =
    image_put c.requires c.put_header.ensures (over_lent 40 _ _ (c.put.ensures ∙ over_pasted _ _ _)) c.put_words.ensures
