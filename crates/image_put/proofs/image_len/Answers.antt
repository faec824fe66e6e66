-- `image_put::image_len` meets its contract. Assumes nothing.
use Rattle.model.proofs.calls.Has.{checked_good}
use Rattle.image_put.proofs.Image.{image_counted}
use Rattle.image_put.proofs.image_len.Goals as goal

pub returns : goal.returns
returns c = image_counted _ _ _ (checked_good c.args.held)
