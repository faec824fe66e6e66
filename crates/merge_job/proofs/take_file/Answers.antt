-- `merge_job::take_file` meets its contract. Assumes nothing.
use Rattle.merge_job.proofs.Turns.{some_word}
use Rattle.merge_job.proofs.take_file.Goals as goal

pub returns : goal.returns
returns g c = some_word _ _ _ _ _ c.take_got.ensures
