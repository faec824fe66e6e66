-- `merge_job::finish` meets its contract: what is handed to the writer is the image of all, and the job's path. Assumes nothing.
use mathlib.Core.Path.{sym}
use native.Mathlib.Omega.{arith}
use lib.Seq.{length-take-le}
use borrow.Author.Rules.{rules}
use Rattle.std.proofs.lemmas.Bool.{some_since}
use Rattle.std.proofs.lemmas.Option.{MatchOption-at_some}
use Rattle.merge_job.proofs.Ends.{out_found, write_ok, written_len, tellable, puts}
use Rattle.merge_job.proofs.finish.Goals as goal

pub unwrap-len-requires : goal.unwrap-len-requires
unwrap-len-requires g c = write_ok _ _ _ c.requires.0 _ _ _ c.write.ensures (search rules)

pub unwrap-path-requires : goal.unwrap-path-requires
unwrap-path-requires g c = some_since _ _ _ c.path_in.ensures (out_found c.args.job.now _ _ c.requires.0 c.args.places c.requires.1)

pub slice_bounds-image-end : goal.slice_bounds-image-end
slice_bounds-image-end g c = let w = (written_len _ _ _ c.requires.0 _ _ _ _ c.write.ensures c.unwrap-len.ensures (search rules)).1 in omega arith

pub slice_bounds-put-end : goal.slice_bounds-put-end
slice_bounds-put-end g c = let w = (written_len _ _ _ c.requires.0 _ _ _ _ c.write.ensures c.unwrap-len.ensures (search rules)).1 in sym (length-take-le _ _ (omega arith))

pub put-requires : goal.put-requires
put-requires g c =
    puts c.args.job.now _ _ c.requires.0 c.args.places c.requires.1 _ (MatchOption-at_some _ _ _ c.unwrap-path.ensures c.path_in.ensures) _
    (written_len _ _ _ c.requires.0 _ _ _ _ c.write.ensures c.unwrap-len.ensures (search rules)).0

pub merged-requires : goal.merged-requires
merged-requires g c =
    tellable _ _ _ c.requires.0 (λ i. (c.type_inv.regs i).fits)
