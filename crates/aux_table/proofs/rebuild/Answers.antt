-- `aux_table::rebuild` meets its contract: `Rebuilding` says what each step leaves. Assumes nothing.
use mathlib.Core.Path.{◌≡◌}
use lib.ListN.{length, take, replicate}
use Rattle.std.proofs.Common.{rules}
use Rattle.aux_table.proofs.Rebuilding as rebuilding
use Rattle.aux_table.proofs.rebuild.Goals as goal

pub build-requires : goal.build-requires
build-requires c =
    let cleared : c.fill.new.self ≡ replicate (length (take c.args.size c.args.area.now)) 0 = search rules in
    rebuilding.buildable _ _ _ _ _ c.requires _ cleared _ _ c.keep-top.auto.into c.keep-top.ensures
