-- `get` meets its contract: a nibble below 15 is the register above cur_min, and the table has the others. Assumes nothing.
use mathlib.Core.Path.{◌≡◌, ◌∙◌}
use native.Mathlib.Omega.{arith}
use lib.ListN.{get_or}
use Rattle.model.specs.Sketch.{registers}
use Rattle.std.specs.Prelude.{Some}
use Rattle.array4_read.proofs.Held as held
use Rattle.array4_read.proofs.get.Goals as goal
use Rattle.array4_read.proofs.get.Goals.{After-get}

-- what the search yields
yields : (c : After-get) → c.get.result ≡ Some (get_or (registers c.args.s c.args.regs.now c.args.aux.now) c.args.slot 0)
yields c =
    c.get.ensures ∙ held.high_get _ _ _ c.requires.four c.requires.good _ _ c.requires.inside c.get_raw-raw.ensures c.if-raw-lt15.false _ c.table_len-size.ensures

pub get_raw-raw-requires : goal.get_raw-raw-requires
get_raw-raw-requires c =
    omega (arith, held.bytes_long _ _ _ c.requires.four c.requires.good, c.requires.inside)

pub overflow_add-result : goal.overflow_add-result
overflow_add-result c =
    omega (arith, held.low_most _ _ _ c.requires.four c.requires.good, c.if-raw-lt15.true)

pub returns-then-raw-lt15 : goal.returns-then-raw-lt15
returns-then-raw-lt15 c =
    held.low_get _ _ _ c.requires.four c.requires.good _ _ c.requires.inside c.get_raw-raw.ensures c.if-raw-lt15.true

pub table_len-size-requires : goal.table_len-size-requires
table_len-size-requires c =
    held.tabulated _ _ _ c.requires.four c.requires.good

pub slice_bounds-get-end : goal.slice_bounds-get-end
slice_bounds-get-end c =
    held.part _ _ _ c.requires.four c.requires.good _ c.table_len-size.ensures

pub get-requires : goal.get-requires
get-requires c =
    held.room _ _ _ c.requires.four c.requires.good _ _ c.requires.inside c.get_raw-raw.ensures c.if-raw-lt15.false _ c.table_len-size.ensures

pub returns : goal.returns
returns c = let told = yields (goal.at.returns c).After-get in cc
