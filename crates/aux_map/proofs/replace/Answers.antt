-- `aux_map::replace` meets its contract: that a word is there rules out the empty answer. Assumes nothing.
use Rattle.model.proofs.table.Search.{set_is_replace}
use Rattle.aux_map.proofs.Answers.{finds_found, finds_empty, found_lt}
use Prim.Native.Nat.{◌<◌}
use Rattle.std.specs.Prelude.{Ok}
use mathlib.Core.Path.{◌≡◌, sym, ◌∙◌}
use native.Mathlib.Omega.{arith}
use lib.ListN.{length}
use Rattle.aux_map.specs.Search.{finds}
use Rattle.aux_map.proofs.replace.Goals as goal
use Rattle.aux_map.proofs.replace.Goals.{In-Ok}

-- the answer, in its arm
answer : (c : In-Ok) → finds c.args.table.now c.args.slot ≡ Ok c.in-Ok.at
answer c =
    sym c.find.ensures ∙ c.in-Ok.is

inside : (c : In-Ok) → c.in-Ok.at < length c.args.table.now
inside c =
    found_lt c.args.table.now c.args.slot _ c.requires.room (answer c)

pub offset_bounds-table-at : goal.offset_bounds-table-at
offset_bounds-table-at c =
    omega (arith, inside (goal.at.offset_bounds-table-at c).In-Ok)

pub bounds-table-at : goal.bounds-table-at
bounds-table-at c =
    inside (goal.at.bounds-table-at c).In-Ok

pub returns-in-Ok : goal.returns-in-Ok
returns-in-Ok c =
    rw c.word.ensures (set_is_replace c.args.table.now c.args.slot c.args.value _ c.requires.slot (finds_found _ _ _ (answer (goal.at.returns-in-Ok c).In-Ok)).0)

pub returns-in_default : goal.returns-in_default
returns-in_default c = absurd (c.requires.present (finds_empty _ _ _ (sym c.find.ensures ∙ c.in_default.is)).1)
