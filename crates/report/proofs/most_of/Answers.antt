-- `report::most_of` meets its contract: none is above what `max` gives, and some register is that. Assumes nothing.
use Rattle.std.proofs.Common.{◌≡◌, ◌∙◌, rules, ℕ, ◌≤◌, ◌<◌, length, MatchOption, slice_index_or}
use Rattle.std.specs.List.{SomeIndex}
use Rattle.std.proofs.iter.runs.Made.{chains}
use Rattle.report.proofs.Largest.{top_most}
use Rattle.report.proofs.most_of.Goals as goal

pub returns : goal.returns
returns c =
    let R = c.args.regs.now in
    let above : MatchOption c.max.result (length R ≡ 0) (λ m. (i : ℕ) → i < length R → slice_index_or R i 0 ≤ m) = search (rules, chains) in
    let some : MatchOption c.max.result (length R ≡ 0) (λ m. SomeIndex R (λ i. slice_index_or R i 0 ≡ m)) = search (rules, chains) in
    c.unwrap_or.ensures ∙ top_most R c.max.result above some
