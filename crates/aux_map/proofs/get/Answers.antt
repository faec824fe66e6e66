-- `aux_map::get` meets its contract: the answer of `find` picks its own. Assumes nothing.
use mathlib.Core.Path.{◌≡◌, sym, ◌∙◌}
use Prim.Native.Nat.{ℕ}
use native.Mathlib.Omega.{arith}
use Rattle.std.specs.Prelude.{List, Result, Ok, Err, Some, None}
use Rattle.std.specs.Result.{result_ok}
use Rattle.aux_map.specs.Search.{finds, gets}
use Rattle.aux_map.proofs.Answers.{found_lt, gets_found, gets_empty}
use Rattle.aux_map.proofs.get.Goals as goal
use Rattle.aux_map.proofs.get.Goals.{In_ok-at}

-- what an answer was, by what `ok` makes of it
was_found : (r : Result ℕ ℕ) (i : ℕ) → result_ok r ≡ Some i → r ≡ Ok i
was_found (Ok x) i e = cc
was_found (Err x) i e = cc

none_for : (t : List ℕ) (s : ℕ) (r : Result ℕ ℕ) → r ≡ finds t s → result_ok r ≡ None → None ≡ gets t s
none_for t s (Ok x) f e = cc
none_for t s (Err x) f e = gets_empty t s x (sym f)

found : (c : In_ok-at) → finds c.args.table.now c.args.slot ≡ Ok c.in_ok-at.at
found c = sym c.find.ensures ∙ was_found _ _ (sym c.ok.ensures.value ∙ c.in_ok-at.was)

pub returns-in_err-at : goal.returns-in_err-at
returns-in_err-at c =
    c.from_residual.ensures ∙ none_for _ _ _ c.find.ensures (sym c.ok.ensures.value ∙ c.in_err-at.was)

pub offset_bounds-table-at : goal.offset_bounds-table-at
offset_bounds-table-at c = omega (arith, found_lt _ _ _ c.requires (found c))

pub bounds-table-at : goal.bounds-table-at
bounds-table-at c = found_lt _ _ _ c.requires (found (goal.at.bounds-table-at c).In_ok-at)

pub returns : goal.returns
returns c = gets_found _ _ _ _ c.value.ensures (found (goal.at.returns c).In_ok-at)
