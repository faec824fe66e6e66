-- `aux_map::base_for` meets its contract: no exponent is above 18. Assumes nothing.
use mathlib.Core.Path.{◌∙◌, ap}
use Prim.Native.Nat.{ℕ, ◌%◌, ◌^◌, ◌≤◌, ◌<◌}
use native.Mathlib.Nat.{mod-eq_of_lt, one-mul}
use native.Mathlib.Omega.{arith}
use lib.Pow.{pow-lt}
use Rattle.model.specs.Table.{base_for}
use Rattle.aux_map.proofs.Bases.{exponent_most}
use Rattle.aux_map.proofs.base_for.Goals as goal
use Rattle.aux_map.proofs.base_for.Goals.{After-lg_aux_arr_ints}

small : (c : After-lg_aux_arr_ints) → c.lg_aux_arr_ints.result ≤ 18
small c =
    omega (arith, c.lg_aux_arr_ints.ensures, exponent_most _ c.requires.below)

pub overflow_shl-result : goal.overflow_shl-result
overflow_shl-result c =
    omega (arith, small c)

pub returns : goal.returns
unfolding base_for
returns c =
    let below : c.lg_aux_arr_ints.result < 64 = omega (arith, small c) in
    ap (λ (x : ℕ). x % 2 ^ 64) (one-mul (2 ^ c.lg_aux_arr_ints.result)) ∙ mod-eq_of_lt (pow-lt below) ∙ ap (λ (e : ℕ). 2 ^ e) c.lg_aux_arr_ints.ensures
