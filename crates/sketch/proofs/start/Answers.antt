-- `sketch::start` meets its contract: the shape refuses, or all is zero. Assumes nothing.
use mathlib.Core.Path.{◌≡◌, sym, ◌∙◌, ap}
use Prim.Native.Nat.{◌^◌, ◌≤◌}
use native.Mathlib.Omega.{arith}
use lib.ListN.{length, replicate}
use lib.Pow.{pow_mono}
use Rattle.std.proofs.Common.{rules}
use Rattle.std.specs.Prelude.{Result}
use Rattle.model.specs.Calls.{made_out}
use Rattle.model.specs.declared.Sketch.{Sketch}
use Rattle.model.specs.declared.Refusal.{Refusal}
use Rattle.model.proofs.calls.Refusals.{refusal_some, handed_on}
use Rattle.model.proofs.calls.Ladder.{shape_says}
use Rattle.model.proofs.calls.Places.{shape_place}
use Rattle.sketch.proofs.Outcomes.{start_no, start_ok}
use Rattle.sketch.proofs.start.Goals as goal

pub returns-in_err-check_shape : goal.returns-in_err-check_shape
returns-in_err-check_shape c =
    let a = c.args in
    let no = c.in_err-check_shape.ensures in
    ap (λ (r : Result Sketch Refusal). made_out r a.regs.now a.aux.now) (handed_on _ c.from_residual.ensures.1)
    ∙ start_no _ _ _ _ no (shape_place _ _ _ _ no) (refusal_some _)

pub num_registers-k-requires : goal.num_registers-k-requires
num_registers-k-requires c = ((shape_says _ _ _).0 (sym c.in_ok-check_shape.ensures)).high

pub overflow_cast-k : goal.overflow_cast-k
overflow_cast-k c =
    let most : 2 ^ c.args.lg_k ≤ 2 ^ 21 = pow_mono ((shape_says _ _ _).0 (sym c.in_ok-check_shape.ensures)).high in
    omega (arith, c.num_registers-k.ensures)

pub returns : goal.returns
returns c =
    let cleared : c.fill.new.self ≡ replicate (length c.args.regs.now) 0 = search rules in
    start_ok _ _ _ _ (sym c.in_ok-check_shape.ensures) c.num_registers-k.ensures c.plain.ensures cleared c.clear_area.ensures
