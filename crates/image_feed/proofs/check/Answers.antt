-- `image_feed::check` meets its contract: `Outcomes` says what each return is. Assumes nothing.
use mathlib.Core.Path.{◌≡◌, sym, ap, subst}
use Rattle.model.specs.Answers.{Said}
use Rattle.model.specs.Lists.{preamble_no}
use Rattle.model.proofs.calls.Refusals.{handed_on}
use Rattle.image_feed.specs.Judged.{Judged}
use Rattle.image_feed.proofs.Outcomes.{by_sketch, by_preamble, by_coupons, all_pass}
use Rattle.image_feed.proofs.check.Goals as goal
use Rattle.image_feed.proofs.check.Goals.{In_ok-preamble}

begun : (c : In_ok-preamble) → preamble_no c.args.image.now ≡ 0
begun c = ap (λ (x : Said). x.no) (sym c.in_ok-preamble.ensures)

pub returns-in_err-check : goal.returns-in_err-check
returns-in_err-check c =
    let a = c.args in
    subst (Judged a.sketch a.regs.now a.aux.now a.scratch.now a.image.now) (sym (handed_on _ c.from_residual.ensures.1)) (by_sketch _ _ _ _ _ _ c.in_err-check.ensures)

pub returns-in_err-preamble : goal.returns-in_err-preamble
returns-in_err-preamble c =
    let a = c.args in
    subst (Judged a.sketch a.regs.now a.aux.now a.scratch.now a.image.now) (sym (handed_on _ c.from_residual-in_err-preamble.ensures.1))
    (by_preamble _ _ _ _ _ (sym c.in_ok-check.ensures) _ c.in_err-preamble.ensures)

pub coupons_in-c-requires : goal.coupons_in-c-requires
coupons_in-c-requires c = begun c

pub check-requires-2 : goal.check-requires-2
check-requires-2 c = record { passed = begun (goal.at.check-requires-2 c).In_ok-preamble; is = c.coupons_in-c.ensures }

pub returns-in_err-check-2 : goal.returns-in_err-check-2
returns-in_err-check-2 c =
    let a = c.args in
    subst (Judged a.sketch a.regs.now a.aux.now a.scratch.now a.image.now) (sym (handed_on _ c.from_residual-in_err-check-2.ensures.1))
    (by_coupons _ _ _ _ _ (sym c.in_ok-check.ensures) (begun (goal.at.returns-in_err-check-2 c).In_ok-preamble) _ c.in_err-check-2.ensures)

pub returns : goal.returns
returns c =
    (all_pass _ _ _ _ _ (sym c.in_ok-check.ensures) (begun (goal.at.returns c).In_ok-preamble) (ap (λ (x : Said). x.no) (sym c.in_ok-check-2.ensures)), c.coupons_in-c.ensures)
