-- `plain::update` meets its contract: the coupon changes nothing, is the first for its register, or a larger one. Assumes nothing.
use native.Mathlib.Omega.{arith}
use Rattle.plain.proofs.Coupons.{home_held, coupon_stays, coupon_first, coupon_again}
use Rattle.plain.proofs.update.Goals as goal

pub get_raw-old_value-requires : goal.get_raw-old_value-requires
get_raw-old_value-requires g c = home_held c.requires.shaped _ c.home-slot.ensures

pub returns-then-new_value-old_value : goal.returns-then-new_value-old_value
returns-then-new_value-old_value g c =
    coupon_stays c.requires _ c.home-slot.ensures c.value-new_value.ensures c.get_raw-old_value.ensures c.if-new_value-old_value.true

pub put_raw-requires : goal.put_raw-requires
put_raw-requires g c =
    (home_held c.requires.shaped _ c.home-slot.ensures, omega (arith, c.value-new_value.ensures))

pub overflow_sub-result : goal.overflow_sub-result
overflow_sub-result g c =
    omega (arith, (coupon_first c.requires _ c.home-slot.ensures c.value-new_value.ensures c.get_raw-old_value.ensures c.if-new_value-old_value.false c.put_raw.ensures c.if-old_value-eq0.true).0)

pub returns-then-old_value-eq0 : goal.returns-then-old_value-eq0
returns-then-old_value-eq0 g c =
    (coupon_first c.requires _ c.home-slot.ensures c.value-new_value.ensures c.get_raw-old_value.ensures c.if-new_value-old_value.false c.put_raw.ensures c.if-old_value-eq0.true).1

pub returns : goal.returns
returns g c =
    coupon_again c.requires _ c.home-slot.ensures c.value-new_value.ensures c.get_raw-old_value.ensures c.if-new_value-old_value.false c.put_raw.ensures c.if-old_value-eq0.false
