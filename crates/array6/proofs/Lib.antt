pub mod Coupons
pub mod Six
