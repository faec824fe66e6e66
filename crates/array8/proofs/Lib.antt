pub mod Masks
pub mod Windows
pub mod Coupons
pub mod Eight
