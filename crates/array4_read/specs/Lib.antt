pub mod Asks
pub mod Fits
