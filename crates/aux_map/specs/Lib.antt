pub mod Sizes
pub mod Search
pub mod Grow
