pub mod Held
pub mod Passing
