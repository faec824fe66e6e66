pub mod Handing
pub mod Putting
