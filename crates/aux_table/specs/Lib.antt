pub mod Build
pub mod Check
