pub mod Feeding
pub mod Outcomes
