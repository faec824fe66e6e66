pub mod Outcomes
pub mod Merging
