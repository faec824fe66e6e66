pub mod Play
pub mod Cases
pub mod Agreed
