pub mod Largest
pub mod Names
pub mod Lines
pub mod Examples
