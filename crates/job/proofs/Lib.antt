pub mod Examples
pub mod Lines
pub mod Parsed
pub mod Texts
pub mod Walk
