pub mod Parts
pub mod Turns
pub mod Slots
pub mod Levels
