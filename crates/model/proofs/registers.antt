pub mod Lowest
pub mod Raising
pub mod Largest
pub mod Floors
pub mod FloorCounts
pub mod Turns
