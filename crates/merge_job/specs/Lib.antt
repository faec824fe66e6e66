pub mod Merge
pub mod Promised
pub mod Claims
