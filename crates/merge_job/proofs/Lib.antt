pub mod Answers
pub mod Claims
pub mod Ends
pub mod Filed
pub mod Joining
pub mod Keeps
pub mod Turns
pub mod Faults
