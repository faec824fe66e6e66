pub mod Bits
pub mod Firsts
pub mod Entries
pub mod Turns
pub mod Passing
pub mod Leasts
pub mod Sweeping
pub mod Verdict
