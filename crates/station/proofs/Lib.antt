pub mod Booked
pub mod Toured
