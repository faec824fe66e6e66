pub mod Worded
pub mod Words
