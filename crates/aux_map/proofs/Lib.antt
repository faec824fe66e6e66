pub mod Bases
pub mod Answers
pub mod Growing
pub mod Inserting
