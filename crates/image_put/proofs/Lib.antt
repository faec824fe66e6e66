pub mod Over
pub mod Heading
pub mod Turns
pub mod Image
