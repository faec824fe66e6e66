pub mod Parts
pub mod Write
