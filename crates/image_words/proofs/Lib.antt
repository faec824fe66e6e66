pub mod Cells
pub mod Collecting
