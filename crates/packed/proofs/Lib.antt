pub mod Cells
pub mod Rooms
