pub mod Given
pub mod Beside
pub mod Histories
pub mod Filling
pub mod Rooms
pub mod Journeys
pub mod Meeting
