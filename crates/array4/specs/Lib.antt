pub mod Held
pub mod Rise
pub mod Update
