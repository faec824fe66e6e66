pub mod Laid
pub mod Sizing
pub mod Building
pub mod Keeping
pub mod Rebuilding
pub mod Checking
pub mod Requires
