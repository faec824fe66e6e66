pub mod Tells
pub mod Sound
pub mod Tests
pub mod Plain
pub mod PlainLawful
pub mod Lawful
