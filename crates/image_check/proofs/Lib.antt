pub mod Passing
pub mod Payload
pub mod Surveying
pub mod Aux
pub mod Descent
