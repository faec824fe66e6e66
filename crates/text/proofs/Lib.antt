pub mod Standing
pub mod Decimal
pub mod Writing
pub mod Examples
