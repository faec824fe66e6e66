pub mod PlainKept
pub mod Batch
