pub mod Digits
pub mod Packing
pub mod ByteLists
pub mod Lengths
