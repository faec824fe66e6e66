pub mod Demands
pub mod Demand1
pub mod Demand3
