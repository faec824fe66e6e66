pub mod Tallies
pub mod Weights
pub mod Dyadic
pub mod Octets
