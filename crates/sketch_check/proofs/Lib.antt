pub mod ByKind
pub mod Goods
