pub mod Tour
