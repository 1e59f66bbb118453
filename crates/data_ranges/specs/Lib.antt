pub mod Border
pub mod Ranges
