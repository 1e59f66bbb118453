pub mod Cuts
pub mod Drops
