pub mod Ghash
pub mod Gctr
pub mod Gcm
pub mod Tables
pub mod Lengths
pub mod Opening
