pub mod Scan
pub mod Shared
