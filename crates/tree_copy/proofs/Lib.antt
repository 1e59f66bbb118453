pub mod Stack
pub mod Places
pub mod Turning
pub mod Outward
pub mod Stepping
