pub mod Asking
pub mod Errors
pub mod Since
pub mod Turns
