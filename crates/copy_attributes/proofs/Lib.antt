pub mod Passes
pub mod Setting
pub mod Alike
