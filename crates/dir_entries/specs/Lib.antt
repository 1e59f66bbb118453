pub mod Layout
pub mod Reading
pub mod Places
pub mod Renaming
