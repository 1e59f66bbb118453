pub mod Given
pub mod Went
