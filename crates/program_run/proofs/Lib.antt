pub mod Carried
mod Written
pub mod One
pub mod All
pub mod Formats
