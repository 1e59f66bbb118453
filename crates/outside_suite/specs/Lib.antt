pub mod Gets
pub mod Names
