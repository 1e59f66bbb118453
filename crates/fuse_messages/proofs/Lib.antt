pub mod Codecs
pub mod Written
