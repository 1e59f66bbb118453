pub mod Name
pub mod Fresh
pub mod Contents
pub mod Formats
