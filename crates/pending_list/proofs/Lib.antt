pub mod FileNames
pub mod InOrder
pub mod Lists
pub mod Merges
