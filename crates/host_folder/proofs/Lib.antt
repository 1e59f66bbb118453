pub mod Listings
pub mod Inserts
