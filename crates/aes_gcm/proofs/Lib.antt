pub mod Counters
pub mod Product
pub mod Hashing
pub mod Streams
pub mod Opening
pub mod Tags
pub mod Ends
pub mod Fronts
