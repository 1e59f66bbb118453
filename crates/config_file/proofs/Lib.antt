pub mod Held
pub mod JsonLength
pub mod JsonReads
pub mod Lengths
pub mod Sealed
pub mod Places
pub mod Opening
pub mod Waiting
