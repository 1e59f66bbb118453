pub mod Field
pub mod Cipher
pub mod KeyExpansion
pub mod Circuit
pub mod SBox
pub mod Planes
pub mod Swaps
