pub mod Going
pub mod Copying
