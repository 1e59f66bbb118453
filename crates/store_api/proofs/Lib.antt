pub mod Rising
mod Overlays
pub mod Crowds
pub mod Draws
pub mod Ids
mod Drafts
mod Places
