pub mod Asking
pub mod Cutting
pub mod Flow
pub mod Newlines
pub mod Pieces
pub mod Progress
pub mod Bytes
