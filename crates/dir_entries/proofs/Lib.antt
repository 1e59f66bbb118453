pub mod Fields
pub mod EntryCodec
pub mod Bodies
pub mod Past
pub mod Edits
pub mod Renames
pub mod Found
