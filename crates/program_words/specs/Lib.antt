pub mod CreateCommand
pub mod CreateOptions
pub mod Forms
