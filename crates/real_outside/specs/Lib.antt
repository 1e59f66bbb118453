pub mod Adapters
pub mod Faults
pub mod FileNames
pub mod FlushWords
pub mod FolderLog
pub mod Saves
pub mod StreamsAdapters
