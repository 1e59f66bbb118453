pub mod Runs
pub mod StoredFiles
