pub mod Hosting
pub mod HostLaws
pub mod Finding
pub mod Runs
