mod Statuses
pub mod Sessions
pub mod Telling
