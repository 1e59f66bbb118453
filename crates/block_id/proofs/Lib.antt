pub mod Names
pub mod Candidates
pub mod Conditions
pub mod Orders
pub mod Options
pub mod Contents
