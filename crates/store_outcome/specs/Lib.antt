pub mod Meanings
pub mod Outcome
pub mod Lift
pub mod InMemory
