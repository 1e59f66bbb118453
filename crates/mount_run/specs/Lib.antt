pub mod Coming
pub mod Clauses
