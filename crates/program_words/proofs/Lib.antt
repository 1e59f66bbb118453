pub mod FormsOf
pub mod Powers
pub mod Said
pub mod Simple
pub mod Values
pub mod Verbs
