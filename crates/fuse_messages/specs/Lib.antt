pub mod Reading
pub mod Layout
pub mod Laws
pub mod Numbers
