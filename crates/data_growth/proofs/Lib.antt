pub mod Growth
pub mod Borders
pub mod Rising
