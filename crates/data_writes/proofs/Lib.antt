pub mod Overwriting
pub mod Costs
pub mod Leaves
