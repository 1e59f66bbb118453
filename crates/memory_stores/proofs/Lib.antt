mod Put
mod Crowds
mod Changing
mod Living
pub mod Puts
pub mod Calm
mod Following
mod OneBatch
