mod Passing
mod Owned
mod Searching
mod Beside
mod Told
mod Surveyed
mod Counted
mod Violating
