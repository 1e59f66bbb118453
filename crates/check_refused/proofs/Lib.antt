pub mod Surveying
mod Tables
