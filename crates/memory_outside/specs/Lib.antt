pub mod Faults
pub mod FileNames
pub mod Keepers
pub mod MemoryStreams
pub mod Vaults
pub mod View
-- Handed on to crates above, which name their words so and needn't list them.
pub use Rattle.outside.specs as outside
