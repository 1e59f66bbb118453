pub mod Settings
pub mod Format
pub mod Json
pub mod Sealing
pub mod ConfigOf
-- Handed on to crates above, which name their words so and needn't list them.
pub use Rattle.aes_gcm.specs as aes_gcm
