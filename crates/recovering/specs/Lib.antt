pub mod Keeping
pub mod Restoring
-- Handed on to crates above, which name their words so and needn't list them.
pub use Rattle.anew.specs as anew
