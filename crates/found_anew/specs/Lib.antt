pub mod Renewing
-- Handed on to crates above, which name their words so and needn't list them.
pub use Rattle.anew.specs as anew
pub use Rattle.found_blocks.specs as found_blocks
