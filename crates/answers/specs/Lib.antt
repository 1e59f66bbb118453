pub mod Texts
pub mod Shown
pub mod Sessions
pub mod Hosts
pub mod RanLaws
pub mod Summaries
pub mod Telling
-- Handed on to crates above, which name their words so and needn't list them.
pub use Rattle.script_text.specs as script_text
