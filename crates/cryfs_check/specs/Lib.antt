pub mod Rows
pub mod Seats
pub mod Places
pub mod Visits
pub mod Halts
pub mod Checks
-- Handed on to crates above, which name their words so and needn't list them.
pub use Rattle.check_rules.specs as check_rules
pub use Rattle.check_rules.specs.dir_entries as dir_entries
