pub mod Surveys
-- Handed on to crates above, which name their words so and needn't list them.
pub use Rattle.check_walk.specs as check_walk
pub use Rattle.check_walk.specs.store_api as store_api
pub use Rattle.cryfs_check.specs.check_rules as check_rules
pub use Rattle.cryfs_check.specs as cryfs_check
