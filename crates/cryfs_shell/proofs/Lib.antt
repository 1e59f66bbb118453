mod Drawn
pub mod Statuses
pub mod Copies
pub mod Sessions
pub mod Setups
pub mod Checks
pub mod Surveys
pub mod Migrations
pub mod Looks
pub mod TrialEnds
pub mod Doing
pub mod Naming
pub mod CallRuns
pub mod Files
mod Idle
mod Asked
-- Handed on to crates above, which name their lemmas so and needn't list them.
pub use Rattle.check_runs.proofs as check_runs_lemmas
pub use Rattle.check_runs.proofs.mount_lemmas as mount_lemmas
pub use Rattle.check_runs.proofs.mount_calls_lemmas as mount_calls_lemmas
pub use Rattle.check_runs.proofs.mount_stores_lemmas as mount_stores_lemmas
