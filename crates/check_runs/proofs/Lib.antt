pub mod Reading
pub mod Judging
pub mod Opened
pub mod Whole
pub mod Leaving
mod Looking
mod SurveyWhole
pub mod SurveyLeaving
mod Telling
pub mod Chains
-- Handed on to crates above, which name their lemmas so and needn't list them.
pub use Rattle.setup_runs.proofs as setup_runs_lemmas
pub use Rattle.setup_runs.proofs.mount_lemmas as mount_lemmas
pub use Rattle.setup_runs.proofs.mount_calls_lemmas as mount_calls_lemmas
pub use Rattle.setup_runs.proofs.mount_stores_lemmas as mount_stores_lemmas
pub use Rattle.setup_runs.proofs.session_laws_lemmas as session_laws_lemmas
pub use Rattle.check_walk.proofs.data_tree_lemmas as data_tree_lemmas
