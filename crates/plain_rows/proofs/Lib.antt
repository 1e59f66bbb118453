pub mod SortedLemmas
pub mod FlatLemmas
pub mod FullLemmas
pub mod PrefixLemmas
pub mod ItemLemmas
pub mod EditLemmas
pub mod PairLemmas
pub mod MovedEntries
-- Handed on to crates above, which name their lemmas so and needn't list them.
pub use Rattle.fs_model.proofs as fs_model_lemmas
