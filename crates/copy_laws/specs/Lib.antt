pub mod Importing
pub mod Questions
pub mod Ends
pub mod Walks
pub mod Laws
pub mod Exporting
pub mod ExportLaws
-- Handed on to crates above, which name their words so and needn't list them.
pub use Rattle.host_folder.specs as host_folder
pub use Rattle.store_api.specs as store_api
