-- What commands on a tree of files show, handed on to what stands on sessions.
pub use Rattle.path_layer.specs.Performing.{Showing, is_sync, is_reader, IsReplyTo}
pub use Rattle.path_layer.specs.Showing.{ShowsFiles}
