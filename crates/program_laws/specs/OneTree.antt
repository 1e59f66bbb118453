-- Trees that are shown or kept are one.
use Rattle.std.specs.Prelude.{◌≡◌, List, ℕ}
use Rattle.std.specs.declared.option.Option.{Option}
use Rattle.mount.specs.blob_api.BlobMap.{Id, BlobMap}
use Rattle.mount.specs.config_file.Settings.{Settings}
use Rattle.mount.specs.path_walks.Shows.{ShowsTree}
use Rattle.fs_model.specs.Tree.{Tree}
use Rattle.mount.specs.Representing.{Represents}
use Rattle.outside.specs.Trace.{Call}
use Rattle.mount.specs.path_layer.Showing.{ShowsFiles}

-- two trees that the same blobs show from the same root on are the same
abbrev pub OneShown : Type 0
OneShown = (m : BlobMap) (root : Id) (one other : Tree) → ShowsTree m root one → ShowsTree m root other → one ≡ other

-- two trees for which the same record and the same calls on the directory stand are the same
abbrev pub OneKept : Type 0
OneKept = (kept : Option (List ℕ)) (calls : Option (List Call)) (c : Settings) (one other : Tree) → Represents ShowsFiles kept calls c one → Represents ShowsFiles kept calls c other → one ≡ other
