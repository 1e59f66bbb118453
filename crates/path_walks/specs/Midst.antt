-- What entries, parents and ids are in the midst of a command, and after it.
use Rattle.std.specs.Prelude.{cond, ◌∷◌}
use Rattle.std.specs.declared.option.Option.{Option}
use Rattle.fs_blobs.specs.blob_api.BlobMap.{Id}
use Rattle.fs_model.specs.Tree.{Path, same_path}
use Rattle.fs_model.specs.Move.{moved}
use Rattle.dir_entries.specs.Layout.{EntryTarget}
use Rattle.path_walks.specs.Nodes.{Look}

-- entries with another one at this path
abbrev pub with_entry : (Path → Look) → Path → Option EntryTarget → Path → Look
with_entry looks q v p n = cond (same_path (n ∷ p) q) v (looks p n)

-- parents with another one at this path
abbrev pub with_parent : (Path → Id) → Path → Id → Path → Id
with_parent parents d new p = cond (same_path p d) new (parents p)

-- the blobs of the paths, with this one at the path d
abbrev pub ids_with : (Path → Id) → Path → Id → Path → Id
ids_with ids d new p = cond (same_path p d) new (ids p)

-- the blobs of the paths after what is at or below p went to q
abbrev pub moved_ids : (Path → Id) → Path → Path → Path → Id
moved_ids ids p q r = ids (moved q p r)
