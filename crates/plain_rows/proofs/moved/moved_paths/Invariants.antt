use Rattle.std.proofs.Common.{◌≡◌, take, map}
use Rattle.fs_model.specs.Tree.{upward}
use Rattle.fs_model.specs.Move.{moved}
use Rattle.plain_rows.proofs.moved.moved_paths.Given as goal

abbrev pub invariant-loop-folder : goal.invariant-loop-folder
invariant-loop-folder l = map upward l.paths.items ≡ map (λ f. moved (upward l.from) (upward l.to) (upward f.value.path)) (take l.folder-index l.folders)
