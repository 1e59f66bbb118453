use Rattle.std.proofs.Common.{◌≡◌, ◌+◌, ◌≤◌, T, take, drop, map}
use Rattle.std.specs.Prelude.{vec_len, vec_capacity}
use Rattle.std.specs.FinMap.{find, is_sorted}
use Rattle.fs_model.specs.Tree.{Path, path_cmp}
use Rattle.plain_rows.specs.Rows.{folder_entry}
use Rattle.plain_rows.specs.Moves.{paired}
use Rattle.plain_rows.specs.Formed.{AllFull}
use Rattle.plain_rows.proofs.rename.rebuild.Given as goal

abbrev pub invariant-loop-folder : goal.invariant-loop-folder
invariant-loop-folder l = record {
  same : vec_len l.paths ≡ vec_len l.folders;
  in_range : vec_len l.folders ≤ vec_len l.initial.folders;
  folders : l.folders.items ≡ take (vec_len l.folders) l.initial.folders.items;
  paths : l.paths.items ≡ take (vec_len l.folders) l.initial.paths.items;
  found : (r : Path) → find path_cmp r (map folder_entry l.next.items) ≡ find path_cmp r (drop (vec_len l.folders) (paired l.initial.paths.items l.initial.folders.items));
  sorted : T (is_sorted path_cmp (map folder_entry l.next.items));
  all_full : AllFull l.folders.items;
  full : AllFull l.next.items;
  room : vec_len l.next + vec_len l.folders ≤ vec_capacity l.next;
}

abbrev pub decreases-loop-folder : goal.decreases-loop-folder
decreases-loop-folder l = vec_len l.folders
