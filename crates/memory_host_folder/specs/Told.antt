-- The folder's tree that a tree's kinds and bytes are.
use Rattle.std.specs.Prelude.{ℕ, List, map, reverse, refl}
use Rattle.std.specs.Coded.{Coded, code_by, coded×, coded_ℕ, coded_list}
use Rattle.std.specs.FinMap.{entries, from_entries}
use Rattle.std.specs.FinMap as finite_map
use Rattle.fs_model.specs.declared.attr.Kind.{Kind}
use Rattle.fs_model.specs.Codes.{kind_code}
use Rattle.fs_model.specs.Tree.{Path, Row, Tree}
use Rattle.host_attributes.specs.host_folder.Folders.{HostRow, HostPath, HostTree}

abbrev pub host_row : Row → HostRow
host_row row = record { kind = row.attr.kind; bytes = row.bytes }

-- the names from the root on
abbrev pub turned : Path × Row → HostPath × HostRow
turned e = (reverse e.0, host_row e.1)

unfoldable pub told_by : Tree → HostTree
told_by t = from_entries (map turned (entries t))

abbrev pub host_row_code : Coded HostRow
host_row_code = code_by (Kind × List ℕ) (coded× kind_code (coded_list coded_ℕ)) (λ r. (r.kind, r.bytes)) (λ p. record { kind = p.0; bytes = p.1 }) (λ _. refl)

abbrev pub host_tree_code : Coded HostTree
host_tree_code = finite_map.code (coded_list (coded_list coded_ℕ)) host_row_code
