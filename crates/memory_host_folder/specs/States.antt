-- A folder in memory: its tree, and which of its calls fail.
use Rattle.std.specs.Prelude.{◌≡◌, ◌≤◌, ℕ, ◌==◌, Bool, true, false, not, ◌||◌, List, [], length, ◌-◌, take, is_some, refl}
use Rattle.std.specs.List.{list_any}
use Rattle.std.specs.Coded.{Coded, code_by, coded×, coded_ℕ, coded_list}
use Rattle.std.specs.FinMap.{get, insert, empty}
use Rattle.std.specs.declared.option.Option.{Option}
use Rattle.std.specs.declared.option.Option.TheVariants.{None, Some}
use Rattle.std.specs.declared.result.Result.{Result}
use Rattle.std.specs.declared.result.Result.TheVariants.{Ok, Err}
use Rattle.outside.specs.Causes.{one_more}
use Rattle.outside.specs.declared.vault.GetFail.{GetFail}
use Rattle.outside.specs.declared.vault.GetFail.TheVariants.{Memory, Failed}
use Rattle.fs_model.specs.declared.limits.TheConstants.{MAX_ENTRIES}
use Rattle.fs_model.specs.Step.{by_kind}
use Rattle.fs_model.specs.Codes.{tree_code}
use Rattle.fs_model.specs.Tree.{Tree, upward, parent, is_root, directory_size, empty_tree}
use Rattle.host_attributes.specs.host_folder.Folders.{HostRow, HostPath, HostTree, directory_row}
use Rattle.memory_host_folder.specs.Told.{told_by, host_tree_code}

pub record FolderState : Type 0 where
  -- the rows with their attributes, and the tree that their kinds and bytes are
  pub rows : Tree
  pub tree : HostTree
  -- the numbers of the calls that fail, and how many calls there were since that was set
  pub failing : List ℕ
  pub calls : ℕ
  pub faults : ℕ

abbrev pub folder_code : Coded FolderState
folder_code =
    code_by (Tree × (HostTree × (List ℕ × (ℕ × ℕ))))
    (coded× tree_code (coded× host_tree_code (coded× (coded_list coded_ℕ) (coded× coded_ℕ coded_ℕ))))
    (λ s. (s.rows, (s.tree, (s.failing, (s.calls, s.faults)))))
    (λ p. record { rows = p.0; tree = p.1.0; failing = p.1.1.0; calls = p.1.1.1.0; faults = p.1.1.1.1 })
    (λ _. refl)

-- whether the next call is made to fail
abbrev pub is_listed : FolderState → Bool
is_listed s = list_any (λ n. n == one_more s.calls) s.failing

abbrev pub is_folder : Option HostRow → Bool
is_folder None = false
is_folder (Some row) = by_kind row.kind true false false

abbrev pub is_file : Option HostRow → Bool
is_file None = false
is_file (Some row) = by_kind row.kind false true false

abbrev pub is_link : Option HostRow → Bool
is_link None = false
is_link (Some row) = by_kind row.kind false false true

-- a call is made to fail, or isn't for what stands there
abbrev pub list_fails : FolderState → HostPath → Bool
list_fails s p = is_listed s || not (is_folder (get s.tree p))

abbrev pub read_fails : FolderState → HostPath → Bool
read_fails s p = is_listed s || not (is_file (get s.tree p))

abbrev pub link_fails : FolderState → HostPath → Bool
link_fails s p = is_listed s || not (is_link (get s.tree p))

-- a row can't be made there: something stands there, or it stands in no directory; the root stands always
abbrev pub make_fails : HostTree → HostPath → Bool
make_fails t p = is_some (get t p) || not (is_folder (get t (take (length p - 1) p)))

-- a new row can be made there, it isn't the root, and its directory isn't past the limit
pub record HasPlace (table : Tree) (names : HostPath) : Type 0 where
  pub place : make_fails (told_by table) names ≡ false
  pub named : is_root (upward names) ≡ false
  pub room : directory_size table (parent (upward names)) ≤ MAX_ENTRIES

abbrev pub is_failed : {X : Type 0} → Result X GetFail → Bool
is_failed (Ok x) = false
is_failed (Err Memory) = false
is_failed (Err Failed) = true

-- with other rows
abbrev pub with_rows : FolderState → Tree → HostTree → FolderState
with_rows s rows t = record s { rows = rows; tree = t }

-- the rows and what is set stay, and a call was counted
pub record OnlyCounts (old new : FolderState) : Type 0 where
  pub same : Some new.tree ≡ Some old.tree
  pub rows : Some new.rows ≡ Some old.rows
  pub counts : (new.failing ≡ old.failing) × (new.calls ≡ one_more old.calls)

-- the root alone, and no call
abbrev pub none_yet : FolderState
none_yet = record { rows = empty_tree; tree = insert empty [] directory_row; failing = []; calls = 0; faults = 0 }
