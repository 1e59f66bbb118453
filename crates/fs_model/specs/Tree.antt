-- The tree: a finite map from paths to rows.
use Rattle.std.specs.Prelude.{◌≡◌, ℕ, ◌+◌, ◌≤◌, Bool, true, false, cond, List, [], ◌∷◌, length, is_some, reverse, IsTrue}
use Rattle.std.specs.declared.cmp.Ordering.{Ordering}
use Rattle.std.specs.Ordering.{nat_cmp, eq_by_cmp}
use Rattle.std.specs.Cmp.Lexicographic.{slice_cmp}
use Rattle.std.specs.FinMap.{FinMap, get, entries, from_entries, insert, empty}
use Rattle.std.specs.declared.option.Option.{Option}
use Rattle.std.specs.declared.option.Option.TheVariants.{None, Some}
use Rattle.fs_model.specs.declared.attr.Attr.{Attr}
use Rattle.fs_model.specs.declared.attr.Kind.{Kind}
use Rattle.fs_model.specs.declared.attr.Kind.TheVariants.{Directory, File, Link}
use Rattle.fs_model.specs.declared.attr.TheConstants.{DIRECTORY_MODE}
use Rattle.fs_model.specs.declared.limits.TheConstants.{MAX_FILE, MAX_MODE, MAX_ENTRIES, ENTRY_SIZE}
use Rattle.fs_model.specs.Instant.{Instant}
use Rattle.fs_model.specs.Names.{IsName}
use Rattle.fs_model.specs.Fitting.{is_target}

-- a path of the tree: its names, the last one first. The root is the empty list
abbrev pub Path : Type 0
Path = List (List ℕ)

-- the path of names that are given from the root on
abbrev pub upward : List (List ℕ) → Path
upward names = reverse names

abbrev pub parent : Path → Path
parent [] = []
parent (n ∷ p) = p

abbrev pub last_name : Path → List ℕ
last_name [] = []
last_name (n ∷ p) = n

abbrev pub is_root : Path → Bool
is_root [] = true
is_root (n ∷ p) = false

-- names by their bytes, paths by their last names first
abbrev pub name_cmp : List ℕ → List ℕ → Ordering
name_cmp = slice_cmp nat_cmp

abbrev pub path_cmp : Path → Path → Ordering
path_cmp = slice_cmp name_cmp

abbrev pub same_path : Path → Path → Bool
same_path = eq_by_cmp path_cmp

-- the attributes, and the content of a file or the target of a link
pub record Row : Type 0 where
  pub attr : Attr
  pub bytes : List ℕ

abbrev pub Tree : Type 0
Tree = FinMap path_cmp Row

abbrev pub is_directory : Kind → Bool
is_directory Directory = true
is_directory File = false
is_directory Link = false

abbrev pub is_folder : Option Row → Bool
is_folder None = false
is_folder (Some row) = is_directory row.attr.kind

abbrev pub beginning : Instant
beginning = record { secs = 0; nanos = 0 }

-- mode 755 (octal), uid 0, gid 0 and all moments zero
abbrev pub root_row : Row
root_row = record {
  attr = record { kind = Directory; mode = DIRECTORY_MODE; uid = 0; gid = 0; atime = beginning; mtime = beginning; ctime = beginning };
  bytes = [];
}

-- the tree of the root alone
abbrev pub empty_tree : Tree
empty_tree = insert empty [] root_row

-- of these rows, those whose path is a name below p, by that name
abbrev pub child_entries : Path → List (Path × Row) → List (List ℕ × Row)
child_entries p [] = []
child_entries p (([], row) ∷ es) = child_entries p es
child_entries p ((n ∷ q, row) ∷ es) = cond (same_path p q) ((n, row) ∷ child_entries p es) (child_entries p es)

-- the rows whose parent is p, by their names
unfoldable pub children : Tree → Path → FinMap name_cmp Row
children t p = from_entries (child_entries p (entries t))

-- the bytes that the entry of a name takes
abbrev pub entry_size : List ℕ → ℕ
entry_size n = ENTRY_SIZE + length n

abbrev pub entries_size : {X : Type 0} → List (List ℕ × X) → ℕ
entries_size [] = 0
entries_size (e ∷ es) = entry_size e.0 + entries_size es

-- the bytes that the entries of the directory p take
abbrev pub directory_size : Tree → Path → ℕ
directory_size t p = entries_size (entries (children t p))

-- the root, and a directory above each other path
pub record IsRooted (t : Tree) : Type 0 where
  pub root : get t [] ≡ Some root_row
  pub parents : (n : List ℕ) (p : Path) → is_some (get t (n ∷ p)) ≡ true → is_folder (get t p) ≡ true

-- a directory has no bytes, a file and a link's target are within their limits
abbrev pub FitsKind : Kind → List ℕ → Type 0
FitsKind Directory bytes = bytes ≡ []
FitsKind File bytes = length bytes ≤ MAX_FILE
FitsKind Link bytes = IsTrue (is_target bytes)

pub record IsWithinLimits (row : Row) : Type 0 where
  pub content : FitsKind row.attr.kind row.bytes
  pub mode : row.attr.mode ≤ MAX_MODE

pub record IsWellFormed (t : Tree) : Type 0 where
  pub rooted : IsRooted t
  -- with the directories above it, each element of a path is one
  pub names : (n : List ℕ) (p : Path) → is_some (get t (n ∷ p)) ≡ true → IsName n
  pub rows : (p : Path) (row : Row) → get t p ≡ Some row → IsWithinLimits row
  pub directories : (p : Path) → directory_size t p ≤ MAX_ENTRIES
