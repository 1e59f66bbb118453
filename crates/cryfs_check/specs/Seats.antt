-- What a whole walk finds: each path with its row, its blob and the blocks of that; and the paths that it has yet to visit.
use Rattle.std.specs.Prelude.{◌≡◌, ◌⊎◌, ◌≤◌, ℕ, true, List, [], ◌∷◌, ◌++◌, length, map, Option, Some, None, is_some}
use Rattle.std.specs.FinMap.{find, from_entries}
use Rattle.block_id.specs.Fresh.{zero_id}
use Rattle.check_rules.specs.blob_api.BlobMap.{BlobMap}
use Rattle.check_rules.specs.data_tree.Stored.{BlobTree}
use Rattle.check_rules.specs.dir_entries.Layout.{EntryTarget, Listing}
use Rattle.check_rules.specs.path_walks.Nodes.{Look, IsBodyOf}
use Rattle.check_rules.specs.fs_blobs.Headers.{blob}
use Rattle.fs_model.specs.declared.attr.Attr.{Attr}
use Rattle.fs_model.specs.declared.attr.Kind.{Kind}
use Rattle.fs_model.specs.declared.attr.Kind.TheVariants.{Directory, File, Link}
use Rattle.fs_model.specs.declared.limits.TheConstants.{MAX_ENTRIES}
use Rattle.fs_model.specs.Names.{IsName}
use Rattle.fs_model.specs.Tree.{Path, Row, Tree, path_cmp, root_row, IsWithinLimits}
use Rattle.check_rules.specs.store_api.Content.{Id, Content}
use Rattle.check_rules.specs.store_api.Holdings.{has_id}
use Rattle.cryfs_check.specs.Rows.{FitsRow}

-- a path to visit: what its entry says, and the blob of its directory
pub record Site : Type 0 where
  pub path : Path
  pub attr : Attr
  pub id : Id
  pub parent : Id

-- a path that was visited, with its blob
pub record Seat : Type 0 where
  pub path : Path
  pub attr : Attr
  -- a file's content or a link's target
  pub bytes : List ℕ
  pub id : Id
  -- what the header names
  pub parent : Id
  pub body : List ℕ
  -- a directory's entries
  pub listing : Listing
  pub ids : List Id

abbrev pub row_of : Seat → Row
row_of s = record { attr = s.attr; bytes = s.bytes }

abbrev pub site_of : Seat → Site
site_of s = record { path = s.path; attr = s.attr; id = s.id; parent = s.parent }

abbrev pub text_of : Seat → List ℕ
text_of s = blob s.attr.kind s.parent s.body

abbrev pub root_site : Id → Site
root_site root = record { path = []; attr = root_row.attr; id = root; parent = zero_id }

-- the path of an entry
abbrev pub child_of : Site → List ℕ × EntryTarget → Site
child_of s e = record { path = e.0 ∷ s.path; attr = e.1.attr; id = e.1.blob; parent = s.id }

abbrev pub Among : {A : Type 0} → List A → A → Type 0
Among [] s = ⊥
Among (x ∷ xs) s = (x ≡ s) ⊎ Among xs s

abbrev pub seat_at : List Seat → Path → Option Seat
seat_at seats p = find path_cmp p (map (λ s. (s.path, s)) seats)

abbrev pub target_in : Option Seat → Option EntryTarget
target_in None = None
target_in (Some s) = Some (record { attr = s.attr; blob = s.id })

abbrev pub look_in : List Seat → Path → Look
look_in seats p n = target_in (seat_at seats (n ∷ p))

abbrev pub id_in : Option Seat → Id
id_in None = []
id_in (Some s) = s.id

-- the tree, the blobs and their ids, that seats are
abbrev pub tree_in : List Seat → Tree
tree_in seats = from_entries (map (λ s. (s.path, row_of s)) seats)

abbrev pub blobs_in : List Seat → BlobMap
blobs_in seats = from_entries (map (λ s. (s.id, text_of s)) seats)

abbrev pub ids_in : List Seat → Path → Id
ids_in seats p = id_in (seat_at seats p)

-- where a path below the root stands
pub record IsBelow (seats : List Seat) (s : Seat) (n : List ℕ) (p : Path) : Type 0 where
  pub name : IsName n
  pub above : Seat
  pub among : Among seats above
  pub path : above.path ≡ p
  pub kind : above.attr.kind ≡ Directory
  pub parent : s.parent ≡ above.id

-- the root
pub record IsRootSeat (root : Id) (s : Seat) : Type 0 where
  pub path : s.path ≡ []
  pub row : row_of s ≡ root_row
  pub id : s.id ≡ root
  pub parent : s.parent ≡ zero_id

-- these seats are a whole file system in the blocks of this content
pub record AreSeats (payload : ℕ) (B : Content) (root : Id) (seats : List Seat) : Type 0 where
  pub wide : length root ≡ 16
  pub first : Seat
  pub among_first : Among seats first
  pub is_first : IsRootSeat root first
  pub below : (s : Seat) (n : List ℕ) (p : Path) → Among seats s → s.path ≡ n ∷ p → IsBelow seats s n p
  pub at_root : (s : Seat) → Among seats s → s.path ≡ [] → s.parent ≡ zero_id
  pub tree : (s : Seat) → Among seats s → BlobTree payload B s.id (text_of s) s.ids
  pub limits : (s : Seat) → Among seats s → IsWithinLimits (row_of s)
  pub content : (s : Seat) → Among seats s → IsBodyOf s.attr.kind s.bytes (look_in seats s.path) s.body
  pub small : (s : Seat) → Among seats s → s.attr.kind ≡ Directory → length s.body ≤ MAX_ENTRIES
  pub one_path : (s r : Seat) → Among seats s → Among seats r → s.path ≡ r.path → s ≡ r
  pub apart : (s r : Seat) (x : Id) → Among seats s → Among seats r → has_id s.ids x ≡ true → has_id r.ids x ≡ true → s ≡ r
  pub all : (x : Id) → is_some (B x) ≡ true → (s : Seat) × (Among seats s × (has_id s.ids x ≡ true))

-- ---- in the midst of a walk

-- the paths that were visited, and those that are yet to be
abbrev pub sites : List Seat → List Site → List Site
sites seats pending = map site_of seats ++ pending

abbrev pub bytes_in : Kind → List ℕ → List ℕ
bytes_in Directory body = []
bytes_in File body = body
bytes_in Link body = body

-- the body of a seat has its entries and its bytes
pub record IsRowSeat (s : Seat) : Type 0 where
  pub fits : FitsRow s.attr.kind s.body s.listing
  pub bytes : s.bytes ≡ bytes_in s.attr.kind s.body

-- the directory of this path was visited and has the entry
pub record IsEntered (seats : List Seat) (s : Site) (n : List ℕ) (p : Path) : Type 0 where
  pub above : Seat
  pub among : Among seats above
  pub path : above.path ≡ p
  pub parent : s.parent ≡ above.id
  pub listed : Among above.listing (n, record { attr = s.attr; blob = s.id })

-- no two have one path
abbrev pub HaveOnePath : List Site → Type 0
HaveOnePath [] = Unit {0}
HaveOnePath (x ∷ xs) = ((s : Site) → Among xs s → s.path ≡ x.path → ⊥) × HaveOnePath xs

-- from the root on: each path but it has an entry in a directory that was visited, and each entry of those is a path
pub record AreFound (root : Id) (seats : List Seat) (pending : List Site) : Type 0 where
  pub first : (more : List Site) × (sites seats pending ≡ root_site root ∷ more)
  pub at_root : (s : Site) → Among (sites seats pending) s → s.path ≡ [] → s ≡ root_site root
  pub below : (s : Site) (n : List ℕ) (p : Path) → Among (sites seats pending) s → s.path ≡ n ∷ p → IsEntered seats s n p
  pub listed : (s : Seat) → Among seats s → (e : List ℕ × EntryTarget) → Among s.listing e → Among (sites seats pending) (child_of (site_of s) e)
  pub one_path : HaveOnePath (sites seats pending)
  pub rows : (s : Seat) → Among seats s → IsRowSeat s
