-- The blob of a path, as the calls on directories and bodies need it.
use Rattle.std.proofs.Common.{◌≡◌, ℕ, ◌+◌, ◌≤◌, List, [], ◌∷◌, length, refl, sym, ◌∙◌, ap, subst, arith, cond}
use Rattle.std.specs.Prelude.{T, All, is_some, not, ◌&&◌, nat_lt, nat_le}
use Rattle.std.specs.FinMap.{get, find, put, entries, from_sorted, is_sorted, entries-from_sorted, get-from_sorted, same_map}
use Rattle.std.specs.declared.option.Option.TheVariants.{Some}
use Rattle.std.proofs.lemmas.List.Elements.{All-nil, All-cons, All-head, All-tail}
use Rattle.dir_blob.specs.blob_api.declared.blobs.TheConstants.{MAX_BLOB}
use Rattle.dir_blob.specs.blob_api.BlobMap.{Id, BlobMap, BlobHoldings}
use Rattle.fs_model.specs.declared.attr.Kind.{Kind}
use Rattle.fs_model.specs.declared.attr.Kind.TheVariants.{Directory, File, Link}
use Rattle.fs_model.specs.Tree.{Path, Row, Tree, directory_size, name_cmp, FitsKind}
use Rattle.dir_blob.specs.fs_blobs.declared.header.TheConstants.{HEADER_LEN}
use Rattle.dir_blob.specs.fs_blobs.Headers.{blob}
use Rattle.dir_blob.specs.dir_entries.Layout.{EntryTarget, Listing, body_of, IsEntry, IsListing}
use Rattle.dir_blob.specs.Directories.{IsDirectory}
use Rattle.path_walks.specs.Nodes.{Look, Lists, IsBodyOf}
use Rattle.path_walks.specs.Shows.{above, target_for, entries_at, ShowsBy}
use Rattle.path_walks.proofs.Shown.{folder_row}
use Rattle.path_walks.proofs.Sizes.{sizes_shown, body_size, found_entry}
use Rattle.std.specs.FinMap.Entries.{find-put}
use Rattle.std.proofs.lemmas.Bool.{and_parts, leb-true}
use Rattle.std.specs.List.{list_any}
use Rattle.fs_model.specs.declared.limits.TheConstants.{MAX_ENTRIES, MAX_TARGET}
use Rattle.fs_model.specs.Names.{is_zero}
use Rattle.fs_model.proofs.TreeLemmas.{same_name, name_total, name_exact}

pub lists_of : (kind : Kind) (bytes : List ℕ) (look : Look) (body : List ℕ) → kind ≡ Directory → IsBodyOf kind bytes look body → Lists look body
lists_of kind bytes look body e c = subst (λ k. IsBodyOf k bytes look body) e c

entry_ids : (listing : Listing) → All IsEntry listing → All (λ (e : List ℕ × EntryTarget). length e.1.blob ≡ 16) listing
entry_ids [] each = All-nil (λ (e : List ℕ × EntryTarget). length e.1.blob ≡ 16)
entry_ids (x ∷ xs) each = All-cons (λ (e : List ℕ × EntryTarget). length e.1.blob ≡ 16) x xs (All-head IsEntry x xs each).blob (entry_ids xs (All-tail IsEntry x xs each))

module _ {m : BlobMap} {root : Id} {t : Tree} {ids : Path → Id} (shows : ShowsBy m root t ids) where
  -- the entries of a directory
  pub lists_at : (p : Path) (row : Row) (there : get t p ≡ Some row) → row.attr.kind ≡ Directory → Lists (entries_at t ids p) (shows.forest.nodes p row there).body
  lists_at p row there kind = lists_of row.attr.kind row.bytes (entries_at t ids p) (shows.forest.nodes p row there).body kind (shows.forest.nodes p row there).content

  pub wide_at : (p : Path) (row : Row) → get t p ≡ Some row → length (ids p) ≡ 16
  wide_at [] row there = ap length shows.at_root ∙ shows.wide
  wide_at (n ∷ p) row there =
      let folder = folder_row t p (shows.well_formed.rooted.parents n p (ap is_some there)) in
      let lists = lists_at p folder.row folder.there folder.kind in
      found_entry (λ (x : EntryTarget). length x.blob ≡ 16) n lists.listing (record { attr = row.attr; blob = ids (n ∷ p) }) (entry_ids lists.listing lists.is.entries.entries)
      (lists.entries n ∙ ap (target_for (ids (n ∷ p))) there)

  pub above_wide : (p : Path) (row : Row) → get t p ≡ Some row → length (above ids p) ≡ 16
  above_wide [] row there = refl
  above_wide (n ∷ p) row there =
      let folder = folder_row t p (shows.well_formed.rooted.parents n p (ap is_some there)) in
      wide_at p folder.row folder.there

  -- the length of a directory's body
  pub size_at : (p : Path) (row : Row) (there : get t p ≡ Some row) (kind : row.attr.kind ≡ Directory) → length (body_of (lists_at p row there kind).listing) ≡ directory_size t p
  size_at p row there kind =
      let lists = lists_at p row there kind in
      body_size lists.listing lists.is.entries.entries ∙ sizes_shown t ids p lists.listing lists.is.entries.order lists.entries

  pub fits_at : (p : Path) (row : Row) (there : get t p ≡ Some row) (kind : row.attr.kind ≡ Directory) → HEADER_LEN + length (body_of (lists_at p row there kind).listing) ≤ MAX_BLOB
  fits_at p row there kind = omega (arith, size_at p row there kind, shows.well_formed.directories p)

  pub there_at : (p : Path) (row : Row) (there : get t p ≡ Some row) (kind : row.attr.kind ≡ Directory) → get m (ids p) ≡ Some (blob Directory (above ids p) (body_of (lists_at p row there kind).listing))
  there_at p row there kind =
      let node = shows.forest.nodes p row there in
      node.there ∙ (ap (λ k. Some (blob k (above ids p) node.body)) kind ∙ ap (λ z. Some (blob Directory (above ids p) z)) (lists_at p row there kind).is.text)

  -- the blob of a directory's path is a directory
  abbrev pub directory_at : {S : Type 0} {H : BlobHoldings S} {a : S} → H.stands_for a m → (p : Path) (row : Row) (there : get t p ≡ Some row) (kind : row.attr.kind ≡ Directory) (id : Id) → ids p ≡ id → IsDirectory H a id
  directory_at stands p row there kind id is = record {
    map = m;
    stands = stands;
    parent = above ids p;
    listing = (lists_at p row there kind).listing;
    there = ap (get m) (sym is) ∙ there_at p row there kind;
    entries = (lists_at p row there kind).is.entries;
    wide = above_wide p row there;
    fits = fits_at p row there kind;
  }

-- what two bodies with the same entries list
pub same_lists : (look : Look) (one other : List ℕ) (a : Lists look one) (b : Lists look other) → a.listing ≡ b.listing
same_lists look one other a b =
    let first : T (is_sorted name_cmp a.listing) = subst T (sym a.is.entries.order) tt in
    let second : T (is_sorted name_cmp b.listing) = subst T (sym b.is.entries.order) tt in
    sym (entries-from_sorted name_cmp a.listing first)
    ∙ (ap entries (same_map name_total name_exact (from_sorted a.listing) (from_sorted b.listing) (λ n.
    get-from_sorted name_cmp a.listing n first ∙ (a.entries n ∙ (sym (b.entries n) ∙ sym (get-from_sorted name_cmp b.listing n second)))))
    ∙ entries-from_sorted name_cmp b.listing second)

-- bytes that list what stands in a directory are its body
pub read_is : {m : BlobMap} {root : Id} {t : Tree} {ids : Path → Id} (shows : ShowsBy m root t ids) (p : Path) (row : Row) (there : get t p ≡ Some row) (kind : row.attr.kind ≡ Directory) (body : List ℕ)
    → Lists (entries_at t ids p) body → body ≡ body_of (lists_at shows p row there kind).listing
read_is {t = t} {ids = ids} shows p row there kind body read =
    read.is.text ∙ ap body_of (same_lists (entries_at t ids p) body (shows.forest.nodes p row there).body read (lists_at shows p row there kind))

-- entries of a directory after one comes
pub entries_with : (listing : Listing) (n : List ℕ) (target : EntryTarget) (k : List ℕ) → find name_cmp k (put name_cmp n target listing) ≡ cond (same_name k n) (Some target) (find name_cmp k listing)
entries_with listing n target k = find-put name_cmp name_total k n target listing

pub lists_with : (look : Look) (listing : Listing) (n : List ℕ) (target : EntryTarget) → ((k : List ℕ) → find name_cmp k listing ≡ look k) → IsListing (put name_cmp n target listing)
    → Lists (λ k. cond (same_name k n) (Some target) (look k)) (body_of (put name_cmp n target listing))
lists_with look listing n target found is =
    record { listing = put name_cmp n target listing; is = record { entries = is; text = refl }; entries = λ k. entries_with listing n target k ∙ ap (cond (same_name k n) (Some target)) (found k) }

-- what the blob of a path holds is within the limit of blobs
pub content_fits : (t : Tree) (ids : Path → Id) (p : Path) (kind : Kind) (bytes : List ℕ) (look : Look) (body : List ℕ) → directory_size t p ≤ MAX_ENTRIES → FitsKind kind bytes → ((k : List ℕ) → look k ≡ entries_at t ids p k)
    → IsBodyOf kind bytes look body → HEADER_LEN + length body ≤ MAX_BLOB
content_fits t ids p Directory bytes look body small fits same c =
    let size = sizes_shown t ids p c.listing c.is.entries.order (λ k. c.entries k ∙ same k) in
    omega (arith, ap length c.is.text, body_size c.listing c.is.entries.entries, size, small)
content_fits t ids p File bytes look body small fits same c = omega (arith, ap length c, fits)
content_fits t ids p Link bytes look body small fits same c =
    let long = and_parts (nat_lt 0 (length bytes)) (nat_le (length bytes) MAX_TARGET && not (list_any is_zero bytes)) fits in
    let short = leb-true (length bytes) MAX_TARGET (and_parts (nat_le (length bytes) MAX_TARGET) (not (list_any is_zero bytes)) long.1).0 in
    omega (arith, ap length c, short)
