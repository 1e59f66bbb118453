-- The blob of a place, as the calls on bodies need it.
use Rattle.std.proofs.Common.{◌≡◌, ℕ, ◌+◌, ◌≤◌, true, false, List, length, take, drop, refl, sym, ◌∙◌, ap, subst}
use Rattle.std.specs.Prelude.{nat_lt, not, ◌&&◌, nat_le}
use Rattle.std.specs.FinMap.{get}
use Rattle.std.specs.List.{list_any}
use Rattle.std.specs.declared.option.Option.TheVariants.{Some}
use Rattle.std.proofs.lemmas.Bool.{and_parts, leb-true}
use Rattle.std.proofs.lemmas.List.{take_all}
use Rattle.path_walks.specs.blob_api.declared.blobs.TheConstants.{MAX_BLOB}
use Rattle.path_walks.specs.blob_api.BlobMap.{Id, BlobMap, BlobHoldings}
use Rattle.fs_model.specs.declared.attr.Kind.{Kind}
use Rattle.fs_model.specs.declared.attr.Kind.TheVariants.{Directory, File, Link}
use Rattle.fs_model.specs.declared.limits.TheConstants.{MAX_FILE, MAX_TARGET}
use Rattle.fs_model.specs.Names.{is_zero}
use Rattle.fs_model.specs.Tree.{Path, Row, Tree, is_directory, FitsKind}
use Rattle.path_walks.specs.fs_blobs.declared.header.TheConstants.{HEADER_LEN}
use Rattle.path_walks.specs.fs_blobs.Headers.{blob}
use Rattle.path_walks.specs.fs_blobs.Blobs.{IsBlob}
use Rattle.path_walks.specs.Nodes.{Look, IsBodyOf, IsBlobOf}
use Rattle.path_walks.specs.Shows.{above, entries_at, ShowsBy}
use Rattle.path_walks.proofs.Nodes.{above_wide, content_fits}

plain_is : (kind : Kind) (bytes : List ℕ) (look : Look) (body : List ℕ) → is_directory kind ≡ false → IsBodyOf kind bytes look body → body ≡ bytes
plain_is Directory bytes look body e c = let bad : true ≡ false = e in cc
plain_is File bytes look body e c = c
plain_is Link bytes look body e c = c

module _ {m : BlobMap} {root : Id} {t : Tree} {ids : Path → Id} (shows : ShowsBy m root t ids) (p : Path) (row : Row) (there : get t p ≡ Some row) where
  pub node : IsBlobOf m (ids p) row.attr.kind (above ids p) row.bytes (entries_at t ids p)
  node = shows.forest.nodes p row there

  pub node_fits : HEADER_LEN + length node.body ≤ MAX_BLOB
  node_fits = content_fits t ids p row.attr.kind row.bytes (entries_at t ids p) node.body (shows.well_formed.directories p) (shows.well_formed.rows p row there).content (λ k. refl) node.content

  pub node_there : (id : Id) → ids p ≡ id → get m id ≡ Some (blob row.attr.kind (above ids p) node.body)
  node_there id is = ap (get m) (sym is) ∙ node.there

  abbrev pub blob_at : {S : Type 0} {H : BlobHoldings S} {a : S} → H.stands_for a m → (id : Id) → ids p ≡ id → IsBlob H a id
  blob_at stands id is = record { map = m; stands = stands; kind = row.attr.kind; parent = above ids p; body = node.body; there = node_there id is; wide = above_wide shows p row there; fits = node_fits }

  -- of a file or a link it has the bytes
  pub plain_body : is_directory row.attr.kind ≡ false → node.body ≡ row.bytes
  plain_body plain = plain_is row.attr.kind row.bytes (entries_at t ids p) node.body plain node.content

  -- a directory has none
  pub folder_bytes : row.attr.kind ≡ Directory → 0 ≡ length row.bytes
  folder_bytes kind = sym (ap length (subst (λ k. FitsKind k row.bytes) kind (shows.well_formed.rows p row there).content))

  pub file_fits : row.attr.kind ≡ File → length row.bytes ≤ MAX_FILE
  file_fits kind = subst (λ k. FitsKind k row.bytes) kind (shows.well_formed.rows p row there).content

  -- a link's target is read whole
  pub whole_target : row.attr.kind ≡ Link → take MAX_TARGET (drop 0 row.bytes) ≡ row.bytes
  whole_target kind =
      let fits = subst (λ k. FitsKind k row.bytes) kind (shows.well_formed.rows p row there).content in
      let long = and_parts (nat_lt 0 (length row.bytes)) (nat_le (length row.bytes) MAX_TARGET && not (list_any is_zero row.bytes)) fits in
      let short = leb-true (length row.bytes) MAX_TARGET (and_parts (nat_le (length row.bytes) MAX_TARGET) (not (list_any is_zero row.bytes)) long.1).0 in
      take_all MAX_TARGET row.bytes short
