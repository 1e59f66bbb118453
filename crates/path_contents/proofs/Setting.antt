-- A row that gets another content, over blobs.
use Rattle.std.proofs.Common.{◌≡◌, ℕ, ◌≤◌, ◌+◌, zero, suc, List, [], ◌∷◌, length, refl, sym, ◌∙◌, ap, subst, arith}
use Rattle.std.specs.Prelude.{is_some}
use Rattle.std.specs.FinMap.{get, find, insert, put}
use Rattle.std.specs.declared.option.Option.TheVariants.{Some}
use Rattle.std.proofs.lemmas.Option.{none-some}
use Rattle.path_walks.specs.store_outcome.Meanings.{Meanings}
use Rattle.path_walks.specs.blob_api.declared.blobs.TheConstants.{MAX_BLOB}
use Rattle.block_id.specs.Contents.{resized, written, pieces}
use Rattle.block_id.proofs.Contents.{length-overwritten, length-resized}
use Rattle.path_walks.specs.blob_api.BlobMap.{Id, BlobMap, BlobHoldings, BlobsSteady, IsSparing}
use Rattle.fs_model.specs.declared.limits.TheConstants.{MAX_FILE}
use Rattle.fs_model.specs.declared.attr.Kind.{Kind}
use Rattle.fs_model.specs.declared.attr.Kind.TheVariants.{Directory, File}
use Rattle.fs_model.specs.Tree.{name_cmp, directory_size, FitsKind}
use Rattle.path_walks.specs.fs_blobs.declared.header.TheConstants.{HEADER_LEN}
use Rattle.path_walks.specs.fs_blobs.Headers.{blob}
use Rattle.path_walks.specs.fs_blobs.Blobs.{IsBlob}
use Rattle.path_walks.specs.dir_entries.Layout.{EntryTarget, body_of}
use Rattle.path_walks.specs.dir_blob.Directories.{HasName, HasNameIn, HasEntries}
use Rattle.path_walks.specs.Nodes.{Look, IsBodyOf, IsBlobOf}
use Rattle.path_walks.specs.Shows.{above, entries_at}
use Rattle.path_walks.proofs.Forests.{map_apart}
use Rattle.path_walks.proofs.dir_entries_lemmas.Bodies.{no_more}
use Rattle.path_walks.proofs.Shown.{content_shows}
use Rattle.path_walks.specs.Showing.{IsShownBy}
use Rattle.path_walks.specs.Entries.{Setting, SettingIn}
use Rattle.path_walks.proofs.Setting.{q, folder, row_above, present, has_name, listed, row_with, lists_then, body_here}
use Rattle.path_contents.specs.Sparing.{IsSparingTwice}
use Rattle.path_walks.proofs.Nodes.{above_wide, size_at}

module _ {S : Type 0} {H : BlobHoldings S} {a : S} {dir : Id} {e : List ℕ × EntryTarget} (w : Setting H a dir e) where
  pub some_body : 1 ≤ length (body_of (has_name w).is.listing)
  some_body = counted (length (body_of (has_name w).is.listing)) refl
    where
      counted : (k : ℕ) → length (body_of (has_name w).is.listing) ≡ k → 1 ≤ length (body_of (has_name w).is.listing)
      counted zero h = absurd (none-some (record { attr = w.row.attr; blob = w.ids (q w) }) (sym (ap (find name_cmp e.0) (no_more (has_name w).is.listing h)) ∙ present w))
      counted (suc k) h = omega arith

  -- ---- a file's content

  module _ (file : e.1.attr.kind ≡ File) where
    file_body : (kind : Kind) (bytes : List ℕ) (look : Look) (body : List ℕ) → kind ≡ File → IsBodyOf kind bytes look body → body ≡ bytes
    file_body kind bytes look body is c = subst (λ k. IsBodyOf k bytes look body) is c

    node : IsBlobOf w.map (w.ids (q w)) w.row.attr.kind (above w.ids (q w)) w.row.bytes (entries_at w.tree w.ids (q w))
    node = w.shows.forest.nodes (q w) w.row w.there

    same_body : node.body ≡ w.row.bytes
    same_body = file_body w.row.attr.kind w.row.bytes (entries_at w.tree w.ids (q w)) node.body (w.kind ∙ file) node.content

    pub short : length w.row.bytes ≤ MAX_FILE
    short = subst (λ k. FitsKind k w.row.bytes) (w.kind ∙ file) (w.shows.well_formed.rows (q w) w.row w.there).content

    pub there_file : get w.map e.1.blob ≡ Some (blob File (w.ids w.path) w.row.bytes)
    there_file = ap (get w.map) (sym w.blob) ∙ (node.there ∙ (ap (λ k. Some (blob k (w.ids w.path) node.body)) (w.kind ∙ file) ∙ ap (λ z. Some (blob File (w.ids w.path) z)) same_body))

    pub fits_file : HEADER_LEN + length w.row.bytes ≤ MAX_BLOB
    fits_file = omega (arith, short)

    abbrev pub file_blob : IsBlob H a e.1.blob
    file_blob = record {
      map = w.map;
      stands = w.stands;
      kind = File;
      parent = w.ids w.path;
      body = w.row.bytes;
      there = there_file;
      wide = above_wide w.shows (q w) w.row w.there;
      fits = fits_file;
    }

    -- the file gets these bytes
    module _ (new : List ℕ) (few : length new ≤ MAX_FILE) where
      abbrev pub map1 : BlobMap
      map1 = insert w.map e.1.blob (blob File (w.ids w.path) new)

      pub there_dir : get map1 dir ≡ Some (blob Directory (above w.ids w.path) (body_of (has_name w).is.listing))
      there_dir = map_apart w.map e.1.blob (blob File (w.ids w.path) new) dir
          (λ z. absurd (shorter (w.shows.forest.distinct w.path (q w) (ap is_some (row_above w).there) (ap is_some w.there) (w.dir_id ∙ (z ∙ sym w.blob)))))
          ∙ (has_name w).is.there
        where
          shorter : w.path ≡ q w → ⊥
          shorter z = omega (arith, ap length z)

      -- the directory after that
      abbrev pub has_name_then : (b : S) → H.stands_for b map1 → HasName H b dir e.0
      has_name_then b stands = record {
        is = record { map = map1; stands = stands; parent = above w.ids w.path; listing = (has_name w).is.listing; there = there_dir; entries = (has_name w).is.entries; wide = (has_name w).is.wide; fits = (has_name w).is.fits };
        target = record { attr = w.row.attr; blob = w.ids (q w) };
        present = present w;
      }

      pub content_set : (c : S) → HasEntries H c map1 dir (above w.ids w.path) (put name_cmp e.0 e.1 (has_name w).is.listing) → IsShownBy H c w.root (insert w.tree (q w) (row_with w new)) w.ids
      content_set c h =
          let fits : FitsKind e.1.attr.kind new = subst (λ k. FitsKind k new) (sym file) few in
          record {
            map = insert (insert w.map (w.ids (q w)) (blob e.1.attr.kind (w.ids w.path) new)) (w.ids w.path) (blob Directory (above w.ids w.path) (listed w));
            stands = subst (λ k. H.stands_for c (insert (insert w.map (w.ids (q w)) (blob k (w.ids w.path) new)) (w.ids w.path) (blob Directory (above w.ids w.path) (listed w)))) (sym file)
                (subst (λ z. H.stands_for c (insert (insert w.map z (blob File (w.ids w.path) new)) (w.ids w.path) (blob Directory (above w.ids w.path) (listed w)))) (sym w.blob)
                (subst (λ z. H.stands_for c (insert map1 z (blob Directory (above w.ids w.path) (listed w)))) (sym w.dir_id) h.stands));
            shows = content_shows w.map w.root w.tree w.ids w.shows e.0 w.path (folder w) w.row (row_with w new) w.there w.kind new (subst (λ k. IsBodyOf k new (entries_at w.tree w.ids (q w)) new) (sym file) refl) (listed w) (lists_then w h.entries) (w.well_formed new fits);
          }

    pub written_few : (from : ℕ) (bytes : List ℕ) → from + length bytes ≤ MAX_FILE → length (written w.row.bytes from bytes) ≤ MAX_FILE
    written_few from [] within = short
    written_few from (x ∷ bytes) within = omega (arith, length-overwritten w.row.bytes from (x ∷ bytes), short, within)

    pub resized_few : (n : ℕ) → n ≤ MAX_FILE → length (resized w.row.bytes n) ≤ MAX_FILE
    resized_few n within = omega (arith, length-resized w.row.bytes n)

  pub spared : {M : Meanings S} (steady : BlobsSteady M H) (b c : S) → M.loaded a b → (from n : ℕ) → IsSparing H a b (length w.row.bytes) from n
      → IsSparing H b c (length (body_of (has_name w).is.listing)) 0 (length (body_of (has_name w).is.listing)) → IsSparingTwice H a c (length w.row.bytes) (directory_size w.tree w.path) from n
  spared steady b c loaded from n first second = λ l told least most.
      let size : length (body_of (has_name w).is.listing) ≡ directory_size w.tree w.path = size_at w.shows w.path (row_above w).row (row_above w).there (row_above w).kind in
      let one = first l told least most in
      let two = second l (steady.piece_stays a b loaded ∙ told) some_body (omega arith) in
      omega (arith, one, two, ap (λ z. pieces z l) size)

  -- the entry wasn't reached
  pub spared_once : (b : S) (from n : ℕ) → IsSparing H a b (length w.row.bytes) from n → IsSparingTwice H a b (length w.row.bytes) (directory_size w.tree w.path) from n
  spared_once b from n first = λ l told least most. let one = first l told least most in omega (arith, one)

-- the body that was read is still that of the directory
abbrev pub has_name_in_then : {S : Type 0} {H : BlobHoldings S} {a : S} {dir : Id} {body : List ℕ} {e : List ℕ × EntryTarget} (w : SettingIn H a dir body e) (file : e.1.attr.kind ≡ File) (new : List ℕ) (few : length new ≤ MAX_FILE)
    (b : S) → H.stands_for b (map1 w.setting file new few) → (read : List ℕ) → read ≡ body → HasNameIn H b dir read e.0
has_name_in_then w file new few b stands read same = record { named = has_name_then w.setting file new few b stands; text = same ∙ body_here w }
