-- A directory as a blob.
use Rattle.std.specs.Prelude.{◌≡◌, ◌≤◌, ◌+◌, ◌-◌, ℕ, true, false, List, ◌++◌, length, take, drop, Option, Some, None, Result, Ok, Err, IfOk}
use Rattle.std.proofs.Common.{refl, sym, ◌∙◌, ap, subst, arith}
use Rattle.std.specs.FinMap.{get, put, insert, get-insert, same_map}
use Rattle.std.specs.Ordering.{eq_by_cmp}
use Rattle.std.specs.Prelude.{Bool, cond}
use Rattle.fs_model.proofs.TreeLemmas.{name_total, name_exact}
use Rattle.fs_blobs.specs.blob_api.BlobMap.{BlobMap}
use Rattle.fs_blobs.specs.store_outcome.Meanings.{Meanings}
use Rattle.block_id.specs.declared.id.BlockId.{BlockId}
use Rattle.block_id.specs.Contents.{resized, written, pieces}
use Rattle.block_id.proofs.Contents.{length-written}
use Rattle.fs_blobs.specs.blob_api.BlobMap.{BlobsSteady, IsSparing}
use Rattle.fs_model.specs.declared.attr.Attr.{Attr}
use Rattle.fs_model.specs.Tree.{name_cmp}
use Rattle.fs_blobs.specs.Headers.{blob}
use Rattle.dir_entries.specs.Layout.{EntryTarget, entry_text, IsEntry}
use Rattle.dir_entries.specs.Places.{target_of, without, IsPlace}
use Rattle.dir_blob.specs.Directories.{HasEntries, HasName, HasNameIn, HasRoom}
use Rattle.dir_entries.proofs.Edits.{inserted, changed, removed, put_listing, without_listing, held_entry, place_within}
use Rattle.std.proofs.lemmas.List.{take_all, length-drop}
use Rattle.std.proofs.lemmas.Nat.{le-div}
use Rattle.std.proofs.Math.Nat.{div-mul-le_self}
use Rattle.fs_blobs.specs.blob_api.declared.blobs.TheConstants.{MAX_BLOB}
use Rattle.fs_blobs.specs.blob_api.BlobMap.{Id, BlobHoldings}
use Rattle.fs_model.specs.declared.attr.Kind.TheVariants.{Directory}
use Rattle.fs_blobs.specs.declared.header.TheConstants.{HEADER_LEN}
use Rattle.fs_blobs.specs.Blobs.{IsBlob}
use Rattle.fs_blobs.proofs.Parts.{map_here}
use Rattle.dir_entries.specs.Layout.{IsBody, body_of}
use Rattle.dir_blob.specs.Directories.{IsDirectory}

abbrev pub blob_of : {S : Type 0} {H : BlobHoldings S} {a : S} {id : Id} → IsDirectory H a id → IsBlob H a id
blob_of n = record { map = n.map; stands = n.stands; kind = Directory; parent = n.parent; body = body_of n.listing; there = n.there; wide = n.wide; fits = n.fits }

-- the same directory, where only blocks were loaded
abbrev pub blob_still : {S : Type 0} {H : BlobHoldings S} {a b : S} {id : Id} (n : IsDirectory H a id) → H.stands_for b n.map → IsBlob H b id
blob_still n stands = record { map = n.map; stands = stands; kind = Directory; parent = n.parent; body = body_of n.listing; there = n.there; wide = n.wide; fits = n.fits }

-- a directory that was only read
abbrev pub directory_still : {S : Type 0} {H : BlobHoldings S} {a b : S} {id : Id} (n : IsDirectory H a id) → H.stands_for b n.map → IsDirectory H b id
directory_still n stands = record { map = n.map; stands = stands; parent = n.parent; listing = n.listing; there = n.there; entries = n.entries; wide = n.wide; fits = n.fits }

pub whole : (body : List ℕ) → HEADER_LEN + length body ≤ MAX_BLOB → take MAX_BLOB (drop 0 body) ≡ body
whole body fits = take_all MAX_BLOB body (omega (arith, fits))

pub still_fits : (old : List ℕ) (from : ℕ) (bytes : List ℕ) → from + length bytes ≤ length old → HEADER_LEN + length old ≤ MAX_BLOB → HEADER_LEN + length (written old from bytes) ≤ MAX_BLOB
still_fits old from bytes le fits = omega (arith, length-written old from bytes le, fits)

-- the directory's blob after a write within its body
abbrev pub blob_written : {S : Type 0} {H : BlobHoldings S} {a b : S} {id : Id} (n : IsDirectory H a id) (from : ℕ) (bytes : List ℕ) → from + length bytes ≤ length (body_of n.listing)
    → H.stands_for b (insert n.map id (blob Directory n.parent (written (body_of n.listing) from bytes))) → IsBlob H b id
blob_written {id = id} n from bytes le stands = record {
  map = insert n.map id (blob Directory n.parent (written (body_of n.listing) from bytes));
  stands = stands;
  kind = Directory;
  parent = n.parent;
  body = written (body_of n.listing) from bytes;
  there = map_here n.map id (blob Directory n.parent (written (body_of n.listing) from bytes));
  wide = n.wide;
  fits = still_fits (body_of n.listing) from bytes le n.fits;
}

-- a slice from a place on
pub slice_rest : (bytes : List ℕ) (k : ℕ) → take (length bytes - k) (drop k bytes) ≡ drop k bytes
slice_rest bytes k = take_all (length bytes - k) (drop k bytes) (omega (arith, length-drop k bytes))

pub insert_again : (m : BlobMap) (id : Id) (v w : List ℕ) → insert (insert m id v) id w ≡ insert m id w
insert_again m id v w = same_map name_total name_exact (insert (insert m id v) id w) (insert m id w) (λ q.
    get-insert name_total (insert m id v) id w q ∙ (ap (cond (eq_by_cmp name_cmp q id) (Some w)) (get-insert name_total m id v q)
    ∙ (twice (eq_by_cmp name_cmp q id) (Some w) (Some v) (get m q) ∙ sym (get-insert name_total m id w q))))
  where
    twice : {X : Type 0} (b : Bool) (x y z : X) → cond b x (cond b y z) ≡ cond b x z
    twice true x y z = refl
    twice false x y z = refl

-- a write and a cut leave the body that they make
pub cut_stands : {S : Type 0} (H : BlobHoldings S) (b : S) (m : BlobMap) (id parent : Id) (old : List ℕ) (from : ℕ) (bytes : List ℕ) (end_ : ℕ) (after : List ℕ) → resized (written old from bytes) end_ ≡ after
    → H.stands_for b (insert (insert m id (blob Directory parent (written old from bytes))) id (blob Directory parent (resized (written old from bytes) end_))) → H.stands_for b (insert m id (blob Directory parent after))
cut_stands H b m id parent old from bytes end_ after same stands =
    subst (H.stands_for b) (insert_again m id (blob Directory parent (written old from bytes)) (blob Directory parent (resized (written old from bytes) end_)) ∙ ap (λ z. insert m id (blob Directory parent z)) same) stands

-- the body that was read is the directory's, and fits its blob
module _ {S : Type 0} {H : BlobHoldings S} {a : S} {id : Id} {body name : List ℕ} (n : HasNameIn H a id body name) where
  pub read_body : IsBody body n.named.is.listing
  read_body = record { entries = n.named.is.entries; text = n.text }

  pub read_fits : HEADER_LEN + length body ≤ MAX_BLOB
  read_fits = omega (arith, n.named.is.fits, ap length n.text)

-- the place of a name that is there
module _ {S : Type 0} {H : BlobHoldings S} {a : S} {id : Id} (name : List ℕ) (n : HasName H a id name) (front : ℕ) (back : List ℕ) (place : IsPlace name n.is.listing front (Some n.target) back) where
  was : IsEntry (name, n.target)
  was = held_entry name n.target n.is.listing front back place n.is.entries

  pub change_fits : (target : EntryTarget) → IsEntry (name, target) → front + length (entry_text (name, target)) ≤ length (body_of n.is.listing)
  change_fits target own = place_within name n.target target n.is.listing front back place was own

  pub changed_entries : (b : S) (target : EntryTarget) (bytes : List ℕ) → IsEntry (name, target) → bytes ≡ entry_text (name, target)
      → H.stands_for b (insert n.is.map id (blob Directory n.is.parent (written (body_of n.is.listing) front bytes))) → HasEntries H b n.is.map id n.is.parent (put name_cmp name target n.is.listing)
  changed_entries b target bytes own text stands =
      record {
        stands = subst (λ z. H.stands_for b (insert n.is.map id (blob Directory n.is.parent z)))
            (ap (written (body_of n.is.listing) front) text ∙ changed name n.target target n.is.listing front back place was own) stands;
        entries = put_listing name target n.is.listing front (Some n.target) back place n.is.entries own;
      }

  pub removed_entries : (b : S) (bytes : List ℕ) (end_ : ℕ) → bytes ≡ back → end_ ≡ front + length bytes
      → H.stands_for b (insert (insert n.is.map id (blob Directory n.is.parent (written (body_of n.is.listing) front bytes))) id (blob Directory n.is.parent (resized (written (body_of n.is.listing) front bytes) end_)))
      → HasEntries H b n.is.map id n.is.parent (without name n.is.listing)
  removed_entries b bytes end_ text place_end stands =
      let e : end_ ≡ front + length back = place_end ∙ ap (λ z. front + length z) text in
      let same : resized (written (body_of n.is.listing) front bytes) end_ ≡ body_of (without name n.is.listing) =
      ap (λ z. resized (written (body_of n.is.listing) front z) end_) text ∙ (ap (resized (written (body_of n.is.listing) front back)) e ∙ removed name n.target n.is.listing front back place) in
      record {
        stands = subst (H.stands_for b) (insert_again n.is.map id _ _ ∙ ap (λ z. insert n.is.map id (blob Directory n.is.parent z)) same) stands;
        entries = without_listing name n.is.listing front (Some n.target) back place n.is.entries;
      }

pub inserted_entries : {S : Type 0} {H : BlobHoldings S} {a b : S} {id : Id} (name : List ℕ) (n : HasRoom H a id name) (front : ℕ) (found : Option (Attr × BlockId)) (back : List ℕ)
    → IsPlace name n.is.listing front (target_of found) back → (target : EntryTarget) (bytes : List ℕ) → IsEntry (name, target) → bytes ≡ entry_text (name, target) ++ back
    → H.stands_for b (insert n.is.map id (blob Directory n.is.parent (written (body_of n.is.listing) front bytes))) → HasEntries H b n.is.map id n.is.parent (put name_cmp name target n.is.listing)
inserted_entries {H = H} {b = b} {id = id} name n front found back place target bytes own text stands =
    let here = subst (λ o. IsPlace name n.is.listing front o back) (sym place.finds ∙ n.absent) place in
    record {
      stands = subst (λ z. H.stands_for b (insert n.is.map id (blob Directory n.is.parent z)))
          (ap (written (body_of n.is.listing) front) text ∙ inserted name target n.is.listing front back here) stands;
      entries = put_listing name target n.is.listing front None back here n.is.entries own;
    }

-- what holds anyhow holds of an Ok
pub when_ok : {T E P : Type 0} (r : Result T E) → P → IfOk r (λ _. P)
when_ok (Ok x) h = h
when_ok (Err e) h = tt

more_pieces : (m n l : ℕ) → 1 ≤ l → m ≤ n → pieces m l ≤ pieces n l
more_pieces m n l some le = le-div (pieces m l) (n + (l - 1)) l (omega arith) (omega (arith, div-mul-le_self (m + (l - 1)) l, le))

-- the bound of a write within a body
pub sparing_within : {S : Type 0} {M : Meanings S} {H : BlobHoldings S} (steady : BlobsSteady M H) (a b : S) (body front count : ℕ) → M.intact a → 1 ≤ count → front + count ≤ body → IsSparing H a b body front count → IsSparing H a b body 0 body
sparing_within {H = H} steady a b body front count intact some within bound = λ l told least most.
    let more = more_pieces count body l (steady.piece_some a l intact told) (omega arith) in
    omega (arith, bound l told some within, more)

-- the same, from before the body was read
pub sparing_after : {S : Type 0} {M : Meanings S} {H : BlobHoldings S} (steady : BlobsSteady M H) (a b c : S) (body body2 : ℕ) → body ≡ body2 → M.loaded a b → H.changed b ≡ H.changed a
    → IsSparing H b c body 0 body → IsSparing H a c body2 0 body2
sparing_after {H = H} steady a b c body body2 same loaded unchanged bound = λ l told least most.
    let one = bound l (steady.piece_stays a b loaded ∙ told) (omega (arith, least, same)) (omega (arith, most, same)) in
    omega (arith, one, unchanged, ap (λ z. pieces z l) same)
