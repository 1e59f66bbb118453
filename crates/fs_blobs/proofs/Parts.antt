-- A blob as its header and its body.
use Rattle.std.specs.Prelude.{◌≡◌, ℕ, ◌+◌, ◌-◌, ◌≤◌, List, [], ◌∷◌, ◌++◌, length, take, drop, cond, Some}
use Rattle.std.proofs.Common.{sym, ◌∙◌, ap, arith}
use Rattle.std.specs.Int.{w16, to_le_bytes}
use Rattle.std.specs.FinMap.{get, insert, get-insert}
use Rattle.std.proofs.lemmas.List.{length-append, drop_all, append-nil}
use Rattle.std.proofs.Math.Seq.{drop-append-add, take-append_seam}
use Rattle.blob_api.specs.declared.blobs.TheConstants.{MAX_BLOB}
use Rattle.fs_blobs.specs.declared.header.TheConstants.{HEADER_LEN}
use Rattle.block_id.specs.Contents.{resized, written}
use Rattle.block_id.proofs.Contents.{resized_behind, written_behind, written_inside}
use Rattle.blob_api.specs.BlobMap.{Id, BlobMap, BlobHoldings, Has}
use Rattle.fs_model.specs.declared.attr.Kind.{Kind}
use Rattle.fs_model.specs.Kinds.{byte_of}
use Rattle.fs_model.proofs.TreeLemmas.{name_total, name_same}
use Rattle.fs_blobs.specs.Headers.{header_text, blob, BeginsWith}
use Rattle.fs_blobs.specs.Blobs.{IsBlob}

pub length-header : (kind : Kind) (parent : Id) → length parent ≡ 16 → length (header_text kind parent) ≡ 19
length-header kind parent wide = omega (arith, wide)

pub length-blob : (kind : Kind) (parent : Id) (body : List ℕ) → length parent ≡ 16 → length (blob kind parent body) ≡ 19 + length body
length-blob kind parent body wide = length-append (header_text kind parent) body ∙ ap (λ n. n + length body) (length-header kind parent wide)

pub blob_fits : (kind : Kind) (parent : Id) (body : List ℕ) → length parent ≡ 16 → HEADER_LEN + length body ≤ MAX_BLOB → length (blob kind parent body) ≤ MAX_BLOB
blob_fits kind parent body wide fits = omega (arith, length-blob kind parent body wide, fits)

-- what a blob is, as bytes
abbrev pub has_bytes : {S : Type 0} {H : BlobHoldings S} {a : S} {id : Id} → IsBlob H a id → Has H a id
has_bytes w = record { map = w.map; stands = w.stands; bytes = blob w.kind w.parent w.body; there = w.there; fits = blob_fits w.kind w.parent w.body w.wide w.fits }

pub written_body : (kind : Kind) (parent : Id) (old : List ℕ) (from : ℕ) (bytes : List ℕ) → length parent ≡ 16 → written (blob kind parent old) (19 + from) bytes ≡ blob kind parent (written old from bytes)
written_body kind parent old from bytes wide =
    ap (λ n. written (blob kind parent old) (n + from) bytes) (sym (length-header kind parent wide)) ∙ written_behind (header_text kind parent) old from bytes

pub resized_body : (kind : Kind) (parent : Id) (old : List ℕ) (n : ℕ) → length parent ≡ 16 → resized (blob kind parent old) (19 + n) ≡ blob kind parent (resized old n)
resized_body kind parent old n wide =
    ap (λ k. resized (blob kind parent old) (k + n)) (sym (length-header kind parent wide)) ∙ resized_behind (header_text kind parent) old n

pub read_behind : (kind : Kind) (parent : Id) (body : List ℕ) (from : ℕ) → length parent ≡ 16 → drop (19 + from) (blob kind parent body) ≡ drop from body
read_behind kind parent body from wide =
    ap (λ k. drop (k + from) (blob kind parent body)) (sym (length-header kind parent wide)) ∙ drop-append-add (header_text kind parent) body from

-- past every blob's end nothing is read
pub read_past : (bytes body : List ℕ) (place from count : ℕ) → length bytes ≤ place → length body ≤ from → take count (drop place bytes) ≡ take count (drop from body)
read_past bytes body place from count a b = ap (take count) (drop_all place bytes a ∙ sym (drop_all from body b))

pub parent_set : (kind : Kind) (old new : Id) (body : List ℕ) → length old ≡ 16 → length new ≡ 16 → written (blob kind old body) 3 new ≡ blob kind new body
parent_set kind old new body a b = written_inside (to_le_bytes w16 1 ++ byte_of kind ∷ []) old new body (a ∙ sym b)

pub header_alone : (kind : Kind) (parent : Id) (body : List ℕ) → length parent ≡ 16 → BeginsWith (take 19 (blob kind parent body)) kind parent
header_alone kind parent body wide =
    let is : take 19 (blob kind parent body) ≡ header_text kind parent = ap (λ k. take k (blob kind parent body)) (sym (length-header kind parent wide)) ∙ take-append_seam (header_text kind parent) body in
    record { id = wide; text = is ∙ (sym (append-nil (header_text kind parent)) ∙ ap (λ x. header_text kind parent ++ x) (sym (drop_all 19 (take 19 (blob kind parent body)) (omega (arith, ap length is, length-header kind parent wide))))) }

-- the blob that was put under an id
pub map_here : (m : BlobMap) (id : Id) (v : List ℕ) → get (insert m id v) id ≡ Some v
map_here m id v = get-insert name_total m id v id ∙ ap (λ b. cond b (Some v) (get m id)) (name_same id)
