-- The record of a payload, by the record of what stands before its last zeros.
use Rattle.std.proofs.Common.{◌≡◌, ℕ, ◌+◌, ◌-◌, ◌≤◌, List, ◌++◌, length, refl, ◌∙◌, ap, append_assoc, arith, length-append}
use Rattle.std.specs.Prelude.{Some, replicate}
use Rattle.std.specs.Int.{w16, w32, w64, to_le_bytes}
use Rattle.block_versions.specs.BlockRecords.{Record, FitsFile, record_of, text_of}
use Rattle.block_versions.proofs.Records.{length-text, record_again}
use Rattle.block_versions.specs.sealed_store.Drafts.{filled}

-- what follows a record's text follows its payload
text_then : (r : Record) (more : List ℕ) → text_of r ++ more ≡ text_of (record r { payload = r.payload ++ more })
text_then r more = simp append_assoc

-- a record's text, filled up, is the text of the record whose payload was
pub filled_reads : (size : ℕ) (r : Record) (front plain : List ℕ) → FitsFile size r → plain ≡ text_of (record r { payload = front }) → filled (length r.payload) front ≡ r.payload → length front ≤ length r.payload
    → record_of size (filled (30 + length r.payload) plain) ≡ Some r
filled_reads size r front plain fits is whole short =
    let zeros : ℕ = length r.payload - length front in
    let len : length plain ≡ 30 + length front = ap length is ∙ length-text (record r { payload = front }) fits.id in
    let left : 30 + length r.payload - length plain ≡ zeros = omega (arith, len, short) in
    let text : filled (30 + length r.payload) plain ≡ text_of r =
    (λ i. is i ++ replicate {A = ℕ} (left i) 0) ∙ text_then (record r { payload = front }) (replicate {A = ℕ} zeros 0) ∙ ap (λ (l : List ℕ). text_of (record r { payload = l })) whole in
    ap (record_of size) text ∙ record_again size r fits

-- the id of a record that is as long as its text is said to be
pub id_wide : (r : Record) (bytes : List ℕ) → bytes ≡ text_of r → length bytes ≡ 30 + length r.payload → length r.id ≡ 16
id_wide r bytes is len =
    let version : List ℕ = to_le_bytes w64 r.version ++ r.payload in
    let client : List ℕ = to_le_bytes w32 r.client ++ version in
    let two : length (to_le_bytes w16 1) ≡ 2 = refl in
    let four : length (to_le_bytes w32 r.client) ≡ 4 = refl in
    let eight : length (to_le_bytes w64 r.version) ≡ 8 = refl in
    let whole : length bytes ≡ length (to_le_bytes w16 1 ++ (r.id ++ client)) = ap length is in
    omega (
      arith,
      length-append (to_le_bytes w16 1) (r.id ++ client),
      length-append r.id client,
      length-append (to_le_bytes w32 r.client) version,
      length-append (to_le_bytes w64 r.version) r.payload,
    )
