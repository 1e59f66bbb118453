-- Whether a file may end where a command has it end.
use Rattle.std.proofs.Common.{◌≡◌, ℕ, ◌+◌, ◌≤◌, Bool, false, length, max, refl, sym, ◌∙◌, ap, arith, inl, inr}
use Rattle.std.specs.Prelude.{Result, ◌||◌, min, nat_lt}
use Rattle.std.proofs.lemmas.Bool.{cases_lt, le-ltb}
use Rattle.block_id.specs.declared.fail.Fail.{Fail}
use Rattle.path_walks.specs.store_outcome.Meanings.{Meanings}
use Rattle.path_walks.specs.store_outcome.Outcome.{Outcome, first_}
use Rattle.path_walks.specs.blob_api.BlobMap.{BlobHoldings}
use Rattle.path_walks.specs.fs_blobs.Blobs.{IsBlob}
use Rattle.fs_model.specs.declared.attr.Kind.TheVariants.{File}
use Rattle.fs_model.specs.declared.limits.TheConstants.{MAX_FILE, MAX_GROWTH}
use Rattle.fs_model.specs.Tree.{is_directory}
use Rattle.fs_model.specs.Step.{is_too_long}
use Rattle.fs_model.proofs.Lengths.{end_tests}
use Rattle.path_walks.specs.declared.spots.Occupancy.{Occupancy}
use Rattle.path_walks.specs.Sights.{Finding}
use Rattle.path_walks.proofs.Found.{q, is_folder_by}
use Rattle.path_contents.proofs.Blobs.{blob_at, plain_body}

short_is : (old x : ℕ) → x ≤ MAX_FILE → x ≤ old + MAX_GROWTH → is_too_long old x ≡ false
short_is old x most grown = ap (λ b. b || nat_lt (old + MAX_GROWTH) x) (le-ltb MAX_FILE x most) ∙ le-ltb (old + MAX_GROWTH) x grown

-- what ends inside a file isn't too long
end_alone : (old end : ℕ) → old ≤ MAX_FILE → is_too_long old (max end old) ≡ is_too_long old end
end_alone old end fits = elim (cases_lt old end) [
  | inl lt ↦ let same : max end old ≡ end = omega arith in ap (is_too_long old) same
  | inr inside ↦ short_is old (max end old) (omega arith) (omega arith) ∙ sym (short_is old end (omega arith) (omega arith))
]

-- a write is told by its saturated end alone
pub write_ends : (old from len end : ℕ) → old ≤ MAX_FILE → end ≡ min (from + len) 18446744073709551615 → is_too_long old (max old (from + len)) ≡ is_too_long old end
write_ends old from len end fits e = end_tests old from len end (max end old) e refl ∙ end_alone old end fits

pub write_fits : (from len end : ℕ) → end ≡ min (from + len) 18446744073709551615 → end ≤ MAX_FILE → from + len ≤ MAX_FILE
write_fits from len end e most = omega arith

-- what was asked of the blob is said of the file that was found
pub ends_found : {S : Type 0} {M : Meanings S} {H : BlobHoldings S} {a b : S} {at : Occupancy} (end : ℕ) {r : Result Bool Fail} → at.place.attr.kind ≡ File
    → Outcome M (IsBlob H a at.place.blob.0) a b r (λ n far. H.stands_for b n.map × (far ≡ is_too_long (length n.body) end))
    → Outcome M (Finding H a at) a b r (λ w far. H.stands_for b w.map × (far ≡ is_too_long (length w.is.here.row.bytes) end))
ends_found {at = at} end kind o = first_ (λ w. blob_at w.shows (q w) w.is.here.row w.is.here.there w.stands at.place.blob.0 w.is.here.blob) o
    (λ w far h. (h.0, h.1 ∙ ap (λ z. is_too_long (length z) end) (plain_body w.shows (q w) w.is.here.row w.is.here.there (is_folder_by w false (ap is_directory kind)))))
