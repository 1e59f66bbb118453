-- How few blocks a write changed, after calls that only looked.
use Rattle.std.proofs.Common.{◌≡◌, ℕ, ◌+◌, ◌≤◌, ◌∙◌, ap, arith}
use Rattle.path_walks.specs.store_outcome.Meanings.{Meanings}
use Rattle.block_id.specs.Contents.{pieces}
use Rattle.path_walks.specs.blob_api.BlobMap.{BlobHoldings, BlobsSteady}
use Rattle.path_contents.specs.Sparing.{IsSparingTwice}

not_more : (x y a b : ℕ) → y ≡ x → y ≤ x + a + b + 2
not_more x y a b e = omega arith

-- nothing was changed
pub unspent : {S : Type 0} (H : BlobHoldings S) (a b : S) (old size from n : ℕ) → H.changed b ≡ H.changed a → IsSparingTwice H a b old size from n
unspent H a b old size from n same = λ l told least most. not_more (H.changed a) (H.changed b) (pieces n l) (pieces size l) same

joined : (x y z a b c : ℕ) → y ≡ x → b ≡ c → z ≤ y + a + b + 2 → z ≤ x + a + c + 2
joined x y z a b c e f h = omega arith

-- a look came before
pub onward : {S : Type 0} {M : Meanings S} {H : BlobHoldings S} → BlobsSteady M H → (a b c : S) → M.loaded a b → H.changed b ≡ H.changed a → (old old2 size size2 from n : ℕ) → old ≡ old2 → size ≡ size2
    → IsSparingTwice H b c old size from n → IsSparingTwice H a c old2 size2 from n
onward {H = H} steady a b c loaded same old old2 size size2 from n o z spared = λ l told least most.
    joined (H.changed a) (H.changed b) (H.changed c) (pieces n l) (pieces size l) (pieces size2 l) same (ap (λ x. pieces x l) z)
    (spared l (steady.piece_stays a b loaded ∙ told) least (omega (arith, most, o)))
