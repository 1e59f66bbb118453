-- A block that gets the payload of the one that it names.
use Rattle.std.specs.Prelude.{◌≡◌, ℕ, Bool, true, false, List, take, cond, Option, Some, None}
use Rattle.store_api.specs.Content.{Id, Content, same_id, SameContent}

-- what the block after this one holds
abbrev pub after : Content → Option (List ℕ) → Option (List ℕ)
after content None = None
after content (Some bytes) = content (take 16 bytes)

-- where it was found, the new content has it under the id, and else the content is as it was
abbrev pub ContentFollows : Content → Content → Id → Bool → Type 0
ContentFollows old new id true = (payload : List ℕ) × (after old (old id) ≡ Some payload) × ((other : Id) → new other ≡ cond (same_id other id) (Some payload) (old other))
ContentFollows old new id false = (after old (old id) ≡ None) × SameContent old new
