-- What two loads saw, and what a put makes of it.
use Rattle.std.proofs.Common.{◌≡◌, ℕ, Bool, true, false, cond, List, refl, sym, ◌∙◌, ap}
use Rattle.std.specs.Prelude.{take, Option, Some, None}
use Rattle.std.specs.FinMap as fin
use Rattle.std.specs.FinMap.{get-insert}
use Rattle.std.specs.Cmp.Lexicographic.{nat_list_cmp_total}
use Rattle.store_api.specs.Content.{Id, Content, same_id, SameContent, Changes, or_else, over}
use Rattle.memory_stores.specs.Followed.{after, ContentFollows}

-- the second block as the first content has it
pub seen : (old mid : Content) (id : Id) (bytes next : List ℕ) (second : Option (List ℕ)) → SameContent old mid → Some bytes ≡ old id → next ≡ take 16 bytes → second ≡ mid next → after old (old id) ≡ second
seen old mid id bytes next second same first is there = ap (after old) (sym first) ∙ (sym (same (take 16 bytes)) ∙ (ap mid (sym is) ∙ sym there))

pub found_none : (old mid new : Content) (id : Id) (bytes next : List ℕ) → SameContent old mid → SameContent mid new → Some bytes ≡ old id → next ≡ take 16 bytes → None ≡ mid next → ContentFollows old new id false
found_none old mid new id bytes next same later first is there = (seen old mid id bytes next None same first is there, λ other. later other ∙ same other)

picked : (b : Bool) (payload : List ℕ) (o : Option (Option (List ℕ))) (c : Option (List ℕ)) → or_else (cond b (Some (Some payload)) o) c ≡ cond b (Some payload) (or_else o c)
picked true payload o c = refl
picked false payload o c = refl

-- the content with the payload put in
pub put_over : (changes : Changes) (content : Content) (id payload : List ℕ) (other : Id) → over (fin.insert changes id (Some payload)) content other ≡ cond (same_id other id) (Some payload) (over changes content other)
put_over changes content id payload other = ap (λ o. or_else o (content other)) (get-insert nat_list_cmp_total changes id (Some payload) other) ∙ picked (same_id other id) payload (fin.get changes other) (content other)

pub found_some : (old mid late new : Content) (id : Id) (bytes next payload : List ℕ) → SameContent old mid → SameContent mid late → Some bytes ≡ old id → next ≡ take 16 bytes → Some payload ≡ mid next
    → ((other : Id) → new other ≡ cond (same_id other id) (Some payload) (late other)) → ContentFollows old new id true
found_some old mid late new id bytes next payload same later first is there put =
    (payload, seen old mid id bytes next (Some payload) same first is there, λ other. put other ∙ ap (cond (same_id other id) (Some payload)) (later other ∙ same other))
