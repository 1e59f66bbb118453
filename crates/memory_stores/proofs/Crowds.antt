-- Among more ids in a row than are used, one is free.
use Rattle.std.proofs.Common.{◌≡◌, ◌+◌, ◌-◌, ◌^◌, ◌<◌, true, false, List, length, refl, arith}
use Rattle.block_id.specs.Name.{next_id}
use Rattle.block_id.specs.Fresh.{IsFirstFree}
use Rattle.block_id.proofs.Candidates.{value, behind}
use Rattle.store_api.specs.Content.{Id}
use Rattle.store_api.specs.Holdings.{is_free}
use Rattle.store_api.specs.Passing.{PassedOver}
use Rattle.store_api.proofs.Crowds.{passed-few, passed-next}

pub passed-smaller : (used : List Id) (drawn id next : Id) → length used < 2 ^ 65 → (p : PassedOver (is_free used) drawn id) → is_free used id ≡ false → next ≡ next_id id
    → (length used + 2) - behind (value drawn) (value next) < (length used + 2) - behind (value drawn) (value id)
unfolding passed-next
passed-smaller used drawn id next small p not_free is =
    let q = passed-next (is_free used) drawn id next p not_free is in
    let before = passed-few used drawn id (omega arith) p in
    let after = passed-few used drawn next (omega arith) q in
    let more : q.steps ≡ p.steps + 1 = refl in
    omega (arith, before.0, before.1, after.0, after.1, more)

pub ends_free : (used : List Id) (drawn id : Id) → PassedOver (is_free used) drawn id → is_free used id ≡ true → IsFirstFree (is_free used) drawn id
ends_free used drawn id p free = record { free = free; steps = p.steps; reached = p.reached; first = p.first }
