-- Which ids are free of the rows of found blocks.
use Rattle.std.specs.Prelude.{◌≡◌, ◌<◌, ◌+◌, ◌-◌, ◌^◌, ◌&&◌, Bool, true, false, not, List, length, is_some}
use Rattle.std.proofs.Common.{refl, sym, ◌∙◌, ap, arith}
use Rattle.std.specs.Option.{option_map}
use Rattle.std.specs.declared.option.Option.{Option}
use Rattle.std.specs.declared.option.Option.TheVariants.{None, Some}
use Rattle.block_id.specs.Fresh.{IsFirstFree, zero_id}
use Rattle.block_id.specs.Name.{next_id}
use Rattle.block_id.proofs.Candidates.{value, behind}
use Rattle.store_api.specs.Content.{Id, same_id}
use Rattle.store_api.specs.Holdings.{has_id, is_free}
use Rattle.store_api.specs.Passing.{PassedOver}
use Rattle.store_api.proofs.Crowds.{passed-few, passed-next}
use Rattle.found_blocks.specs.declared.rows.FoundRow.{FoundRow}
use Rattle.found_blocks.specs.Rows.{Author, Authors, author_in, author_of, ids_in}
use Rattle.found_blocks.specs.StoreLaws.{has_row}

same_some : (row : Option FoundRow) (author : Option Author) → option_map author_of row ≡ author → is_some row ≡ is_some author
same_some None author e = ap is_some e
same_some (Some row) author e = ap is_some e

pub has_where_found : (rows : Authors) (id : Id) (row : Option FoundRow) (answer : Bool) → option_map author_of row ≡ author_in rows id → answer ≡ is_some row → answer ≡ has_id (ids_in rows) id
has_where_found rows id row answer found is = is ∙ (same_some row (author_in rows id) found ∙ sym (has_row rows id))

pub free_where : (used : List Id) (id : Id) (has zero : Bool) → has ≡ has_id used id → zero ≡ same_id id zero_id → has ≡ false → not zero ≡ is_free used id
free_where used id has zero is at none = ap not at ∙ ap (λ b. not b && not (same_id id zero_id)) (sym none ∙ is)

pub not_free_where : (used : List Id) (id : Id) (has : Bool) → has ≡ has_id used id → has ≡ true → not has ≡ is_free used id
not_free_where used id has is some = ap not some ∙ ap (λ b. not b && not (same_id id zero_id)) (sym some ∙ is)

-- one more that isn't free was passed over
pub passed-smaller : (used : List Id) (drawn id next : Id) → length used < 2 ^ 65 → (p : PassedOver (is_free used) drawn id) → is_free used id ≡ false → next ≡ next_id id
    → (length used + 2) - behind (value drawn) (value next) < (length used + 2) - behind (value drawn) (value id)
unfolding passed-next
passed-smaller used drawn id next small p not_free is =
    let q = passed-next (is_free used) drawn id next p not_free is in
    let before = passed-few used drawn id (omega arith) p in
    let after = passed-few used drawn next (omega arith) q in
    let more : q.steps ≡ p.steps + 1 = refl in
    omega (arith, before.0, before.1, after.0, after.1, more)

pub ends_free : (used : List Id) (drawn id : Id) → PassedOver (is_free used) drawn id → is_free used id ≡ true → IsFirstFree (is_free used) drawn id
ends_free used drawn id p free = record { free = free; steps = p.steps; reached = p.reached; first = p.first }
