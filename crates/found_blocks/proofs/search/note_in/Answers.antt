use Rattle.std.proofs.Common.{◌∙◌, ap, sym}
use Rattle.store_api.specs.Holdings.{has_id}
use Rattle.found_blocks.specs.Searching.{keys_in}
use Rattle.found_blocks.proofs.Trees.{keys_has, keys_put}
use Rattle.found_blocks.proofs.search.note_in.Goals as goal

pub returns-clause-ok : goal.returns-clause-ok
returns-clause-ok c = (
  keys_has c.args.id.now.0 c.args.asked.now.entries ∙ (sym c.contains_key.ensures ∙ c.if-contains_key.false),
  λ other has. ap (λ es. has_id (keys_in es) other) c.in_ok-insert.ensures.entries ∙ (keys_put c.args.asked.now.entries c.args.id.now _ other ∙ has),
)
