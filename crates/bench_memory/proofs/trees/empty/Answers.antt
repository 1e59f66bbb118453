use Rattle.std.proofs.Common.{◌≡◌, ◌∙◌, sym, ℕ, List, ap, length, arith}
use Rattle.std.specs.Prelude.{Option}
use Rattle.std.specs.FinMap as fin
use Rattle.std.specs.FinMap.{len-empty, len-entries}
use Rattle.std.proofs.lemmas.List.{length-map}
use Rattle.memory_stores.specs.store_api.Content.{id_cmp, Changes}
use Rattle.bench_memory.proofs.trees.empty.Goals as goal

pub new-requires-2-clause-few : goal.new-requires-2-clause-few
new-requires-2-clause-few c =
    let rows : Changes = c.new.result.rows in
    let none : length (fin.keys rows) ≡ 0 = length-map (fin.entries rows) (λ e. e.0) ∙ sym (len-entries rows) ∙ (ap (λ (m : Changes). fin.len m) c.new.ensures.rows ∙ len-empty id_cmp (Option (List ℕ))) in
    omega (arith, none)
