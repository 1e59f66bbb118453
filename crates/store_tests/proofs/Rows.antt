-- Rows of a store in memory.
use Rattle.std.proofs.Common.{◌≡◌, ℕ, List, Option, ◌∙◌, ap, sym, length, arith}
use Rattle.std.specs.FinMap as fin
use Rattle.std.specs.FinMap.{len-empty, len-entries}
use Rattle.std.proofs.lemmas.List.{length-map}
use Rattle.block_cache.specs.store_api.Content.{Changes, id_cmp}
use Rattle.block_cache.specs.store_api.Holdings.{IsFew}

pub few_nothing : (rows : Changes) → rows ≡ fin.empty → IsFew (fin.keys rows)
few_nothing rows is =
    let keys : length (fin.keys rows) ≡ fin.len rows = length-map (fin.entries rows) (λ e. e.0) ∙ sym (len-entries rows) in
    let none : fin.len rows ≡ 0 = ap (λ m. fin.len m) is ∙ len-empty id_cmp (Option (List ℕ)) in
    omega (arith, keys, none)
