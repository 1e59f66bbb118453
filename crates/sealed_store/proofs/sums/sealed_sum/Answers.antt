use Rattle.std.proofs.Common.{arith}
use Rattle.sealed_store.proofs.Counts.{kinds_le, sum_added}
use Rattle.sealed_store.proofs.sums.sealed_sum.Goals as goal

pub overflow_sub-files : goal.overflow_sub-files
overflow_sub-files g c =
    let le = kinds_le c.args.vault.now.list c.entries-entries.result.now c.removals-removed.result c.config_put-puts.result.0 c.entries-entries.ensures.increasing c.entries-entries.ensures.entries
    c.removals-removed.ensures c.config_put-puts.ensures.puts in
    omega (arith, le)

pub overflow_sub-files-2 : goal.overflow_sub-files-2
overflow_sub-files-2 g c =
    let le = kinds_le c.args.vault.now.list c.entries-entries.result.now c.removals-removed.result c.config_put-puts.result.0 c.entries-entries.ensures.increasing c.entries-entries.ensures.entries
    c.removals-removed.ensures c.config_put-puts.ensures.puts in
    omega (arith, le)

pub returns : goal.returns
returns g c =
    sum_added c.args.block_size c.args.removal c.args.vault.now.list c.entries-entries.result.now c.removals-removed.result c.config_put-puts.result.0 c.config_put-puts.result.1
    c.saturating_mul.result c.saturating_add.result c.saturating_mul-2.result c.saturating_add-2.result c.entries-entries.ensures.increasing c.entries-entries.ensures.entries c.removals-removed.ensures
    c.config_put-puts.ensures.puts c.config_put-puts.ensures.bytes c.saturating_mul.ensures c.saturating_add.ensures c.saturating_mul-2.ensures c.saturating_add-2.ensures
