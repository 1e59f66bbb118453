use Rattle.store_api.specs.Entries.{entries_of}
use Rattle.memory_stores.proofs.Put.{all_set_or_not}
use Rattle.memory_stores.proofs.rows.set_all.Goals as goal

pub returns : goal.returns
returns c =
    all_set_or_not c.set_entries.result c.args.changes.now c.args.rows.now c.set_entries.new.rows (entries_of c.entries.result.now) c.entries.ensures c.set_entries.ensures
