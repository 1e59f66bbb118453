use Rattle.memory_stores.specs.Setting.{put_all}
use Rattle.store_api.specs.Entries.{entries_of}
use Rattle.memory_stores.proofs.Put.{put_more}
use Rattle.memory_stores.proofs.rows.set_entries.Goals as goal

pub loop-entry-preserved : goal.loop-entry-preserved
loop-entry-preserved c =
    put_more c.args.entries.now c.loop-entry.entry-index c.entry-item.result c.loop-entry.rows c.set.new.rows (put_all (entries_of c.args.entries.now) c.args.rows.now)
    c.loop-entry-test.true c.entry-item.is c.loop-entry.invariant c.in_ok-set.ensures
