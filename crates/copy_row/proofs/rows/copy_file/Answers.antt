use Rattle.std.proofs.Common.{refl}
use Rattle.std.specs.declared.result.Result.TheVariants.{Err}
use Rattle.copy_row.proofs.ByKind.{stops_from, file_stops, file_row}
use Rattle.copy_row.proofs.Chains.{still_faults}
use Rattle.copy_row.proofs.rows.copy_file.Goals as goal

pub make_file-requires : goal.make_file-requires
make_file-requires g c = record { ready = c.requires.ready }

pub copy_bytes-requires-clause-ready : goal.copy_bytes-requires-clause-ready
copy_bytes-requires-clause-ready g c = c.in-Ok.ensures.ready

pub copy_bytes-requires-clause-told : goal.copy_bytes-requires-clause-told
copy_bytes-requires-clause-told g c = c.requires.told

pub returns-in-Ok-clause-ready : goal.returns-in-Ok-clause-ready
returns-in-Ok-clause-ready g c = c.copy_bytes.ensures.ready

pub returns-in-Ok-clause-same : goal.returns-in-Ok-clause-same
returns-in-Ok-clause-same g c = c.copy_bytes.ensures.same

pub returns-in-Ok-clause-faults : goal.returns-in-Ok-clause-faults
returns-in-Ok-clause-faults g c = c.copy_bytes.ensures.faults

pub returns-in-Ok-clause-stops : goal.returns-in-Ok-clause-stops
returns-in-Ok-clause-stops g c = stops_from _ _ _ c.copy_bytes.result c.in-Ok.ensures.stops c.copy_bytes.ensures.stops

pub returns-in-Ok-clause-copied : goal.returns-in-Ok-clause-copied
returns-in-Ok-clause-copied g c = file_row g.A.Asker.asking g.met.A.Asker.lawful c.args.asker.now c.make_file.new.asker c.copy_bytes.new.asker (g.F.Folder.tree c.args.host.now) c.args.at.now.host c.args.at.now.tree c.args.totals.now c.make_file.new.totals c.copy_bytes.new.totals c.copy_bytes.result c.in-Ok.ensures.asks c.in-Ok.ensures.counts c.copy_bytes.ensures.copied

pub returns-in-Err-clause-ready : goal.returns-in-Err-clause-ready
returns-in-Err-clause-ready g c = c.in-Err.ensures.ready

pub returns-in-Err-clause-same : goal.returns-in-Err-clause-same
returns-in-Err-clause-same g c = refl

pub returns-in-Err-clause-faults : goal.returns-in-Err-clause-faults
returns-in-Err-clause-faults g c = still_faults {X = Unit {0}} _ _ (Err c.in-Err.stop) c.in-Err.ensures.host refl

pub returns-in-Err-clause-stops : goal.returns-in-Err-clause-stops
returns-in-Err-clause-stops g c = c.in-Err.ensures.stops

pub returns-in-Err-clause-copied : goal.returns-in-Err-clause-copied
returns-in-Err-clause-copied g c = file_stops g.A.Asker.asking c.args.asker.now c.make_file.new.asker (g.F.Folder.tree c.args.host.now) c.args.at.now.host c.args.at.now.tree c.args.totals.now c.make_file.new.totals c.in-Err.stop c.requires.told c.in-Err.ensures.asks
