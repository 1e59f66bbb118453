use Rattle.std.proofs.Common.{[], ◌∷◌}
use Rattle.fs_model.specs.declared.command.Command.TheVariants.{Chown, Chmod, Utime}
use Rattle.copy_times.proofs.Given.{all_then, all_fails}
use Rattle.copy_times.proofs.giving.give.Goals as goal

pub returns-in-Err-clause-asks : goal.returns-in-Err-clause-asks
returns-in-Err-clause-asks g c =
    let p = c.args.path.now in
    let attr = c.args.attr.now in
    all_fails g.A.Asker.asking g.met.A.Asker.lawful c.args.asker.now c.ask_change.new.asker (Chown p attr.uid attr.gid ∷ []) (Chmod p attr.mode ∷ Utime p attr.atime attr.mtime ∷ []) c.in-Err.fail c.in-Err.ensures.asks

pub returns-in-Err-ask_change-clause-asks : goal.returns-in-Err-ask_change-clause-asks
returns-in-Err-ask_change-clause-asks g c =
    let p = c.args.path.now in
    let attr = c.args.attr.now in
    let M = g.A.Asker.asking in
    all_then M g.met.A.Asker.lawful c.args.asker.now c.ask_change.new.asker c.ask_change-2.new.asker (Chown p attr.uid attr.gid ∷ []) (Chmod p attr.mode ∷ Utime p attr.atime attr.mtime ∷ []) tt _ c.in-Ok.ensures.asks
    (all_fails M g.met.A.Asker.lawful c.ask_change.new.asker c.ask_change-2.new.asker (Chmod p attr.mode ∷ []) (Utime p attr.atime attr.mtime ∷ []) c.in-Err-ask_change.fail c.in-Err-ask_change.ensures.asks)

pub returns-clause-asks : goal.returns-clause-asks
returns-clause-asks g c =
    let p = c.args.path.now in
    let attr = c.args.attr.now in
    let M = g.A.Asker.asking in
    all_then M g.met.A.Asker.lawful c.args.asker.now c.ask_change.new.asker c.ask_change-3.new.asker (Chown p attr.uid attr.gid ∷ []) (Chmod p attr.mode ∷ Utime p attr.atime attr.mtime ∷ []) tt _ c.in-Ok.ensures.asks
    (all_then M g.met.A.Asker.lawful c.ask_change.new.asker c.ask_change-2.new.asker c.ask_change-3.new.asker (Chmod p attr.mode ∷ []) (Utime p attr.atime attr.mtime ∷ []) tt _ c.in-Ok-ask_change.ensures.asks c.ask_change-3.ensures.asks)
