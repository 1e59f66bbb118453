use Rattle.std.proofs.Common.{◌≡◌, ◌≤◌, refl, subst, rules}
use Rattle.outside.specs.Causes.{RoseBy}
use Rattle.record_saver.specs.declared.saver.SyncError.TheVariants.{FaultDirectory, FaultState}
use Rattle.record_saver.proofs.Steps.{leaves_memory, leaves_same, leaves_to, ok_no_error, state_directory}
use Rattle.record_saver.proofs.saver.Saver.keep_short.Goals as goal
use Rattle.block_id.proofs.Conditions.{no_fewer}

pub returns-in-Err-clause-leaves : goal.returns-in-Err-clause-leaves
returns-in-Err-clause-leaves g c =
    let M = g.S.Blocks.meanings in
    let H = g.S.Blocks.holdings in
    let D = g.S.Durable.durables in
    let R = g.S.Durable.records in
    let G = g.K.Keeper in
    let a = c.args.store.now in
    let k = c.args.self.now.keeper in
    let p = c.record_to_save.ensures in
    leaves_to M H D R G a a _ k _ _ p.same (leaves_memory M H D R G a k _ p.faults)

pub returns-clause-leaves : goal.returns-clause-leaves
returns-clause-leaves g c =
    let M = g.S.Blocks.meanings in
    let H = g.S.Blocks.holdings in
    let D = g.S.Durable.durables in
    let R = g.S.Durable.records in
    let G = g.K.Keeper in
    let a = c.args.store.now in
    let k = c.args.self.now.keeper in
    let l = c.save.new.self in
    let p = c.record_to_save.ensures in
    let calm : G.faults l ≡ G.faults k = search rules in
    leaves_to M H D R G a a _ k l _ p.same (leaves_same M H D R G a k l _ (no_fewer (G.faults k) (G.faults l) calm) (ok_no_error FaultDirectory) refl (λ is. absurd (ok_no_error FaultState is)) calm)

pub returns-then-is_err-clause-leaves : goal.returns-then-is_err-clause-leaves
returns-then-is_err-clause-leaves g c =
    let M = g.S.Blocks.meanings in
    let H = g.S.Blocks.holdings in
    let D = g.S.Durable.durables in
    let R = g.S.Durable.records in
    let G = g.K.Keeper in
    let a = c.args.store.now in
    let k = c.args.self.now.keeper in
    let l = c.save.new.self in
    let p = c.record_to_save.ensures in
    let calm = p.faults in
    let rose : RoseBy 1 (G.faults c.record_to_save.new.keeper) (G.faults l) = search rules in
    leaves_to M H D R G a a _ k l _ p.same (leaves_same M H D R G a k l _ (subst (λ n. n ≤ G.faults l) calm c.save.ensures.grows) state_directory refl (λ is. subst (λ n. RoseBy 1 n (G.faults l)) calm rose) tt)
