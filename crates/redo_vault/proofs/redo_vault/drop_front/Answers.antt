use Rattle.std.proofs.Common.{◌-◌, arith}
use Rattle.redo_vault.proofs.Lists.{front_dropped}
use Rattle.redo_vault.proofs.redo_vault.drop_front.Goals as goal

pub returns : goal.returns
returns c =
    front_dropped c.args.list.now.items c.rotate_left.new.self.items c.truncate.new.self.items c.args.n (c.len.result - c.args.n) (omega (arith, c.args.list.now.ok.0, c.requires)) (omega (arith, c.args.list.now.ok.0, c.len.ensures)) c.rotate_left.ensures.items c.truncate.ensures.items
