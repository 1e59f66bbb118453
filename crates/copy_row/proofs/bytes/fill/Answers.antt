use Rattle.std.proofs.Common.{◌≡◌, ℕ, ◌-◌, ◌<◌, ◌≤◌, length, take, drop, ◌∙◌, arith}
use Rattle.std.proofs.lemmas.List.{length-take, length-drop}
use Rattle.copy_row.proofs.Filling.{read_more, read_end, filled_all, put_length}
use Rattle.copy_row.proofs.bytes.fill.Goals as goal

pub loop-len-preserved : goal.loop-len-preserved
loop-len-preserved g c =
    let size : ℕ = length c.loop-len.piece in
    let part = length-take (size - c.loop-len.len) (drop c.loop-len.len c.loop-len.piece) in
    let left = length-drop c.loop-len.len c.loop-len.piece in
    let new : length c.read.new.piece ≡ size - c.loop-len.len = omega (arith, c.read.auto.piece, part, left) in
    let long = put_length c.loop-len.len c.loop-len.piece c.read.new.piece c.loop-len.invariant.room new in
    let some : 0 < c.in-Ok.n = omega (arith, c.in-Ok.n-test.1) in
    let few : c.in-Ok.n ≤ length c.read.new.piece = omega (arith, c.in-Ok.ensures.bound, part, left, new) in
    let far = c.in-Ok.ensures.far some in
    record {
      same = c.in-Ok.ensures.same ∙ c.loop-len.invariant.same;
      faults = c.in-Ok.ensures.quiet ∙ c.loop-len.invariant.faults;
      room = omega (arith, long, few, new, c.loop-len-test.true);
      far = λ h. omega (arith, far);
      told = λ h. read_more (g.F.Folder.tree c.loop-len.host) (g.F.Folder.tree c.args.host.now) c.args.path.now c.args.from c.loop-len.len c.in-Ok.n c.loop-len.piece _ c.read.new.piece _
          c.loop-len.invariant.same c.loop-len.invariant.room few c.loop-len.invariant.told c.in-Ok.ensures.ok;
    }

pub returns-in-Ok-eq0-clause-told : goal.returns-in-Ok-eq0-clause-told
returns-in-Ok-eq0-clause-told g c =
    let size : ℕ = length c.loop-len.piece in
    let part = length-take (size - c.loop-len.len) (drop c.loop-len.len c.loop-len.piece) in
    let left = length-drop c.loop-len.len c.loop-len.piece in
    let new : length c.read.new.piece ≡ size - c.loop-len.len = omega (arith, c.read.auto.piece, part, left) in
    let some : 0 < length (take (size - c.loop-len.len) (drop c.loop-len.len c.loop-len.piece)) = omega (arith, part, left, c.loop-len-test.true) in
    read_end (g.F.Folder.tree c.loop-len.host) (g.F.Folder.tree c.args.host.now) c.args.path.now c.args.from c.loop-len.len c.in-Ok-eq0.field-0 c.loop-len.piece (take (size - c.loop-len.len) (drop c.loop-len.len c.loop-len.piece)) c.read.new.piece
    (drop (size - c.loop-len.len) (drop c.loop-len.len c.loop-len.piece)) c.loop-len.invariant.same c.in-Ok-eq0.field-0-test c.loop-len-test.true
    (put_length c.loop-len.len c.loop-len.piece c.read.new.piece c.loop-len.invariant.room new) some c.loop-len.invariant.told c.in-Ok-eq0.ensures.ok

pub returns-clause-told : goal.returns-clause-told
returns-clause-told g c =
    filled_all (g.F.Folder.tree c.args.host.now) c.args.path.now c.args.from c.loop-len.len c.loop-len.piece c.loop-len-test.false c.loop-len.invariant.room
    (omega (arith, c.loop-len-test.false, c.loop-len.auto.piece, c.requires.room)) c.loop-len.invariant.told
