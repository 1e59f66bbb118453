use Rattle.fs_model.specs.Tree.{upward}
use Rattle.fs_model.proofs.MovedRows.{move_moves, upward_apart}
use Rattle.fs_model.proofs.laws.move_keeps_rows.Goals as goal

pub returns : goal.returns
returns c = λ tree wf reply differ.
    (move_moves tree c.args.now (upward c.args.from.now) (upward c.args.to.now) wf.rooted (upward_apart c.args.from.now c.args.to.now differ)).moves reply
