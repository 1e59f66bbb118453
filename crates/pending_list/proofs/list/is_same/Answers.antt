use Rattle.std.proofs.Common.{◌∙◌}
use Rattle.pending_list.proofs.FileNames.{same_names}
use Rattle.pending_list.proofs.list.is_same.Goals as goal

pub returns : goal.returns
returns c = c.eq.ensures ∙ same_names c.args.a.now c.args.b.now
