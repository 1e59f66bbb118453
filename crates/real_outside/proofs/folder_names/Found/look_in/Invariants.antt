use Rattle.std.proofs.Common.{◌≤◌, vec_len}
use Rattle.outside.specs.declared.directory_names.TheConstants.{MAX_NAMES}
use Rattle.real_outside.proofs.folder_names.Found.look_in.Given as goal

abbrev pub invariant-loop-entry : goal.invariant-loop-entry
invariant-loop-entry g l = (goal.iterator-loop-entry g).can_next l.entry-iterator × (goal.iterator-loop-entry g).is_finite l.entry-iterator × (vec_len l.self.names ≤ MAX_NAMES)
