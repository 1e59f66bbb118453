use Rattle.std.proofs.Common.{◌≤◌, vec_len}
use Rattle.outside.specs.declared.directory_names.TheConstants.{MAX_NAMES}
use Rattle.real_outside.proofs.folder_names.names_below.Given as goal

abbrev pub invariant-loop : goal.invariant-loop
invariant-loop g l = vec_len l.found.names ≤ MAX_NAMES
