use Rattle.std.proofs.Common.{◌≤◌, []}
use Rattle.std.proofs.lemmas.List.Elements.{All-nil, All-cons}
use Rattle.fs_model.specs.declared.limits.TheConstants.{MAX_MODE}
use Rattle.blob_tests.proofs.directories.body_of_one.Goals as goal

pub encode_entries-requires-clause-modes : goal.encode_entries-requires-clause-modes
encode_entries-requires-clause-modes c = All-cons (λ e. e.1.attr.mode ≤ MAX_MODE) _ [] c.in-Some-attributes.ensures (All-nil (λ e. e.1.attr.mode ≤ MAX_MODE))
