use Rattle.std.proofs.Common.{refl, subst}
use Rattle.path_walks.specs.store_outcome.Outcome.{passed}
use Rattle.fs_model.specs.declared.error.FsError.TheVariants.{IsDirectory}
use Rattle.fs_model.specs.Tree.{upward}
use Rattle.fs_model.specs.Step as model
use Rattle.path_walks.proofs.Commands.{reached_none, reached_row}
use Rattle.path_walks.specs.Reaching.{ReachedIs, HaveRowModes}
use Rattle.path_contents.proofs.content.truncate.Goals as goal

pub returns-in-Ok-Refused-clause-outcome : goal.returns-in-Ok-Refused-clause-outcome
returns-in-Ok-Refused-clause-outcome g c = reached_none IsDirectory c.in-Ok-Refused.ensures.outcome (λ t p s. model.truncated t c.args.now p c.args.len s) c.in-Ok-Refused.field-0-is (λ t. refl) (λ t k d. refl) (λ t k d x. refl)

pub returns-in-Ok-Row-clause-outcome : goal.returns-in-Ok-Row-clause-outcome
returns-in-Ok-Row-clause-outcome g c =
    reached_row IsDirectory c.in-Ok-Row.ensures.outcome (λ t p s. model.truncated t c.args.now p c.args.len s) g.met.B.Blobs.lawful (λ n. subst (ReachedIs n.tree n.ids (upward c.args.names.now) IsDirectory) c.in-Ok-Row.field-0-is) c.truncate_found.ensures.outcome

pub truncate_found-requires-clause-mode : goal.truncate_found-requires-clause-mode
truncate_found-requires-clause-mode g c = (subst HaveRowModes c.in-Ok-Row.field-0-is c.in-Ok-Row.ensures.modes).1

pub returns-in-Err-clause-outcome : goal.returns-in-Err-clause-outcome
returns-in-Err-clause-outcome g c = passed c.in-Err.ensures.outcome
