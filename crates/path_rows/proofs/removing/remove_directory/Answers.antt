use Rattle.std.proofs.Common.{refl, subst}
use Rattle.path_walks.specs.store_outcome.Outcome.{passed}
use Rattle.fs_model.specs.declared.error.FsError.TheVariants.{Busy}
use Rattle.fs_model.specs.Tree.{upward}
use Rattle.fs_model.specs.Step as model
use Rattle.path_walks.proofs.Commands.{reached_none, reached_row}
use Rattle.path_walks.specs.Reaching.{ReachedIs, HaveRowModes}
use Rattle.path_rows.proofs.removing.remove_directory.Goals as goal

pub returns-in-Ok-Refused-clause-outcome : goal.returns-in-Ok-Refused-clause-outcome
returns-in-Ok-Refused-clause-outcome g c = reached_none Busy c.in-Ok-Refused.ensures.outcome (λ t p s. model.unless_root t p (model.removed_directory t c.args.now p s)) c.in-Ok-Refused.field-0-is (λ t. refl) (λ t k d. refl) (λ t k d x. refl)

pub returns-in-Ok-Row-clause-outcome : goal.returns-in-Ok-Row-clause-outcome
returns-in-Ok-Row-clause-outcome g c =
    reached_row Busy c.in-Ok-Row.ensures.outcome (λ t p s. model.unless_root t p (model.removed_directory t c.args.now p s)) g.met.B.Blobs.lawful (λ n. subst (ReachedIs n.tree n.ids (upward c.args.names.now) Busy) c.in-Ok-Row.field-0-is) c.drop_directory.ensures.outcome

pub drop_directory-requires-clause-mode : goal.drop_directory-requires-clause-mode
drop_directory-requires-clause-mode g c = (subst HaveRowModes c.in-Ok-Row.field-0-is c.in-Ok-Row.ensures.modes).0

pub returns-in-Err-clause-outcome : goal.returns-in-Err-clause-outcome
returns-in-Err-clause-outcome g c = passed c.in-Err.ensures.outcome
