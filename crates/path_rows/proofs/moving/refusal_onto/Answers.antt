use Rattle.std.proofs.Common.{true, false, cond, sym, ◌∙◌, ap}
use Rattle.std.specs.declared.option.Option.TheVariants.{None, Some}
use Rattle.std.proofs.lemmas.Result.{err_from_is_err_and}
use Rattle.path_walks.specs.store_outcome.Outcome.{first_, passed, answered, idle}
use Rattle.fs_model.specs.declared.attr.Attr.{Attr}
use Rattle.fs_model.specs.declared.error.FsError.TheVariants.{NotDirectory, IsDirectory, NotEmpty}
use Rattle.fs_model.specs.Tree.{is_directory}
use Rattle.fs_model.specs.Step.{refused}
use Rattle.fs_model.proofs.PutRows.{below_file}
use Rattle.path_walks.proofs.Shown.{directory_is}
use Rattle.path_rows.proofs.Found.{childless}
use Rattle.path_rows.proofs.Steps.{onto_by}
use Rattle.path_rows.proofs.moving.refusal_onto.Goals as goal

pub returns-in-true-false-clause-outcome : goal.returns-in-true-false-clause-outcome
returns-in-true-false-clause-outcome g c = idle g.met.B.Blobs.lawful c.args.b.now (Some NotDirectory) c.requires (λ w. (w.stands, (λ s. onto_by w.tree w.path _ _ s true false c.in-true-false.ensures c.in-true-false.ensures')))

pub returns-in-false-true-clause-outcome : goal.returns-in-false-true-clause-outcome
returns-in-false-true-clause-outcome g c = idle g.met.B.Blobs.lawful c.args.b.now (Some IsDirectory) c.requires (λ w. (w.stands, (λ s. onto_by w.tree w.path _ _ s false true c.in-false-true.ensures c.in-false-true.ensures')))

pub returns-in-false-false-clause-outcome : goal.returns-in-false-false-clause-outcome
returns-in-false-false-clause-outcome g c = idle g.met.B.Blobs.lawful c.args.b.now None c.requires (λ w. (
  w.stands,
  record {
    bare = below_file w.tree w.path w.at.row w.shows.well_formed.rooted w.at.there (ap (λ (a : Attr). is_directory a.kind) w.at.attr ∙ sym c.in-false-false.ensures');
    on = (λ s. onto_by w.tree w.path _ _ s false false c.in-false-false.ensures c.in-false-false.ensures');
  },
))

pub returns-in_err-has_child-in-true-true-clause-outcome : goal.returns-in_err-has_child-in-true-true-clause-outcome
returns-in_err-has_child-in-true-true-clause-outcome g c =
    let e = err_from_is_err_and c.from_residual.result c.from_residual.ensures.1 in
    rw (e.1, e.2) (passed (first_ (λ w. record { standing = w; folder = directory_is c.args.old.now.attr.kind (sym c.in-true-true.ensures') }) c.in_err-has_child-in-true-true.ensures.outcome (λ w y h. h)))

pub returns-then-branch-clause-outcome : goal.returns-then-branch-clause-outcome
returns-then-branch-clause-outcome g c =
    answered (first_ (λ w. record { standing = w; folder = directory_is c.args.old.now.attr.kind (sym c.in-true-true.ensures') }) c.in_ok-has_child-in-true-true.ensures.outcome (λ w y h. h))
    (λ w h. (h.0, λ s. onto_by w.tree w.path _ _ s true true c.in-true-true.ensures c.in-true-true.ensures' ∙ ap (λ b. cond b (refused w.tree NotEmpty) s) (sym h.1 ∙ c.if-branch.true)))

pub returns-else-branch-clause-outcome : goal.returns-else-branch-clause-outcome
returns-else-branch-clause-outcome g c =
    answered (first_ (λ w. record { standing = w; folder = directory_is c.args.old.now.attr.kind (sym c.in-true-true.ensures') }) c.in_ok-has_child-in-true-true.ensures.outcome (λ w y h. h))
    (λ w h. (
      h.0,
      record {
        bare = childless w.tree w.path (sym h.1 ∙ c.if-branch.false);
        on = λ s. onto_by w.tree w.path _ _ s true true c.in-true-true.ensures c.in-true-true.ensures' ∙ ap (λ b. cond b (refused w.tree NotEmpty) s) (sym h.1 ∙ c.if-branch.false);
      },
    ))
