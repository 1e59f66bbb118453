use Rattle.std.proofs.Common.{refl, sym, ◌∙◌, ap}
use Rattle.path_walks.specs.store_outcome.Outcome.{then_, answered, passed}
use Rattle.fs_model.specs.declared.attr.Attr.{Attr}
use Rattle.fs_model.specs.Tree.{upward, is_directory}
use Rattle.fs_model.specs.LookUp.{look}
use Rattle.fs_model.specs.Step.{listed}
use Rattle.fs_model.proofs.LookUpLemmas.{look-found}
use Rattle.fs_model.proofs.WellFormedStep.{listed_stays}
use Rattle.path_walks.proofs.Steps.{wrong_here}
use Rattle.path_walks.proofs.Told.{stays}
use Rattle.path_contents.proofs.Seen.{looked, here, wrong_steps, in_folder}
use Rattle.path_contents.proofs.Steps.{list_refused}
use Rattle.path_contents.proofs.reading.list.Goals as goal

pub returns-in-Directory-clause-outcome : goal.returns-in-Directory-clause-outcome
returns-in-Directory-clause-outcome g c =
    let p = upward c.args.names.now in
    then_ g.met.B.Blobs.lawful c.in-Ok-Here.ensures.outcome
    (λ n h. in_folder n c.walk.new.b h.0 p c.in-Ok-Here.place (here n.tree n.ids p c.in-Ok-Here.field-0 h.1 c.in-Ok-Here.place c.in-Ok-Here.field-0-is) c.in-Directory.is)
    c.list_in.ensures.outcome
    (λ n h y k. looked n c.list_in.new.b k.0 (listed n.tree p (look n.tree p)) y
    (k.1 ∙ ap (λ s. (listed n.tree p s).reply) (sym (look-found n.tree p _ (here n.tree n.ids p c.in-Ok-Here.field-0 h.1 c.in-Ok-Here.place c.in-Ok-Here.field-0-is).there)))
    (listed_stays n.tree p (look n.tree p)))

pub returns-in-File-clause-outcome : goal.returns-in-File-clause-outcome
returns-in-File-clause-outcome g c =
    let p = upward c.args.names.now in
    answered c.in-Ok-Here.ensures.outcome (λ n h.
    let at = here n.tree n.ids p c.in-Ok-Here.field-0 h.1 c.in-Ok-Here.place c.in-Ok-Here.field-0-is in
    stays n.map n.tree n.ids n.shows c.walk.new.b h.0 _ _ (list_refused n.tree p at.row (look-found n.tree p at.row at.there) (ap (λ (a : Attr). is_directory a.kind) at.attr ∙ ap is_directory c.in-File.is)))

pub returns-in-Link-clause-outcome : goal.returns-in-Link-clause-outcome
returns-in-Link-clause-outcome g c =
    let p = upward c.args.names.now in
    answered c.in-Ok-Here.ensures.outcome (λ n h.
    let at = here n.tree n.ids p c.in-Ok-Here.field-0 h.1 c.in-Ok-Here.place c.in-Ok-Here.field-0-is in
    stays n.map n.tree n.ids n.shows c.walk.new.b h.0 _ _ (list_refused n.tree p at.row (look-found n.tree p at.row at.there) (ap (λ (a : Attr). is_directory a.kind) at.attr ∙ ap is_directory c.in-Link.is)))

pub returns-in-Ok-Wrong-clause-outcome : goal.returns-in-Ok-Wrong-clause-outcome
returns-in-Ok-Wrong-clause-outcome g c =
    let p = upward c.args.names.now in
    answered c.in-Ok-Wrong.ensures.outcome (λ n h.
    stays n.map n.tree n.ids n.shows c.walk.new.b h.0 _ _
    (wrong_steps n.tree n.shows.well_formed.rooted p c.in-Ok-Wrong.error (wrong_here n.tree n.ids p c.in-Ok-Wrong.field-0 h.1 c.in-Ok-Wrong.error c.in-Ok-Wrong.field-0-is) (listed n.tree p) refl (λ x. refl)))

pub returns-in-Err-clause-outcome : goal.returns-in-Err-clause-outcome
returns-in-Err-clause-outcome g c = passed c.in-Err.ensures.outcome
