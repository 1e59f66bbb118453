use Rattle.std.proofs.Common.{[], ◌∷◌, ap, subst}
use Rattle.path_walks.specs.store_outcome.Outcome.{then_, answered, idle, passed}
use Rattle.fs_model.specs.declared.error.FsError.TheVariants.{Exists}
use Rattle.fs_model.specs.declared.reply.Reply.TheVariants.{Error}
use Rattle.fs_model.specs.Tree.{upward, root_row}
use Rattle.fs_model.specs.LookUp.{Found, Bad, look}
use Rattle.fs_model.specs.Step as model
use Rattle.fs_model.proofs.LookUpLemmas.{look-found}
use Rattle.path_walks.specs.Sights.{HaveModes}
use Rattle.path_walks.proofs.Told.{stays, told_as}
use Rattle.path_walks.proofs.Seeing.{found, vacant, lost, look_found, look_lost, on_path}
use Rattle.path_rows.proofs.NewRow.{making}
use Rattle.path_rows.proofs.making.make.Goals as goal

pub returns-in-None-clause-outcome : goal.returns-in-None-clause-outcome
returns-in-None-clause-outcome g c =
    idle g.met.B.Blobs.lawful c.args.b.now (Error Exists) c.requires.intact (λ w.
    stays w.map w.tree w.ids w.shows c.args.b.now w.stands _ _ (on_path w.tree (λ p s. model.made w.tree c.args.now p (record { attr = c.args.attr; bytes = c.args.bytes.now }) s) (upward c.args.names.now) [] (Found root_row) c.in-None.ensures (look-found w.tree [] root_row w.shows.well_formed.rooted.root)))

pub returns-in-Ok-Lost-clause-outcome : goal.returns-in-Ok-Lost-clause-outcome
returns-in-Ok-Lost-clause-outcome g c =
    let d = upward c.in-Some.dirs.now in
    let k = c.in-Some.name.now in
    answered c.in-Ok-Lost.ensures.outcome (λ n h.
    stays n.map n.tree n.ids n.shows c.look_at.new.b h.0 _ _ (on_path n.tree (λ p s. model.made n.tree c.args.now p (record { attr = c.args.attr; bytes = c.args.bytes.now }) s) (upward c.args.names.now) (k ∷ d) (Bad c.in-Ok-Lost.error) c.in-Some.ensures
    (look_lost n.shows d k c.in-Ok-Lost.error (lost n.tree n.ids d k c.in-Ok-Lost.field-0 h.1 c.in-Ok-Lost.error c.in-Ok-Lost.field-0-is))))

pub returns-in-Ok-Found-clause-outcome : goal.returns-in-Ok-Found-clause-outcome
returns-in-Ok-Found-clause-outcome g c =
    let d = upward c.in-Some.dirs.now in
    let k = c.in-Some.name.now in
    answered c.in-Ok-Found.ensures.outcome (λ n h.
    stays n.map n.tree n.ids n.shows c.look_at.new.b h.0 _ _ (on_path n.tree (λ p s. model.made n.tree c.args.now p (record { attr = c.args.attr; bytes = c.args.bytes.now }) s) (upward c.args.names.now) (k ∷ d) _ c.in-Some.ensures
    (look_found n.shows d k _ _ (found n.tree n.ids d k c.in-Ok-Found.field-0 h.1 _ _ c.in-Ok-Found.body c.in-Ok-Found.field-0-is).found)))

pub returns-in-Ok-Vacant-clause-outcome : goal.returns-in-Ok-Vacant-clause-outcome
returns-in-Ok-Vacant-clause-outcome g c =
    let d = upward c.in-Some.dirs.now in
    let k = c.in-Some.name.now in
    then_ g.met.B.Blobs.lawful c.in-Ok-Vacant.ensures.outcome
    (λ n h. making n.map h.0 c.args.root.now.0 n.tree n.ids n.shows (record { names = c.in-Some.dirs; place = c.in-Ok-Vacant.dir }) (vacant n.tree n.ids d k c.in-Ok-Vacant.field-0 h.1 c.in-Ok-Vacant.dir c.in-Ok-Vacant.body c.in-Ok-Vacant.field-0-is) c.requires.limits)
    c.make_in.ensures.did
    (λ n h y r. told_as _ _ y (ap (λ z. model.made n.tree c.args.now z (record { attr = c.args.attr; bytes = c.args.bytes.now }) (look n.tree z)) c.in-Some.ensures) r)

pub make_in-requires-clause-dir_mode : goal.make_in-requires-clause-dir_mode
make_in-requires-clause-dir_mode g c = subst HaveModes c.in-Ok-Vacant.field-0-is c.in-Ok-Vacant.ensures.modes

pub returns-in-Err-clause-outcome : goal.returns-in-Err-clause-outcome
returns-in-Err-clause-outcome g c = passed c.in-Err.ensures.outcome
