use Rattle.std.proofs.Common.{refl, ◌∙◌, ap}
use Rattle.std.proofs.lemmas.Result.{err_from_is_err_and}
use Rattle.dir_blob.specs.store_outcome.Outcome.{first_, passed, answered, idle}
use Rattle.fs_model.specs.Tree.{is_directory}
use Rattle.fs_model.specs.declared.error.FsError.TheVariants.{NotDirectory}
use Rattle.dir_blob.specs.dir_entries.Places.{target_of}
use Rattle.path_walks.specs.declared.spots.Spot.TheVariants.{Wrong}
use Rattle.path_walks.proofs.Steps.{at_spot, directory_seen, stepped_to, stepped_out, free_wrong, file_wrong, wrong_on, wrong_spot}
use Rattle.path_walks.proofs.walks.advance.Goals as goal

pub returns-in_err-attr-in-Directory-clause-outcome : goal.returns-in_err-attr-in-Directory-clause-outcome
returns-in_err-attr-in-Directory-clause-outcome g c =
    let p = err_from_is_err_and c.from_residual.result c.from_residual.ensures.1 in
    rw (p.1, p.2) (passed (first_ (λ w. directory_seen w.shows w.stands w.path c.in-Here.dir (at_spot w c.in-Here.dir c.in-Here.is) c.in-Directory.is) c.in_err-attr-in-Directory.ensures.outcome (λ n y h. h)))

pub returns-in-Some-clause-outcome : goal.returns-in-Some-clause-outcome
returns-in-Some-clause-outcome g c =
    answered (first_ (λ w. directory_seen w.shows w.stands w.path c.in-Here.dir (at_spot w c.in-Here.dir c.in-Here.is) c.in-Directory.is) c.in_ok-attr-in-Directory.ensures.outcome (λ n y h. h))
    (λ w h. (h.0, stepped_to w.shows w.path c.in-Here.dir (at_spot w c.in-Here.dir c.in-Here.is) c.in-Directory.is c.args.name.now c.in-Some.attr c.in-Some.blob (h.1 ∙ ap target_of c.in-Some.is)))

pub returns-in-None-clause-outcome : goal.returns-in-None-clause-outcome
returns-in-None-clause-outcome g c =
    answered (first_ (λ w. directory_seen w.shows w.stands w.path c.in-Here.dir (at_spot w c.in-Here.dir c.in-Here.is) c.in-Directory.is) c.in_ok-attr-in-Directory.ensures.outcome (λ n y h. h))
    (λ w h. (
      h.0,
      free_wrong w.shows w.path c.in-Here.dir (at_spot w c.in-Here.dir c.in-Here.is) c.in-Directory.is c.args.name.now
          (stepped_out w.shows w.path c.in-Here.dir (at_spot w c.in-Here.dir c.in-Here.is) c.in-Directory.is c.args.name.now (h.1 ∙ ap target_of c.in-None.is)),
    ))

pub returns-in-File-clause-outcome : goal.returns-in-File-clause-outcome
returns-in-File-clause-outcome g c =
    idle g.met.B.Blobs.lawful c.args.b.now (Wrong NotDirectory) c.requires (λ w. (w.stands, file_wrong w.shows w.path c.in-Here.dir (at_spot w c.in-Here.dir c.in-Here.is) (ap is_directory c.in-File.is) c.args.name.now))

pub returns-in-Link-clause-outcome : goal.returns-in-Link-clause-outcome
returns-in-Link-clause-outcome g c =
    idle g.met.B.Blobs.lawful c.args.b.now (Wrong NotDirectory) c.requires (λ w. (w.stands, file_wrong w.shows w.path c.in-Here.dir (at_spot w c.in-Here.dir c.in-Here.is) (ap is_directory c.in-Link.is) c.args.name.now))

pub returns-in-Wrong-clause-outcome : goal.returns-in-Wrong-clause-outcome
returns-in-Wrong-clause-outcome g c =
    idle g.met.B.Blobs.lawful c.args.b.now (Wrong c.in-Wrong.e) c.requires (λ w. (w.stands, wrong_on w.shows w.path c.in-Wrong.e (wrong_spot w c.in-Wrong.e c.in-Wrong.is) c.args.name.now))

pub returns-in-None-clause-mode : goal.returns-in-None-clause-mode
returns-in-None-clause-mode g c = λ h. tt

pub returns-in-File-clause-mode : goal.returns-in-File-clause-mode
returns-in-File-clause-mode g c = λ h. tt

pub returns-in-Link-clause-mode : goal.returns-in-Link-clause-mode
returns-in-Link-clause-mode g c = λ h. tt

pub returns-in-Wrong-clause-mode : goal.returns-in-Wrong-clause-mode
returns-in-Wrong-clause-mode g c = λ h. tt

pub returns-in-File-clause-unchanged : goal.returns-in-File-clause-unchanged
returns-in-File-clause-unchanged g c = refl

pub returns-in-Link-clause-unchanged : goal.returns-in-Link-clause-unchanged
returns-in-Link-clause-unchanged g c = refl

pub returns-in-Wrong-clause-unchanged : goal.returns-in-Wrong-clause-unchanged
returns-in-Wrong-clause-unchanged g c = refl
