use Rattle.std.proofs.Common.{ap, subst, Ok}
use Rattle.std.proofs.lemmas.Result.{err_from_is_err_and}
use Rattle.dir_blob.specs.store_outcome.Outcome.{Outcome, then_, failed_, answered}
use Rattle.fs_model.specs.Tree.{upward, is_directory}
use Rattle.path_walks.specs.Showing.{BlobsShow}
use Rattle.path_walks.specs.Sights.{SightIs, sight_of}
use Rattle.path_walks.proofs.Steps.{at_here, wrong_here, directory_seen, seen_under, no_folder}
use Rattle.path_walks.proofs.walks.look_at.Goals as goal

pub returns-in_err-found-in-Directory-clause-outcome : goal.returns-in_err-found-in-Directory-clause-outcome
returns-in_err-found-in-Directory-clause-outcome g c =
    let p = err_from_is_err_and c.from_residual-in_err-found-in-Directory.result c.from_residual-in_err-found-in-Directory.ensures.1 in
    rw (p.1, p.2) (failed_ g.met.B.Blobs.lawful c.in_ok-dir.ensures.outcome
    (λ n h. directory_seen n.shows h.0 (upward c.args.names.now) c.in-Here.dir (at_here n.tree n.ids (upward c.args.names.now) c.in_ok-dir.field-0 h.1 c.in-Here.dir c.in-Here.is) c.in-Directory.is)
    c.in_err-found-in-Directory.ensures.outcome)

pub returns-in-Some-clause-outcome : goal.returns-in-Some-clause-outcome
returns-in-Some-clause-outcome g c =
    let o : Outcome g.B.Blobs.meanings (BlobsShow g.B.Blobs.holdings c.args.b.now c.args.root.now.0) c.args.b.now c.find_in.new.b (Ok (c.in_ok-found-in-Directory.found, c.in_ok-found-in-Directory.body))
    (λ n y. g.B.Blobs.holdings.stands_for c.find_in.new.b n.map × SightIs n.tree n.ids (upward c.args.names.now) c.args.name.now (sight_of c.in-Here.dir y.1 y.0)) =
    then_ g.met.B.Blobs.lawful c.in_ok-dir.ensures.outcome
    (λ n h. directory_seen n.shows h.0 (upward c.args.names.now) c.in-Here.dir (at_here n.tree n.ids (upward c.args.names.now) c.in_ok-dir.field-0 h.1 c.in-Here.dir c.in-Here.is) c.in-Directory.is)
    c.in_ok-found-in-Directory.ensures.outcome
    (λ n h y k. (k.0, seen_under n.shows (upward c.args.names.now) c.in-Here.dir (at_here n.tree n.ids (upward c.args.names.now) c.in_ok-dir.field-0 h.1 c.in-Here.dir c.in-Here.is) c.in-Directory.is c.args.name.now y.1 y.0 k.1 k.2)) in
    answered o (λ n h. (h.0, subst (λ z. SightIs n.tree n.ids (upward c.args.names.now) c.args.name.now (sight_of c.in-Here.dir c.in_ok-found-in-Directory.body z)) c.in-Some.is h.1))

pub returns-in-None-clause-outcome : goal.returns-in-None-clause-outcome
returns-in-None-clause-outcome g c =
    let o : Outcome g.B.Blobs.meanings (BlobsShow g.B.Blobs.holdings c.args.b.now c.args.root.now.0) c.args.b.now c.find_in.new.b (Ok (c.in_ok-found-in-Directory.found, c.in_ok-found-in-Directory.body))
    (λ n y. g.B.Blobs.holdings.stands_for c.find_in.new.b n.map × SightIs n.tree n.ids (upward c.args.names.now) c.args.name.now (sight_of c.in-Here.dir y.1 y.0)) =
    then_ g.met.B.Blobs.lawful c.in_ok-dir.ensures.outcome
    (λ n h. directory_seen n.shows h.0 (upward c.args.names.now) c.in-Here.dir (at_here n.tree n.ids (upward c.args.names.now) c.in_ok-dir.field-0 h.1 c.in-Here.dir c.in-Here.is) c.in-Directory.is)
    c.in_ok-found-in-Directory.ensures.outcome
    (λ n h y k. (k.0, seen_under n.shows (upward c.args.names.now) c.in-Here.dir (at_here n.tree n.ids (upward c.args.names.now) c.in_ok-dir.field-0 h.1 c.in-Here.dir c.in-Here.is) c.in-Directory.is c.args.name.now y.1 y.0 k.1 k.2)) in
    answered o (λ n h. (h.0, subst (λ z. SightIs n.tree n.ids (upward c.args.names.now) c.args.name.now (sight_of c.in-Here.dir c.in_ok-found-in-Directory.body z)) c.in-None.is h.1))

pub returns-in-File-clause-outcome : goal.returns-in-File-clause-outcome
returns-in-File-clause-outcome g c =
    answered c.in_ok-dir.ensures.outcome
    (λ n h. (h.0, no_folder n.tree n.ids (upward c.args.names.now) c.in-Here.dir (at_here n.tree n.ids (upward c.args.names.now) c.in_ok-dir.field-0 h.1 c.in-Here.dir c.in-Here.is) (ap is_directory c.in-File.is) c.args.name.now))

pub returns-in-Link-clause-outcome : goal.returns-in-Link-clause-outcome
returns-in-Link-clause-outcome g c =
    answered c.in_ok-dir.ensures.outcome
    (λ n h. (h.0, no_folder n.tree n.ids (upward c.args.names.now) c.in-Here.dir (at_here n.tree n.ids (upward c.args.names.now) c.in_ok-dir.field-0 h.1 c.in-Here.dir c.in-Here.is) (ap is_directory c.in-Link.is) c.args.name.now))

pub returns-in-Wrong-clause-outcome : goal.returns-in-Wrong-clause-outcome
returns-in-Wrong-clause-outcome g c =
    answered c.in_ok-dir.ensures.outcome (λ n h. (h.0, (wrong_here n.tree n.ids (upward c.args.names.now) c.in_ok-dir.field-0 h.1 c.in-Wrong.e c.in-Wrong.is).below c.args.name.now))

pub returns-in-File-clause-modes : goal.returns-in-File-clause-modes
returns-in-File-clause-modes g c = tt

pub returns-in-Link-clause-modes : goal.returns-in-Link-clause-modes
returns-in-Link-clause-modes g c = tt

pub returns-in-Wrong-clause-modes : goal.returns-in-Wrong-clause-modes
returns-in-Wrong-clause-modes g c = tt
