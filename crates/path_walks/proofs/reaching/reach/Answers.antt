use Rattle.std.proofs.Common.{◌∷◌, ap}
use Rattle.dir_blob.specs.store_outcome.Outcome.{answered, idle, passed}
use Rattle.fs_model.specs.Tree.{upward}
use Rattle.fs_model.specs.LookUp.{Bad, Free, look}
use Rattle.path_walks.specs.declared.reaching.Reached.TheVariants.{Refused}
use Rattle.path_walks.specs.Reaching.{refusal}
use Rattle.path_walks.proofs.Seeing.{found, vacant, lost, look_free, look_lost, on_path}
use Rattle.path_walks.proofs.reaching.reach.Goals as goal

pub returns-in-None-clause-outcome : goal.returns-in-None-clause-outcome
returns-in-None-clause-outcome g c =
    idle g.met.B.Blobs.lawful c.args.b.now (Refused c.args.at_root) c.requires (λ w. (
      w.stands,
      ap (λ z. refusal c.args.at_root z (look w.tree z)) c.in-None.ensures,
    ))

pub returns-in-Ok-Found-clause-outcome : goal.returns-in-Ok-Found-clause-outcome
returns-in-Ok-Found-clause-outcome g c =
    let d = upward c.in-Some.dirs.now in
    answered c.in-Ok-Found.ensures.outcome (λ n h.
    let seen = found n.tree n.ids d c.in-Some.name.now c.in-Ok-Found.field-0 h.1 c.in-Ok-Found.dir c.in-Ok-Found.place c.in-Ok-Found.body c.in-Ok-Found.field-0-is in
    (h.0, record { split = c.in-Some.ensures; is = seen.found; lists = seen.lists }))

pub returns-in-Ok-Vacant-clause-outcome : goal.returns-in-Ok-Vacant-clause-outcome
returns-in-Ok-Vacant-clause-outcome g c =
    let d = upward c.in-Some.dirs.now in
    let k = c.in-Some.name.now in
    answered c.in-Ok-Vacant.ensures.outcome (λ n h. (
      h.0,
      on_path n.tree (refusal c.args.at_root) (upward c.args.names.now) (k ∷ d) Free c.in-Some.ensures (look_free n.shows d k _ (vacant n.tree n.ids d k c.in-Ok-Vacant.field-0 h.1 _ _ c.in-Ok-Vacant.field-0-is).vacant),
    ))

pub returns-in-Ok-Lost-clause-outcome : goal.returns-in-Ok-Lost-clause-outcome
returns-in-Ok-Lost-clause-outcome g c =
    let d = upward c.in-Some.dirs.now in
    let k = c.in-Some.name.now in
    let e = c.in-Ok-Lost.error in
    answered c.in-Ok-Lost.ensures.outcome (λ n h. (
      h.0,
      on_path n.tree (refusal c.args.at_root) (upward c.args.names.now) (k ∷ d) (Bad e) c.in-Some.ensures (look_lost n.shows d k e (lost n.tree n.ids d k c.in-Ok-Lost.field-0 h.1 e c.in-Ok-Lost.field-0-is)),
    ))

pub returns-in-Err-clause-outcome : goal.returns-in-Err-clause-outcome
returns-in-Err-clause-outcome g c = passed c.in-Err.ensures.outcome
