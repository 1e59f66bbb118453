use Rattle.std.proofs.Common.{Ok, ◌∷◌, refl, ◌∙◌, subst}
use Rattle.std.proofs.lemmas.Result.{err_from_is_err_and}
use Rattle.path_walks.specs.store_outcome.Outcome.{Outcome, first_, then_, failed_, passed, answered, idle}
use Rattle.fs_model.specs.declared.error.FsError.TheVariants.{Busy}
use Rattle.fs_model.specs.declared.reply.Reply.TheVariants.{Error}
use Rattle.fs_model.specs.Tree.{upward, is_directory}
use Rattle.fs_model.specs.LookUp.{Bad, Free}
use Rattle.path_walks.specs.declared.spots.Occupancy.{Occupancy}
use Rattle.path_walks.specs.Sights.{SightIs, IsFoundIn, HaveModes}
use Rattle.path_rows.specs.Onward.{Onward, RefusesOnto}
use Rattle.path_walks.proofs.Told.{stays, told_as}
use Rattle.path_rows.proofs.OnTheWay.{unnamed, it, not_to_root, going, standing, heading, going_onto, replacing}
use Rattle.path_walks.proofs.Seeing.{found, vacant, lost, look_free, look_lost}
use Rattle.path_rows.proofs.moving.move_found.Goals as goal

pub returns-in-None-clause-outcome : goal.returns-in-None-clause-outcome
returns-in-None-clause-outcome g c = idle g.met.B.Blobs.lawful c.args.b.now (Error Busy) c.requires.intact (λ w. absurd (not_to_root w c.in-None.ensures))

pub returns-in-Err-clause-outcome : goal.returns-in-Err-clause-outcome
returns-in-Err-clause-outcome g c = passed (first_ (λ w. w.leaving) c.in-Err.ensures.outcome (λ w y h. h))

pub returns-in-Ok-Lost-clause-outcome : goal.returns-in-Ok-Lost-clause-outcome
returns-in-Ok-Lost-clause-outcome g c =
    let H = g.B.Blobs.holdings in
    let d = upward c.in-Some.dirs.now in
    let k = c.in-Some.name.now in
    let o : Outcome g.B.Blobs.meanings (Onward H c.args.b.now c.args.root.now.0 c.args.from.now (upward c.args.to_names.now)) c.args.b.now c.look_beside.new.b (Ok c.in-Ok-Lost.field-0)
    (λ w y. H.stands_for c.look_beside.new.b (it w).map × SightIs (it w).tree (it w).ids d k y) = first_ (λ w. w.leaving) c.in-Ok-Lost.ensures.outcome (λ w y h. h) in
    answered o (λ w h. stays (it w).map (it w).tree (it w).ids (it w).shows c.look_beside.new.b h.0 _ _
    (going w k d c.in-Some.ensures c.args.now (Bad c.in-Ok-Lost.error) (look_lost (it w).shows d k c.in-Ok-Lost.error (lost (it w).tree (it w).ids d k c.in-Ok-Lost.field-0 h.1 c.in-Ok-Lost.error c.in-Ok-Lost.field-0-is))))

pub returns-in-Ok-Vacant-clause-outcome : goal.returns-in-Ok-Vacant-clause-outcome
returns-in-Ok-Vacant-clause-outcome g c =
    let H = g.B.Blobs.holdings in
    let d = upward c.in-Some.dirs.now in
    let k = c.in-Some.name.now in
    let o : Outcome g.B.Blobs.meanings (Onward H c.args.b.now c.args.root.now.0 c.args.from.now (upward c.args.to_names.now)) c.args.b.now c.look_beside.new.b (Ok c.in-Ok-Vacant.field-0)
    (λ w y. H.stands_for c.look_beside.new.b (it w).map × SightIs (it w).tree (it w).ids d k y) = first_ (λ w. w.leaving) c.in-Ok-Vacant.ensures.outcome (λ w y h. h) in
    then_ g.met.B.Blobs.lawful o (λ w h. heading w k d c.in-Some.ensures c.args.now c.look_beside.new.b h.0 (record { names = c.in-Some.dirs; place = c.in-Ok-Vacant.dir }) refl (vacant (it w).tree (it w).ids d k c.in-Ok-Vacant.field-0 h.1 c.in-Ok-Vacant.dir c.in-Ok-Vacant.body c.in-Ok-Vacant.field-0-is)) c.move_free.ensures.did
    (λ w h y r. told_as _ _ y
    (going w k d c.in-Some.ensures c.args.now Free (look_free (it w).shows d k c.in-Ok-Vacant.dir (vacant (it w).tree (it w).ids d k c.in-Ok-Vacant.field-0 h.1 c.in-Ok-Vacant.dir c.in-Ok-Vacant.body c.in-Ok-Vacant.field-0-is).vacant))
    (unnamed _ y _ r))

pub returns-in_err-refusal-in-Ok-Found-clause-outcome : goal.returns-in_err-refusal-in-Ok-Found-clause-outcome
returns-in_err-refusal-in-Ok-Found-clause-outcome g c =
    let H = g.B.Blobs.holdings in
    let d = upward c.in-Some.dirs.now in
    let k = c.in-Some.name.now in
    let o : Outcome g.B.Blobs.meanings (Onward H c.args.b.now c.args.root.now.0 c.args.from.now (upward c.args.to_names.now)) c.args.b.now c.look_beside.new.b (Ok c.in-Ok-Found.field-0)
    (λ w y. H.stands_for c.look_beside.new.b (it w).map × SightIs (it w).tree (it w).ids d k y) = first_ (λ w. w.leaving) c.in-Ok-Found.ensures.outcome (λ w y h. h) in
    let o1 : Outcome g.B.Blobs.meanings (Onward H c.args.b.now c.args.root.now.0 c.args.from.now (upward c.args.to_names.now)) c.args.b.now c.look_beside.new.b (Ok c.in-Ok-Found.field-0)
    (λ w y. H.stands_for c.look_beside.new.b (it w).map × IsFoundIn (it w).tree (it w).ids d k c.in-Ok-Found.dir c.in-Ok-Found.place c.in-Ok-Found.body.items) =
    answered o (λ w h. (h.0, found (it w).tree (it w).ids d k c.in-Ok-Found.field-0 h.1 c.in-Ok-Found.dir c.in-Ok-Found.place c.in-Ok-Found.body c.in-Ok-Found.field-0-is)) in
    let e = err_from_is_err_and c.from_residual.result c.from_residual.ensures.1 in
    rw (e.1, e.2) (failed_ g.met.B.Blobs.lawful o1 (λ w h. standing w k d c.in-Some.ensures c.look_beside.new.b h.0 c.in-Ok-Found.dir c.in-Ok-Found.place h.1.found) c.in_err-refusal-in-Ok-Found.ensures.outcome)

pub returns-in-Some-2-clause-outcome : goal.returns-in-Some-2-clause-outcome
returns-in-Some-2-clause-outcome g c =
    let H = g.B.Blobs.holdings in
    let d = upward c.in-Some.dirs.now in
    let k = c.in-Some.name.now in
    let o : Outcome g.B.Blobs.meanings (Onward H c.args.b.now c.args.root.now.0 c.args.from.now (upward c.args.to_names.now)) c.args.b.now c.look_beside.new.b (Ok c.in-Ok-Found.field-0)
    (λ w y. H.stands_for c.look_beside.new.b (it w).map × SightIs (it w).tree (it w).ids d k y) = first_ (λ w. w.leaving) c.in-Ok-Found.ensures.outcome (λ w y h. h) in
    let o1 : Outcome g.B.Blobs.meanings (Onward H c.args.b.now c.args.root.now.0 c.args.from.now (upward c.args.to_names.now)) c.args.b.now c.look_beside.new.b (Ok c.in-Ok-Found.field-0)
    (λ w y. H.stands_for c.look_beside.new.b (it w).map × IsFoundIn (it w).tree (it w).ids d k c.in-Ok-Found.dir c.in-Ok-Found.place c.in-Ok-Found.body.items) =
    answered o (λ w h. (h.0, found (it w).tree (it w).ids d k c.in-Ok-Found.field-0 h.1 c.in-Ok-Found.dir c.in-Ok-Found.place c.in-Ok-Found.body c.in-Ok-Found.field-0-is)) in
    let o2 : Outcome g.B.Blobs.meanings (Onward H c.args.b.now c.args.root.now.0 c.args.from.now (upward c.args.to_names.now)) c.args.b.now c.refusal_onto.new.b (Ok c.in_ok-refusal-in-Ok-Found.field-0)
    (λ w y. H.stands_for c.refusal_onto.new.b (it w).map × (IsFoundIn (it w).tree (it w).ids d k c.in-Ok-Found.dir c.in-Ok-Found.place c.in-Ok-Found.body.items × RefusesOnto (it w).tree (k ∷ d) (is_directory c.args.from.now.place.attr.kind) (is_directory c.in-Ok-Found.place.attr.kind) y)) =
    then_ g.met.B.Blobs.lawful o1 (λ w h. standing w k d c.in-Some.ensures c.look_beside.new.b h.0 c.in-Ok-Found.dir c.in-Ok-Found.place h.1.found) c.in_ok-refusal-in-Ok-Found.ensures.outcome (λ w h y r. (r.0, (h.1, r.1))) in
    answered o2 (λ w h. stays (it w).map (it w).tree (it w).ids (it w).shows c.refusal_onto.new.b h.0 _ _
    (going_onto w k d c.in-Some.ensures c.in-Ok-Found.dir c.in-Ok-Found.place h.1.0.found c.args.now
    ∙ subst (RefusesOnto (it w).tree (k ∷ d) (is_directory c.args.from.now.place.attr.kind) (is_directory c.in-Ok-Found.place.attr.kind)) c.in-Some-2.is h.1.1 _))

pub returns-in-None-2-clause-outcome : goal.returns-in-None-2-clause-outcome
returns-in-None-2-clause-outcome g c =
    let H = g.B.Blobs.holdings in
    let d = upward c.in-Some.dirs.now in
    let k = c.in-Some.name.now in
    let to : Occupancy = record { dir = record { names = c.in-Some.dirs; place = c.in-Ok-Found.dir }; name = c.in-Some.name; place = c.in-Ok-Found.place; body = c.in-Ok-Found.body } in
    let o : Outcome g.B.Blobs.meanings (Onward H c.args.b.now c.args.root.now.0 c.args.from.now (upward c.args.to_names.now)) c.args.b.now c.look_beside.new.b (Ok c.in-Ok-Found.field-0)
    (λ w y. H.stands_for c.look_beside.new.b (it w).map × SightIs (it w).tree (it w).ids d k y) = first_ (λ w. w.leaving) c.in-Ok-Found.ensures.outcome (λ w y h. h) in
    let o1 : Outcome g.B.Blobs.meanings (Onward H c.args.b.now c.args.root.now.0 c.args.from.now (upward c.args.to_names.now)) c.args.b.now c.look_beside.new.b (Ok c.in-Ok-Found.field-0)
    (λ w y. H.stands_for c.look_beside.new.b (it w).map × IsFoundIn (it w).tree (it w).ids d k c.in-Ok-Found.dir c.in-Ok-Found.place c.in-Ok-Found.body.items) =
    answered o (λ w h. (h.0, found (it w).tree (it w).ids d k c.in-Ok-Found.field-0 h.1 c.in-Ok-Found.dir c.in-Ok-Found.place c.in-Ok-Found.body c.in-Ok-Found.field-0-is)) in
    let o2 : Outcome g.B.Blobs.meanings (Onward H c.args.b.now c.args.root.now.0 c.args.from.now (upward c.args.to_names.now)) c.args.b.now c.refusal_onto.new.b (Ok c.in_ok-refusal-in-Ok-Found.field-0)
    (λ w y. H.stands_for c.refusal_onto.new.b (it w).map × (IsFoundIn (it w).tree (it w).ids d k c.in-Ok-Found.dir c.in-Ok-Found.place c.in-Ok-Found.body.items × RefusesOnto (it w).tree (k ∷ d) (is_directory c.args.from.now.place.attr.kind) (is_directory c.in-Ok-Found.place.attr.kind) y)) =
    then_ g.met.B.Blobs.lawful o1 (λ w h. standing w k d c.in-Some.ensures c.look_beside.new.b h.0 c.in-Ok-Found.dir c.in-Ok-Found.place h.1.found) c.in_ok-refusal-in-Ok-Found.ensures.outcome (λ w h y r. (r.0, (h.1, r.1))) in
    then_ g.met.B.Blobs.lawful o2
    (λ w h. replacing w k d c.in-Some.ensures to h.1.0 c.args.now c.refusal_onto.new.b h.0 refl refl
    (subst (RefusesOnto (it w).tree (k ∷ d) (is_directory c.args.from.now.place.attr.kind) (is_directory c.in-Ok-Found.place.attr.kind)) c.in-None-2.is h.1.1))
    c.move_onto.ensures.did
    (λ w h y r. told_as _ _ y
    (going_onto w k d c.in-Some.ensures c.in-Ok-Found.dir c.in-Ok-Found.place h.1.0.found c.args.now
    ∙ (subst (RefusesOnto (it w).tree (k ∷ d) (is_directory c.args.from.now.place.attr.kind) (is_directory c.in-Ok-Found.place.attr.kind)) c.in-None-2.is h.1.1).on _)
    (unnamed _ y _ r))

pub move_free-requires-clause-to_mode : goal.move_free-requires-clause-to_mode
move_free-requires-clause-to_mode g c = subst HaveModes c.in-Ok-Vacant.field-0-is c.in-Ok-Vacant.ensures.modes

pub move_onto-requires-clause-to_mode : goal.move_onto-requires-clause-to_mode
move_onto-requires-clause-to_mode g c = (subst HaveModes c.in-Ok-Found.field-0-is c.in-Ok-Found.ensures.modes).0
