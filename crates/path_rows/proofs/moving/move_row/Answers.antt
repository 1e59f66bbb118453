use Rattle.std.proofs.Common.{◌≡◌, ◌∷◌, true, false, refl, sym, ◌∙◌, ap, subst}
use Rattle.std.proofs.lemmas.Bool.{eqb-true}
use Rattle.path_walks.specs.store_outcome.Outcome.{then_, answered, idle, passed}
use Rattle.fs_model.specs.declared.error.FsError.TheVariants.{Busy}
use Rattle.fs_model.specs.declared.reply.Reply.TheVariants.{Error}
use Rattle.fs_model.specs.Tree.{upward, same_path}
use Rattle.fs_model.specs.Move.{is_above}
use Rattle.fs_model.specs.Step as model
use Rattle.fs_model.specs.LookUp.{look}
use Rattle.fs_model.proofs.LookUpLemmas.{look-found}
use Rattle.fs_model.proofs.TreeLemmas.{same_path_is}
use Rattle.path_walks.proofs.Commands.{reached_none}
use Rattle.path_walks.specs.Reaching.{ReachedIs, HaveRowModes}
use Rattle.path_walks.proofs.Told.{stays, told_as}
use Rattle.path_walks.proofs.Seeing.{on_row}
use Rattle.path_rows.proofs.OnTheWay.{no_names, not_empty, onward}
use Rattle.path_rows.proofs.Steps.{to_root, not_root, from_by, onto_unless}
use Rattle.path_rows.proofs.moving.move_row.Goals as goal

pub returns-then-is_empty-clause-outcome : goal.returns-then-is_empty-clause-outcome
returns-then-is_empty-clause-outcome g c =
    idle g.met.B.Blobs.lawful c.args.b.now (Error Busy) c.requires (λ w. stays w.map w.tree w.ids w.shows c.args.b.now w.stands _ _
    (to_root w.tree (upward c.args.from.now) (upward c.args.to.now) _ (no_names c.args.to.now (eqb-true _ _ (sym c.is_empty.ensures ∙ c.if-is_empty.true)))))

pub returns-in-Ok-Refused-clause-outcome : goal.returns-in-Ok-Refused-clause-outcome
returns-in-Ok-Refused-clause-outcome g c =
    let q = upward c.args.to.now in
    let off_root = not_empty c.args.to.now (sym c.is_empty.ensures ∙ c.if-is_empty.false) in
    reached_none Busy c.in-Ok-Refused.ensures.outcome (λ t p s. model.unless_root t p (model.unless_root t q (model.moved_from t c.args.now p q s))) c.in-Ok-Refused.field-0-is (λ t. refl) (λ t k d. not_root t q _ off_root) (λ t k d x. not_root t q _ off_root)

pub returns-then-is_above-clause-outcome : goal.returns-then-is_above-clause-outcome
returns-then-is_above-clause-outcome g c =
    let p = upward c.args.from.now in
    let q = upward c.args.to.now in
    let off_root = not_empty c.args.to.now (sym c.is_empty.ensures ∙ c.if-is_empty.false) in
    answered c.in-Ok-Row.ensures.outcome (λ n h.
    let row = subst (ReachedIs n.tree n.ids p Busy) c.in-Ok-Row.field-0-is h.1 in
    stays n.map n.tree n.ids n.shows c.reach.new.b h.0 _ _
    (on_row (λ p s. model.unless_root n.tree p (model.unless_root n.tree q (model.moved_from n.tree c.args.now p q s))) row
    ∙ from_by n.tree c.args.now (c.in-Ok-Row.at.name.now ∷ upward c.in-Ok-Row.at.dir.names.now) q row.is.here.row off_root true (ap (λ z. is_above z q) (sym row.split) ∙ (sym c.is_above.ensures ∙ c.if-is_above.true))))

pub returns-then-same_names-clause-outcome : goal.returns-then-same_names-clause-outcome
returns-then-same_names-clause-outcome g c =
    let p = upward c.args.from.now in
    let q = upward c.args.to.now in
    let off_root = not_empty c.args.to.now (sym c.is_empty.ensures ∙ c.if-is_empty.false) in
    answered c.in-Ok-Row.ensures.outcome (λ n h.
    let row = subst (ReachedIs n.tree n.ids p Busy) c.in-Ok-Row.field-0-is h.1 in
    let at = c.in-Ok-Row.at.name.now ∷ upward c.in-Ok-Row.at.dir.names.now in
    let same : same_path at q ≡ true = ap (λ z. same_path z q) (sym row.split) ∙ (sym c.same_names.ensures ∙ c.if-same_names.true) in
    stays n.map n.tree n.ids n.shows c.reach.new.b h.0 _ _
    (on_row (λ p s. model.unless_root n.tree p (model.unless_root n.tree q (model.moved_from n.tree c.args.now p q s))) row
    ∙ (from_by n.tree c.args.now at q row.is.here.row off_root false (ap (λ z. is_above z q) (sym row.split) ∙ (sym c.is_above.ensures ∙ c.if-is_above.false))
    ∙ (ap (model.moved_to n.tree c.args.now at q row.is.here.row) (ap (look n.tree) (sym (same_path_is at q same)) ∙ look-found n.tree at row.is.here.row row.is.here.there)
    ∙ onto_unless n.tree c.args.now at q row.is.here.row row.is.here.row true same))))

pub returns-else-same_names-clause-outcome : goal.returns-else-same_names-clause-outcome
returns-else-same_names-clause-outcome g c =
    let p = upward c.args.from.now in
    let q = upward c.args.to.now in
    let off_root = not_empty c.args.to.now (sym c.is_empty.ensures ∙ c.if-is_empty.false) in
    let off = sym c.is_above.ensures ∙ c.if-is_above.false in
    then_ g.met.B.Blobs.lawful c.in-Ok-Row.ensures.outcome
    (λ n h. onward n c.reach.new.b h.0 (subst (ReachedIs n.tree n.ids p Busy) c.in-Ok-Row.field-0-is h.1) q off off_root (sym c.same_names.ensures ∙ c.if-same_names.false))
    c.move_found.ensures.outcome
    (λ n h y r.
    let row = subst (ReachedIs n.tree n.ids p Busy) c.in-Ok-Row.field-0-is h.1 in
    told_as _ _ y
    (on_row (λ p s. model.unless_root n.tree p (model.unless_root n.tree q (model.moved_from n.tree c.args.now p q s))) row
    ∙ from_by n.tree c.args.now (c.in-Ok-Row.at.name.now ∷ upward c.in-Ok-Row.at.dir.names.now) q row.is.here.row off_root false (ap (λ z. is_above z q) (sym row.split) ∙ off)) r)

pub move_found-requires-clause-mode : goal.move_found-requires-clause-mode
move_found-requires-clause-mode g c = (subst HaveRowModes c.in-Ok-Row.field-0-is c.in-Ok-Row.ensures.modes).1

pub move_found-requires-clause-dir_mode : goal.move_found-requires-clause-dir_mode
move_found-requires-clause-dir_mode g c = (subst HaveRowModes c.in-Ok-Row.field-0-is c.in-Ok-Row.ensures.modes).0

pub returns-in-Err-clause-outcome : goal.returns-in-Err-clause-outcome
returns-in-Err-clause-outcome g c = passed c.in-Err.ensures.outcome
