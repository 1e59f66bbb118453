use Rattle.std.proofs.Common.{ℕ, List, ◌++◌, sym, ◌∙◌, ap, subst}
use Rattle.path_walks.specs.store_outcome.Outcome.{first_, idle, unbuilt}
use Rattle.fs_model.specs.Tree.{upward}
use Rattle.fs_model.proofs.TreeLemmas.{same_path_is}
use Rattle.path_walks.specs.Sights.{SightIs}
use Rattle.path_rows.specs.Onward.{Leaving}
use Rattle.path_rows.proofs.OnTheWay.{showing}
use Rattle.path_rows.proofs.Looks.{seen_beside}
use Rattle.path_rows.proofs.beside.look_beside.Goals as goal

pub returns-then-not-same_names-clause-outcome : goal.returns-then-not-same_names-clause-outcome
returns-then-not-same_names-clause-outcome g c = first_ (λ w. showing w) c.look_at.ensures.outcome (λ w y h. h)

pub returns-in_default-clause-outcome : goal.returns-in_default-clause-outcome
returns-in_default-clause-outcome g c =
    unbuilt g.met.B.Blobs.lawful (idle g.met.B.Blobs.lawful {T = List ℕ} {N = Leaving g.B.Blobs.holdings c.args.b.now c.args.root.now.0 c.args.from.now} {P = λ _ _. Unit {0}} c.args.b.now c.deref.result.now c.requires.intact (λ _. tt))
    (λ n h. rw c.in_default.is at (c.locate.ensures.place n.finding.lists.listing (record { entries = n.finding.lists.is.entries; text = c.deref.ensures.value ∙ n.finding.lists.is.text })))

pub returns-clause-outcome : goal.returns-clause-outcome
returns-clause-outcome g c =
    idle g.met.B.Blobs.lawful c.args.b.now _ c.requires.intact (λ w. (
      w.finding.stands,
      subst (SightIs w.finding.tree w.finding.ids (upward c.args.names.now) c.args.name.now) (sym c.seen_in.ensures)
          (seen_beside w.finding (upward c.args.names.now) (same_path_is (upward c.args.names.now) (upward c.args.from.now.dir.names.now) (sym c.same_names.ensures ∙ c.if-not-same_names.false)) c.args.name.now c.extend_from_slice.new.self
          (c.in_ok-extend_from_slice.ensures.items ∙ (ap (λ z. z ++ c.deref-2.result.now) c.new-body.ensures.items ∙ c.deref-2.ensures.value)) c.in-Some.seen.found
          (c.in-Some.ensures.place w.finding.lists.listing (record { entries = w.finding.lists.is.entries; text = c.deref.ensures.value ∙ w.finding.lists.is.text })).finds),
    ))
