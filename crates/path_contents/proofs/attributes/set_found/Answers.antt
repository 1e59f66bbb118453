use Rattle.std.proofs.Common.{sym, ◌∙◌, ap, subst, ◌≤◌}
use Rattle.path_walks.specs.store_outcome.Outcome.{first_}
use Rattle.fs_model.specs.declared.attr.Attr.{Attr}
use Rattle.fs_model.specs.declared.limits.TheConstants.{MAX_MODE}
use Rattle.fs_model.specs.Changes.{changed_by}
use Rattle.path_walks.proofs.Told.{made}
use Rattle.path_contents.proofs.Found.{kind_kept, mode_fits, setting, set_done}
use Rattle.path_contents.proofs.attributes.set_found.Goals as goal

pub returns-clause-outcome : goal.returns-clause-outcome
returns-clause-outcome g c =
    let old = c.args.at.now.place.attr in
    made c.done.ensures.is (first_ (λ w. setting w c.args.b.now w.stands c.in_ok-try_clone.field-0 (sym c.in_ok-try_clone.ensures) c.changed.result
    (kind_kept c.args.change c.args.now old ∙ ap (λ (a : Attr). a.kind) (sym c.changed.ensures)) (subst (λ (a : Attr). a.mode ≤ MAX_MODE) (sym c.changed.ensures) (mode_fits c.args.change c.args.now old c.requires.fits c.requires.mode)) c.deref.result.now c.deref.ensures.value) c.set_entry_in.ensures (λ w y h. h))
    (λ w y h. set_done w c.in_ok-try_clone.field-0 (sym c.in_ok-try_clone.ensures) c.changed.result (changed_by c.args.change c.args.now w.is.here.row.attr)
    (c.changed.ensures ∙ ap (changed_by c.args.change c.args.now) (sym w.is.here.attr)) w.is.here.row.bytes c.set_entry_in.new.b h)
