use Rattle.std.proofs.Common.{sym, ap, subst, ◌≤◌}
use Rattle.dir_blob.specs.store_outcome.Outcome.{first_, idle}
use Rattle.block_id.specs.declared.id.BlockId.{BlockId}
use Rattle.fs_model.specs.declared.attr.Attr.{Attr}
use Rattle.fs_model.specs.declared.limits.TheConstants.{MAX_MODE}
use Rattle.fs_model.specs.Tree.{upward}
use Rattle.path_walks.proofs.Touching.{root_stays, setting, touched_then}
use Rattle.path_walks.proofs.touches.touch.Goals as goal

pub returns-in-None : goal.returns-in-None
returns-in-None g c = idle g.met.B.Blobs.lawful c.args.b.now tt c.requires.intact (λ w. root_stays w c.args.now c.in-None.ensures)

pub set_entry-requires-clause-mode : goal.set_entry-requires-clause-mode
set_entry-requires-clause-mode g c = subst (λ (a : Attr). a.mode ≤ MAX_MODE) (sym c.in_ok-entry-in-Some.ensures.attr) c.requires.mode

pub returns-in_ok-entry-in-Some : goal.returns-in_ok-entry-in-Some
returns-in_ok-entry-in-Some g c =
    let now = c.args.now in
    let n = c.in-Some.name.now in
    let d = upward c.in-Some.field-0-1.now in
    let entry = c.in_ok-entry-in-Some.entry in
    first_ (λ w. setting w now n d c.in-Some.ensures entry.name (sym c.in_ok-entry-in-Some.ensures.name) c.requires.mode entry.attr c.in_ok-entry-in-Some.ensures.attr entry.blob.0 (ap (λ (z : BlockId). z.0) (sym c.in_ok-entry-in-Some.ensures.blob))) c.set_entry.ensures
    (λ w y h. touched_then w now n d c.in-Some.ensures c.set_entry.new.b entry.name (sym c.in_ok-entry-in-Some.ensures.name) entry.attr c.in_ok-entry-in-Some.ensures.attr h)
