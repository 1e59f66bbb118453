use Rattle.std.proofs.Common.{◌≤◌, length, refl, sym, ◌∙◌, ap, subst, arith}
use Rattle.std.specs.FinMap.{get}
use Rattle.std.proofs.lemmas.Option.{same_Some}
use Rattle.path_walks.specs.store_outcome.Outcome.{passed}
use Rattle.fs_model.specs.declared.error.FsError.TheVariants.{IsDirectory}
use Rattle.fs_model.specs.Tree.{Row, upward, parent, directory_size}
use Rattle.fs_model.specs.Step as model
use Rattle.path_walks.proofs.Commands.{reached_none, reached_row}
use Rattle.path_walks.specs.Reaching.{ReachedIs, HaveRowModes}
use Rattle.path_contents.proofs.Spared.{unspent, onward}
use Rattle.path_walks.proofs.Seeing.{row_finding}
use Rattle.path_contents.proofs.content.write.Goals as goal

pub returns-in-Ok-Refused-clause-outcome : goal.returns-in-Ok-Refused-clause-outcome
returns-in-Ok-Refused-clause-outcome g c = reached_none IsDirectory c.in-Ok-Refused.ensures.outcome (λ t p s. model.written t c.args.now p c.args.from c.args.bytes.now s) c.in-Ok-Refused.field-0-is (λ t. refl) (λ t k d. refl) (λ t k d x. refl)

pub returns-in-Ok-Row-clause-outcome : goal.returns-in-Ok-Row-clause-outcome
returns-in-Ok-Row-clause-outcome g c =
    reached_row IsDirectory c.in-Ok-Row.ensures.outcome (λ t p s. model.written t c.args.now p c.args.from c.args.bytes.now s) g.met.B.Blobs.lawful (λ n. subst (ReachedIs n.tree n.ids (upward c.args.names.now) IsDirectory) c.in-Ok-Row.field-0-is) c.write_found.ensures.outcome

pub write_found-requires-clause-mode : goal.write_found-requires-clause-mode
write_found-requires-clause-mode g c = (subst HaveRowModes c.in-Ok-Row.field-0-is c.in-Ok-Row.ensures.modes).1

pub returns-in-Err-clause-sparing : goal.returns-in-Err-clause-sparing
returns-in-Err-clause-sparing g c = λ n s f row there file. unspent g.B.Blobs.holdings c.args.b.now c.reach.new.b _ _ _ _ c.reach.ensures.unchanged

pub returns-in-Ok-Refused-clause-sparing : goal.returns-in-Ok-Refused-clause-sparing
returns-in-Ok-Refused-clause-sparing g c = λ n s f row there file. unspent g.B.Blobs.holdings c.args.b.now c.reach.new.b _ _ _ _ c.reach.ensures.unchanged

pub returns-in-Ok-Row-clause-sparing : goal.returns-in-Ok-Row-clause-sparing
returns-in-Ok-Row-clause-sparing g c = λ n s f row there file.
    let M = g.B.Blobs.meanings in
    let laws = g.met.B.Blobs.lawful in
    let b = c.reach.new.b in
    let reached = c.in-Ok-Row.ensures in
    let early = laws.forgeries_grow c.args.b.now b reached.outcome.loaded in
    let late = laws.forgeries_grow b c.write_found.new.b c.write_found.ensures.outcome.loaded in
    let one : M.forgeries b ≤ M.forgeries c.args.b.now = omega (arith, early, late, f) in
    let two : M.forgeries c.write_found.new.b ≤ M.forgeries b = omega (arith, early, late, f) in
    let h = reached.outcome.value n s one in
    let at = subst (ReachedIs n.tree n.ids (upward c.args.names.now) IsDirectory) c.in-Ok-Row.field-0-is h.1 in
    onward g.met.B.Blobs.steady c.args.b.now b c.write_found.new.b reached.outcome.loaded reached.unchanged _ _ _ _ _ _
    (ap (λ (r : Row). length r.bytes) (same_Some _ _ (sym at.is.here.there ∙ (ap (get n.tree) (sym at.split) ∙ there))))
    (ap (λ z. directory_size n.tree (parent z)) (sym at.split))
    (c.write_found.ensures.sparing (row_finding n b h.0 at) (reached.outcome.sound s one) two)

pub returns-in-Err-clause-outcome : goal.returns-in-Err-clause-outcome
returns-in-Err-clause-outcome g c = passed c.in-Err.ensures.outcome
