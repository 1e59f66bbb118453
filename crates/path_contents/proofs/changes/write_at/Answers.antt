use Rattle.std.proofs.Common.{◌≤◌, length, ap, subst, arith}
use Rattle.std.proofs.lemmas.Result.{err_from_is_err_and}
use Rattle.path_walks.specs.store_outcome.Outcome.{first_, then_, passed}
use Rattle.path_walks.specs.blob_api.BlobMap.{IsSparing}
use Rattle.path_contents.proofs.Setting.{file_blob, has_name_in_then, content_set, written_few, spared, spared_once}
use Rattle.path_contents.proofs.changes.write_at.Goals as goal

pub returns-in_err-write_body-clause-outcome : goal.returns-in_err-write_body-clause-outcome
returns-in_err-write_body-clause-outcome g c =
    let p = err_from_is_err_and c.from_residual.result c.from_residual.ensures.1 in
    rw (p.1, p.2) (passed (first_ (λ w. file_blob w.setting c.requires.file) c.in_err-write_body.ensures.outcome (λ w y h. h)))

pub returns-in_err-write_body-clause-sparing : goal.returns-in_err-write_body-clause-sparing
returns-in_err-write_body-clause-sparing g c = λ w s f. spared_once w.setting c.write_body.new.b _ _ (c.in_err-write_body.ensures.sparing (file_blob w.setting c.requires.file) s f)

pub returns-clause-outcome : goal.returns-clause-outcome
returns-clause-outcome g c =
    then_ g.met.B.Blobs.lawful (first_ (λ w. file_blob w.setting c.requires.file) c.in_ok-write_body.ensures.outcome (λ w y h. h))
    (λ w h. has_name_in_then w c.requires.file _ (written_few w.setting c.requires.file c.args.from c.args.bytes.now c.requires.fits) c.write_body.new.b h c.deref.result.now c.deref.ensures.value) c.change_in.ensures.outcome
    (λ w h y k. content_set w.setting c.requires.file _ (written_few w.setting c.requires.file c.args.from c.args.bytes.now c.requires.fits) c.change_in.new.b k)

pub returns-clause-sparing : goal.returns-clause-sparing
returns-clause-sparing g c = λ w s f.
    let M = g.B.Blobs.meanings in
    let laws = g.met.B.Blobs.lawful in
    let first = c.in_ok-write_body.ensures.outcome in
    let early = laws.forgeries_grow c.args.b.now c.write_body.new.b first.loaded in
    let late = laws.forgeries_grow c.write_body.new.b c.change_in.new.b c.change_in.ensures.outcome.loaded in
    let one : M.forgeries c.write_body.new.b ≤ M.forgeries c.args.b.now = omega (arith, early, late, f) in
    let two : M.forgeries c.change_in.new.b ≤ M.forgeries c.write_body.new.b = omega (arith, early, late, f) in
    let stands = first.value (file_blob w.setting c.requires.file) s one in
    let name = has_name_in_then w c.requires.file _ (written_few w.setting c.requires.file c.args.from c.args.bytes.now c.requires.fits) c.write_body.new.b stands c.deref.result.now c.deref.ensures.value in
    spared w.setting g.met.B.Blobs.steady c.write_body.new.b c.change_in.new.b first.loaded _ _
    (c.in_ok-write_body.ensures.sparing (file_blob w.setting c.requires.file) s one)
    (subst (λ k. IsSparing g.B.Blobs.holdings c.write_body.new.b c.change_in.new.b k 0 k) (ap length name.text) (c.change_in.ensures.sparing (record { is = name.named.is; text = name.text }) (first.sound s one) two))
