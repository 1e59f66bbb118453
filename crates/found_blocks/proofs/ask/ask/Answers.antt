use Rattle.std.proofs.Common.{◌≡◌, ◌∷◌, refl, sym, ◌∙◌, ap, subst}
use Rattle.std.specs.FinMap.Entries.{put}
use Rattle.std.specs.declared.option.Option.TheVariants.{None, Some}
use Rattle.store_api.specs.Content.{id_cmp}
use Rattle.found_blocks.specs.Rows.{author_of}
use Rattle.std.specs.Prelude.{true}
use Rattle.store_api.specs.Holdings.{has_id}
use Rattle.found_blocks.specs.Finding.{given_of}
use Rattle.found_blocks.specs.Searching.{GotAny, Noted, Searched, with_rows}
use Rattle.found_blocks.specs.Views.{finding_by}
use Rattle.found_blocks.proofs.Asking.{asked_found, asked_none, asked_nothing, got_by_rows, noted_more}
use Rattle.found_blocks.proofs.ask.ask.Goals as goal

pub returns-then-is_zero-clause-searched : goal.returns-then-is_zero-clause-searched
returns-then-is_zero-clause-searched g c =
    let f = with_rows (finding_by g.C.Sealer.opens c.args.store.now) c.args.search.now.rows in
    let t = g.V.Vault.trace c.args.store.now.sealed.vault.vault in
    asked_none f f c.args.search.now.asked c.args.search.now.asked t t (λ id has. has) refl refl

pub returns-in-Ok-false-clause-searched : goal.returns-in-Ok-false-clause-searched
returns-in-Ok-false-clause-searched g c =
    let f = finding_by g.C.Sealer.opens c.args.store.now in
    let t = g.V.Vault.trace c.args.store.now.sealed.vault.vault in
    asked_none (with_rows f c.args.search.now.rows) (with_rows f c.note.new.self.rows) c.args.search.now.asked c.note.new.self.asked t t
    (noted_more c.args.search.now.asked c.note.new.self.asked c.args.id.now.0 c.in-Ok-false.field-0 c.in-Ok-false.ensures.ok) (ap (with_rows f) c.note.ensures.rows) refl

pub returns-in-Err-clause-searched : goal.returns-in-Err-clause-searched
returns-in-Err-clause-searched g c =
    let f = finding_by g.C.Sealer.opens c.args.store.now in
    let t = g.V.Vault.trace c.args.store.now.sealed.vault.vault in
    asked_none (with_rows f c.args.search.now.rows) (with_rows f c.note.new.self.rows) c.args.search.now.asked c.note.new.self.asked t t
    (λ id has. subst (λ ids. has_id ids id ≡ true) (sym c.in-Err.ensures.err) has) (ap (with_rows f) c.note.ensures.rows) refl

pub returns-in-Ok-None-clause-searched : goal.returns-in-Ok-None-clause-searched
returns-in-Ok-None-clause-searched g c =
    let f = with_rows (finding_by g.C.Sealer.opens c.args.store.now) c.args.search.now.rows in
    let t = g.V.Vault.trace c.args.store.now.sealed.vault.vault in
    let same = ap (λ k. with_rows k c.note.new.self.rows) c.get_any.ensures.finding ∙ ap (with_rows (finding_by g.C.Sealer.opens c.args.store.now)) c.note.ensures.rows in
    let gave = c.in-Ok-None.ensures.got_ in
    asked_nothing f (with_rows (finding_by g.C.Sealer.opens c.get_any.new.store) c.note.new.self.rows) c.args.search.now.asked c.note.new.self.asked c.args.id.now.0 None t
    (g.V.Vault.trace c.get_any.new.store.sealed.vault.vault) (subst (Noted c.args.search.now.asked c.note.new.self.asked c.args.id.now.0) c.in-Ok-true.field-0-test c.in-Ok-true.ensures.ok) (record { answer = gave.answer; came = gave.came; opens = tt }) same

pub returns-in-Err-get_any-clause-searched : goal.returns-in-Err-get_any-clause-searched
returns-in-Err-get_any-clause-searched g c =
    let f = with_rows (finding_by g.C.Sealer.opens c.args.store.now) c.args.search.now.rows in
    let same = ap (λ k. with_rows k c.note.new.self.rows) c.get_any.ensures.finding ∙ ap (with_rows (finding_by g.C.Sealer.opens c.args.store.now)) c.note.ensures.rows in
    asked_none f (with_rows (finding_by g.C.Sealer.opens c.get_any.new.store) c.note.new.self.rows) c.args.search.now.asked c.note.new.self.asked
    (g.V.Vault.trace c.args.store.now.sealed.vault.vault) (g.V.Vault.trace c.get_any.new.store.sealed.vault.vault)
    (noted_more c.args.search.now.asked c.note.new.self.asked c.args.id.now.0 true (subst (Noted c.args.search.now.asked c.note.new.self.asked c.args.id.now.0) c.in-Ok-true.field-0-test c.in-Ok-true.ensures.ok)) same c.in-Err-get_any.ensures.err

pub returns-in-Err-add-clause-searched : goal.returns-in-Err-add-clause-searched
returns-in-Err-add-clause-searched g c =
    let f = with_rows (finding_by g.C.Sealer.opens c.args.store.now) c.args.search.now.rows in
    let t = g.V.Vault.trace c.args.store.now.sealed.vault.vault in
    let same = ap (with_rows (finding_by g.C.Sealer.opens c.get_any.new.store)) c.in-Err-add.ensures.err ∙ ap (λ k. with_rows k c.note.new.self.rows) c.get_any.ensures.finding ∙ ap (with_rows (finding_by g.C.Sealer.opens c.args.store.now)) c.note.ensures.rows in
    subst (λ asked. Searched f (with_rows (finding_by g.C.Sealer.opens c.get_any.new.store) c.add.new.self.rows) c.args.search.now.asked asked t (g.V.Vault.trace c.get_any.new.store.sealed.vault.vault)) (sym c.add.ensures.asked)
    (asked_nothing f (with_rows (finding_by g.C.Sealer.opens c.get_any.new.store) c.add.new.self.rows) c.args.search.now.asked c.note.new.self.asked c.args.id.now.0 (Some (c.in-Ok-Some.row, c.in-Ok-Some.payload)) t
    (g.V.Vault.trace c.get_any.new.store.sealed.vault.vault) (subst (Noted c.args.search.now.asked c.note.new.self.asked c.args.id.now.0) c.in-Ok-true.field-0-test c.in-Ok-true.ensures.ok) (subst (GotAny f t (g.V.Vault.trace c.get_any.new.store.sealed.vault.vault) c.args.id.now.0) c.in-Ok-Some.field-0-is (got_by_rows (finding_by g.C.Sealer.opens c.args.store.now) c.args.search.now.rows t (g.V.Vault.trace c.get_any.new.store.sealed.vault.vault) c.args.id.now.0 c.in-Ok-Some.field-0 c.in-Ok-Some.ensures.got_)) same)

pub returns-in-Ok-clause-searched : goal.returns-in-Ok-clause-searched
returns-in-Ok-clause-searched g c =
    let f = with_rows (finding_by g.C.Sealer.opens c.args.store.now) c.args.search.now.rows in
    let k = finding_by g.C.Sealer.opens c.get_any.new.store in
    let t = g.V.Vault.trace c.args.store.now.sealed.vault.vault in
    let u = g.V.Vault.trace c.get_any.new.store.sealed.vault.vault in
    let after = with_rows (record k { given = given_of c.note-in-Ok.new.self.events }) c.add.new.self.rows in
    let given : given_of c.note-in-Ok.new.self.events ≡ (c.args.id.now.0, c.in-Ok-Some.payload.items) ∷ (finding_by g.C.Sealer.opens c.args.store.now).given
    = ap given_of c.note-in-Ok.ensures ∙ (ap (λ bytes. (c.args.id.now.0, bytes) ∷ k.given) c.deref.ensures.value ∙ ap (λ x. (c.args.id.now.0, c.in-Ok-Some.payload.items) ∷ x.given) c.get_any.ensures.finding) in
    subst (λ asked. Searched f after c.args.search.now.asked asked t u) (sym c.add.ensures.asked)
    (asked_found f after c.args.search.now.asked c.note.new.self.asked c.args.id.now.0 c.in-Ok-Some.row c.in-Ok-Some.payload t u (subst (Noted c.args.search.now.asked c.note.new.self.asked c.args.id.now.0) c.in-Ok-true.field-0-test c.in-Ok-true.ensures.ok) (subst (GotAny f t u c.args.id.now.0) c.in-Ok-Some.field-0-is (got_by_rows (finding_by g.C.Sealer.opens c.args.store.now) c.args.search.now.rows t u c.args.id.now.0 c.in-Ok-Some.field-0 c.in-Ok-Some.ensures.got_))
    (sym c.is_zero.ensures ∙ c.if-is_zero.false) (ap (λ x. x.size) c.get_any.ensures.finding) (ap (λ x. x.opens) c.get_any.ensures.finding)
    (c.in-Ok.ensures.ok ∙ ap (put id_cmp c.in-Ok-Some.row.id.0 (author_of c.in-Ok-Some.row)) c.note.ensures.rows) given)
