use Rattle.std.proofs.Common.{sym, refl, ◌∙◌, ap, inl, inr, Some, None}
use Rattle.block_cache.specs.Payloads.{with_payload, cached_for}
use Rattle.store_api.specs.Entries.{change_view}
use Rattle.block_cache.proofs.Puts.{was_put}
use Rattle.block_cache.proofs.Lookups.{cached-absent, cached-replaced, cached-removed}
use Rattle.block_cache.proofs.Renewing.{renewed_as}
use Rattle.block_cache.proofs.payloads.renew.Goals as goal

pub returns-then-not-contains-clause-renewed : goal.returns-then-not-contains-clause-renewed
returns-then-not-contains-clause-renewed c other =
    let payloads = c.args.payloads.now in
    renewed_as c.args.id.now.0 other (change_view c.args.change.now) None (cached_for payloads other) (cached_for payloads other)
    (cached-absent c.args.id.now payloads other (sym c.contains.ensures ∙ c.if-not-contains.true)) (inl refl)

pub returns-in-Some-clause-renewed : goal.returns-in-Some-clause-renewed
returns-in-Some-clause-renewed c other =
    let payloads = c.args.payloads.now in
    let there = sym c.contains.ensures ∙ c.if-not-contains.false in
    renewed_as c.args.id.now.0 other (change_view c.args.change.now) (Some c.in-Some.copy.items) (cached_for payloads other) (cached_for c.put.new.self other)
    (ap (λ p. cached_for p other) (was_put c.put.result c.put.new.self (with_payload c.args.id.now c.in-Some.copy payloads) c.put.ensures.entries (c.put.ensures.succeeds there)) ∙ cached-replaced c.args.id.now c.in-Some.copy payloads other there)
    (inr (sym c.in-Some.ensures))

pub returns-in-None-clause-renewed : goal.returns-in-None-clause-renewed
returns-in-None-clause-renewed c other =
    let payloads = c.args.payloads.now in
    renewed_as c.args.id.now.0 other (change_view c.args.change.now) None (cached_for payloads other) (cached_for c.pop.new.self other)
    (ap (λ p. cached_for p other) c.pop.ensures.entries ∙ cached-removed c.args.id.now payloads other c.len-count.ensures.valid.0) (inl refl)
