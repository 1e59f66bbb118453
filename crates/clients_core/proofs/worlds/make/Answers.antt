use Rattle.std.proofs.Common.{sym, ap, subst, ◌-◌, get_or, length, arith}
use Rattle.std.specs.Prelude.{slice_set, IfOk}
use Rattle.std.proofs.lemmas.Option.{slice_get-get_or}
use Rattle.clients_core.specs.Clients.{AreClients, Stepped}
use Rattle.clients_core.specs.Versions.{version_of}
use Rattle.clients_core.specs.Worlds.{IsStep, Lists, Step, step_of}
use Rattle.clients_core.proofs.Rows.{make_seal, make_offer}
use Rattle.clients_core.proofs.worlds.make.Goals as goal

pub returns-in-Seal-clause-stepped : goal.returns-in-Seal-clause-stepped
returns-in-Seal-clause-stepped c =
    let xs = c.args.seen.now in
    let named = subst (IsStep (length xs)) (ap step_of c.in-Seal.is) c.requires.step in
    let there = slice_get-get_or xs (c.in-Seal.client - 1) c.index-seen-client.result (omega (arith, named.0, named.1)) in
    subst (λ (s : Step). IfOk c.seal.result (λ answer. (hs : Lists) → AreClients xs hs → Stepped (slice_set xs (c.in-Seal.client - 1) c.seal.new.seen) hs s answer)) (sym (ap step_of c.in-Seal.is))
    (make_seal xs c.in-Seal.client c.in-Seal.id.0 (get_or xs (c.in-Seal.client - 1) c.index-seen-client.result) c.seal.new.seen c.seal.result named.0 there c.seal.ensures.own c.seal.ensures.sealed)

pub returns-in-Offer-clause-stepped : goal.returns-in-Offer-clause-stepped
returns-in-Offer-clause-stepped c =
    let xs = c.args.seen.now in
    let named = subst (IsStep (length xs)) (ap step_of c.in-Offer.is) c.requires.step in
    let there = slice_get-get_or xs (c.in-Offer.client - 1) c.index-seen-client-in-Offer.result (omega (arith, named.0, named.1)) in
    subst (λ (s : Step). IfOk c.offer.result (λ answer. (hs : Lists) → AreClients xs hs → Stepped (slice_set xs (c.in-Offer.client - 1) c.offer.new.seen) hs s answer)) (sym (ap step_of c.in-Offer.is))
    (make_offer xs c.in-Offer.client (version_of c.in-Offer.triple) (get_or xs (c.in-Offer.client - 1) c.index-seen-client-in-Offer.result) c.offer.new.seen c.offer.result named.0 there c.offer.ensures.own c.offer.ensures.offered)
