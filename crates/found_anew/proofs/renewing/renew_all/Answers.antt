use Rattle.std.proofs.Common.{[], get_or, refl, sym, ◌∙◌, ap, subst}
use Rattle.std.specs.Prelude.{is_some}
use Rattle.std.specs.FinMap as fin
use Rattle.block_id.specs.declared.id.BlockId.{BlockId}
use Rattle.found_blocks.specs.Finding.{Finding, content_of}
use Rattle.found_blocks.specs.Views.{finding_by}
use Rattle.found_blocks.specs.block_versions.Views.{held_of}
use Rattle.found_anew.specs.Renewing.{RenewsOnce, WentOnRenewing}
use Rattle.found_anew.proofs.Copying.{among, renewed_none, renewed_once}
use Rattle.found_anew.proofs.Going.{renewing_on, renewing_same}
use Rattle.found_anew.proofs.renewing.renew_all.Goals as goal

pub loop-id-init : goal.loop-id-init
loop-id-init g c =
    let f = finding_by g.C.Sealer.opens c.args.found.now in
    let a = held_of g.C.Sealer.opens c.args.found.now.sealed c.args.state.now in
    record {
      renews = renewed_none f a (g.V.Vault.trace c.args.found.now.sealed.vault.vault) c.requires.fresh c.requires.intact.1.list;
      grows = renewing_same f (g.V.Vault.trace c.args.found.now.sealed.vault.vault);
      same = refl;
      intact = c.requires.intact;
      client = refl;
      quiet = refl;
    }

pub renew_found-requires-clause-there : goal.renew_found-requires-clause-there
renew_found-requires-clause-there g c =
    let ids = c.args.ids.now in
    let none : BlockId = record { 0 = [] } in
    let id = (get_or ids c.loop-id.id-index none).0 in
    ap (λ (f : Finding). is_some (content_of f id)) c.loop-id.invariant.same ∙ (sym (c.requires.lists.live id) ∙ among ids c.loop-id.id-index none c.loop-id-test.true)

pub loop-id-preserved : goal.loop-id-preserved
loop-id-preserved g c =
    let inv = c.loop-id.invariant in
    let V = g.V.Vault in
    let ids = c.args.ids.now in
    let i = c.loop-id.id-index in
    let none : BlockId = record { 0 = [] } in
    let f = finding_by g.C.Sealer.opens c.args.found.now in
    let a = held_of g.C.Sealer.opens c.args.found.now.sealed c.args.state.now in
    let h = held_of g.C.Sealer.opens c.loop-id.found.sealed c.loop-id.state in
    let b = held_of g.C.Sealer.opens c.renew_found.new.found.sealed c.renew_found.new.state in
    let now = V.trace c.loop-id.found.sealed.vault.vault in
    let new = V.trace c.renew_found.new.found.sealed.vault.vault in
    let stream = g.R.Rng.stream c.loop-id.chance in
    let left = g.R.Rng.stream c.renew_found.new.chance in
    let known = is_some (fin.get h.state.lives (get_or ids i none).0) in
    let once = subst (λ (z : Finding). RenewsOnce known z h b (get_or ids i none).0 now new stream left) inv.same c.in_ok-renew_found.ensures.renews in
    record {
      renews = renewed_once f a (V.trace c.args.found.now.sealed.vault.vault) ids i none c.loop-id-test.true h b now new stream left inv.renews inv.grows (fin.get h.state.lives (get_or ids i none).0) refl once;
      grows = renewing_on f (V.trace c.args.found.now.sealed.vault.vault) now new inv.grows (subst (λ (z : Finding). WentOnRenewing z now new) inv.same c.renew_found.ensures.grows);
      same = c.renew_found.ensures.same ∙ inv.same;
      intact = c.in_ok-renew_found.ensures.intact;
      client = c.in_ok-renew_found.ensures.client ∙ inv.client;
      quiet = c.in_ok-renew_found.ensures.quiet ∙ inv.quiet;
    }

pub returns-in_err-renew_found-clause-grows : goal.returns-in_err-renew_found-clause-grows
returns-in_err-renew_found-clause-grows g c =
    let f = finding_by g.C.Sealer.opens c.args.found.now in
    let now = g.V.Vault.trace c.loop-id.found.sealed.vault.vault in
    let new = g.V.Vault.trace c.renew_found.new.found.sealed.vault.vault in
    renewing_on f (g.V.Vault.trace c.args.found.now.sealed.vault.vault) now new c.loop-id.invariant.grows
    (subst (λ (z : Finding). WentOnRenewing z now new) c.loop-id.invariant.same c.renew_found.ensures.grows)
