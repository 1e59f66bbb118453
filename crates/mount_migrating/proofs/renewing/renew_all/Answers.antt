use Rattle.std.proofs.Common.{◌≡◌, ◌+◌, ◌∙◌, ◌++◌, suc, [], ◌∷◌, take, drop, get_or, refl, sym, ap, subst, add-one, arith}
use Rattle.std.proofs.lemmas.List.{take-append-drop}
use Rattle.std.specs.declared.result.Result.TheVariants.{Err}
use Rattle.mount_answering.specs.mount_core.Showing.{ShowsFiles}
use Rattle.mount_migrating.specs.Migrating.{told, AreNew, AreUnspent, Raises}
use Rattle.mount_migrating.proofs.Crowds.{is_in, is_next, listed, new_then, next_taken, raises_then, raises_wider, spent_then, turned, unspent_then}
use Rattle.mount_answering.specs.answers.declared.answer.Answer.TheVariants.{Reply as Replied}
use Rattle.fs_model.specs.declared.reply.Reply.TheVariants.{Done}
use Rattle.mount_migrating.proofs.Drawing.{draws_same, draws_then}
use Rattle.mount_migrating.proofs.Noticing.{along_same, along_then}
use Rattle.mount_migrating.proofs.Proceeding.{proceeds_same, proceeds_then, reason_after}
use Rattle.mount_migrating.proofs.renewing.renew_all.Goals as goal

pub loop-id-init : goal.loop-id-init
loop-id-init g c = record {
  ready = c.requires.ready;
  proceeds = proceeds_same ShowsFiles g.S.Blocks.meanings g.S.Blocks.holdings g.S.Durable.durables g.S.Durable.records g.K.Keeper c.args.core.now;
  least = refl;
  vault = refl;
  keeper = refl;
  raises = record { raised = λ id. omega arith; rests = λ id none. refl };
  unspent = λ id has. absurd (cc has);
  are_new = λ id has. absurd (cc has);
  stays_new = λ id n. n;
  noticed = along_same g.S.Blocks.meanings g.S.Blocks.holdings g.S.Durable.durables g.S.BlocksMut.applied g.met.S.Blocks.lawful c.args.core.now.blobs.tx.store (Replied Done);
  draws = draws_same g.S.Blocks.meanings g.S.Blocks.holdings g.S.Durable.durables g.S.Durable.records g.K.Keeper g.S.BlocksMut.applied g.S.BlocksMut.drawn g.met.S.Blocks.lawful c.args.core.now (g.R.Rng.stream c.args.chance.now);
}

pub renew_next-requires-clause-ready : goal.renew_next-requires-clause-ready
renew_next-requires-clause-ready g c = c.loop-id.invariant.ready

pub renew_next-requires-clause-fresh : goal.renew_next-requires-clause-fresh
renew_next-requires-clause-fresh g c = c.loop-id.invariant.proceeds.violated ∙ c.requires.fresh

pub renew_next-requires-clause-live : goal.renew_next-requires-clause-live
renew_next-requires-clause-live g c =
    let ids = c.args.ids.now in
    let i = c.loop-id.id-index in
    let id = (get_or ids i (record { 0 = [] })).0 in
    let at = turned ids i (record { 0 = [] }) c.loop-id-test.true in
    c.loop-id.invariant.proceeds.ids id ∙ (sym (c.requires.live id) ∙ is_in (listed ids) i id (drop (suc i) (listed ids)) at)

pub loop-id-preserved : goal.loop-id-preserved
loop-id-preserved g c =
    let M = g.S.Blocks.meanings in
    let H = g.S.Blocks.holdings in
    let D = g.S.Durable.durables in
    let ids = c.args.ids.now in
    let i = c.loop-id.id-index in
    let id = (get_or ids i (record { 0 = [] })).0 in
    let inv = c.loop-id.invariant in
    let w = c.in-Ok.ensures.renews in
    let first = c.args.core.now in
    let mid = c.loop-id.core in
    let new = c.renew_next.new.core in
    let at = turned ids i (record { 0 = [] }) c.loop-id-test.true in
    let fresh = is_next (listed ids) i id (drop (suc i) (listed ids)) at c.requires.once in
    let more : take (i + 1) (listed ids) ≡ take i (listed ids) ++ id ∷ [] = ap (λ n. take n (listed ids)) (add-one i) ∙ next_taken (listed ids) i id (drop (suc i) (listed ids)) at in
    let done = take i (listed ids) in
    record {
      ready = c.in-Ok.ensures.ready;
      proceeds = proceeds_then ShowsFiles M H D g.S.Durable.records g.K.Keeper first mid new inv.proceeds w.proceeds;
      least = w.least ∙ inv.least;
      vault = w.reason.vault_quiet refl ∙ inv.vault;
      keeper = w.reason.keeper_quiet refl ∙ inv.keeper;
      raises = subst (Raises H first.blobs.tx.store new.blobs.tx.store) (sym more) (raises_then H D first.blobs.tx.store mid.blobs.tx.store new.blobs.tx.store done id fresh inv.raises w.raises);
      unspent = subst (AreUnspent H first.blobs.tx.store) (sym more) (unspent_then H D first.blobs.tx.store mid.blobs.tx.store new.blobs.tx.store done id fresh inv.raises inv.unspent w.unspent);
      are_new = subst (AreNew H D new.blobs.tx.store) (sym more) (new_then H D first.blobs.tx.store mid.blobs.tx.store new.blobs.tx.store done id fresh inv.are_new w.are_new w.stays_new);
      stays_new = λ other n. w.stays_new other (inv.stays_new other n);
      noticed = along_then M H D g.S.BlocksMut.applied first.blobs.tx.store mid.blobs.tx.store new.blobs.tx.store (Replied Done) inv.noticed c.in-Ok.ensures.noticed;
      draws = draws_then g.S.Blocks.meanings g.S.Blocks.holdings g.S.Durable.durables g.S.Durable.records g.K.Keeper g.S.BlocksMut.applied g.S.BlocksMut.drawn first mid new _ _ _ inv.draws inv.ready.intact ([], c.in-Ok.ensures.draws);
    }

pub returns-in-Err-clause-renews : goal.returns-in-Err-clause-renews
returns-in-Err-clause-renews g c =
    let M = g.S.Blocks.meanings in
    let H = g.S.Blocks.holdings in
    let D = g.S.Durable.durables in
    let ids = c.args.ids.now in
    let i = c.loop-id.id-index in
    let id = (get_or ids i (record { 0 = [] })).0 in
    let inv = c.loop-id.invariant in
    let w = c.in-Err.ensures.renews in
    let first = c.args.core.now in
    let mid = c.loop-id.core in
    let new = c.renew_next.new.core in
    let at = turned ids i (record { 0 = [] }) c.loop-id-test.true in
    let fresh = is_next (listed ids) i id (drop (suc i) (listed ids)) at c.requires.once in
    let has = is_in (listed ids) i id (drop (suc i) (listed ids)) at in
    let done = take i (listed ids) in
    let more = next_taken (listed ids) i id (drop (suc i) (listed ids)) at in
    let raises = subst (Raises H first.blobs.tx.store new.blobs.tx.store) (sym more) (raises_then H D first.blobs.tx.store mid.blobs.tx.store new.blobs.tx.store done id fresh inv.raises w.raises) in
    record {
      proceeds = proceeds_then ShowsFiles M H D g.S.Durable.records g.K.Keeper first mid new inv.proceeds w.proceeds;
      reason = reason_after ShowsFiles M H D g.S.Durable.records g.K.Keeper first mid new (id ∷ []) (listed ids) (told {T = Unit} (Err c.in-Err.error)) inv.proceeds w.proceeds inv.vault inv.keeper
          (spent_then H D first.blobs.tx.store mid.blobs.tx.store new.blobs.tx.store done id fresh (listed ids) has inv.raises) w.reason;
      raises = subst (Raises H first.blobs.tx.store new.blobs.tx.store) (take-append-drop (suc i) (listed ids)) (raises_wider H first.blobs.tx.store new.blobs.tx.store (take (suc i) (listed ids)) (drop (suc i) (listed ids)) raises);
      unspent = tt;
      are_new = tt;
      stays_new = tt;
      least = w.least ∙ inv.least;
    }

pub returns-in-Err-clause-noticed : goal.returns-in-Err-clause-noticed
returns-in-Err-clause-noticed g c =
    along_then g.S.Blocks.meanings g.S.Blocks.holdings g.S.Durable.durables g.S.BlocksMut.applied c.args.core.now.blobs.tx.store c.loop-id.core.blobs.tx.store c.renew_next.new.core.blobs.tx.store (told {T = Unit} (Err c.in-Err.error))
    c.loop-id.invariant.noticed c.in-Err.ensures.noticed

pub returns-in-Err-clause-draws : goal.returns-in-Err-clause-draws
returns-in-Err-clause-draws g c =
    let inv = c.loop-id.invariant in
    draws_then g.S.Blocks.meanings g.S.Blocks.holdings g.S.Durable.durables g.S.Durable.records g.K.Keeper g.S.BlocksMut.applied g.S.BlocksMut.drawn c.args.core.now c.loop-id.core c.renew_next.new.core _ _ _
    inv.draws inv.ready.intact ([], c.in-Err.ensures.draws)
