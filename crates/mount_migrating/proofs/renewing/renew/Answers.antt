use Rattle.std.proofs.Common.{◌≡◌, ◌≤◌, ◌∙◌, ℕ, true, [], ◌∷◌, length, refl, sym, ap, subst, inl, inr}
use Rattle.std.specs.Prelude.{Vec, IfSome}
use Rattle.std.specs.declared.alloc.Global.{Global}
use Rattle.std.specs.declared.option.Option.{Option}
use Rattle.outside.specs.View.{bytes_of}
use Rattle.std.specs.FinMap as fin
use Rattle.std.specs.declared.option.Option.TheVariants.{Some}
use Rattle.std.specs.declared.result.Result.TheVariants.{Err}
use Rattle.mount_answering.specs.store_outcome.Outcome.{alarm as no_alarm}
use Rattle.mount_answering.specs.record_saver.Saving.{world}
use Rattle.mount_answering.specs.store_api.Content.{Changes}
use Rattle.mount_answering.specs.store_api.Holdings.{Changed, FitsStore, IsFew, IsSpent}
use Rattle.mount_answering.specs.mount_core.Showing.{ShowsFiles}
use Rattle.mount_answering.proofs.path_layer_lemmas.Shows.{files_same}
use Rattle.mount_answering.specs.mount_core.Drawing.{NamesKnown}
use Rattle.mount_answering.specs.mount_core.declared.body.Core.{Core}
use Rattle.mount_answering.proofs.Lines.{whole_loaded}
use Rattle.mount_answering.proofs.store_api_lemmas.Draws.{later_same}
use Rattle.mount_answering.proofs.store_api_lemmas.Rising.{same_id_is}
use Rattle.mount_answering.specs.store_api.Durables.{IsNewFile}
use Rattle.mount_answering.specs.answers.declared.answer.Answer.TheVariants.{Memory}
use Rattle.mount_answering.specs.mount_core.NoticeLaws.{none_came}
use Rattle.mount_migrating.specs.Migrating.{told, Renews}
use Rattle.mount_migrating.specs.Noticing.{NoticedAlong}
use Rattle.mount_migrating.proofs.Anew.{batch_spent, failed_reason, loaded_proceeds, memory_reason, raises_stays, renewed_proceeds, renewed_raises, unapplied_reason, unspent_by}
use Rattle.mount_migrating.proofs.Batches.{one, one_fits, one_has, one_known, one_self}
use Rattle.mount_migrating.proofs.NewFiles.{new_applied, new_given, new_loaded}
use Rattle.mount_migrating.proofs.Noticing.{along_failed, along_loaded, along_renewed}
use Rattle.mount_migrating.proofs.Syncing.{done_reason}
use Rattle.mount_migrating.proofs.renewing.renew.Given.{Over}
use Rattle.mount_migrating.proofs.renewing.renew.Goals as goal

abbrev CoreOf : Over → Type 0
CoreOf g = Core g.row.S.Denot g.row.K.Denot

pub returns-in-Err-clause-renews : goal.returns-in-Err-clause-renews
returns-in-Err-clause-renews g c =
    let M = g.S.Blocks.meanings in
    let H = g.S.Blocks.holdings in
    let D = g.S.Durable.durables in
    let R = g.S.Durable.records in
    let G = g.K.Keeper in
    let old = c.args.core.now in
    let new : CoreOf g = record old { blobs = record { tx = record old.blobs.tx { store = c.load.new.self } } } in
    let ids = c.args.id.now.0 ∷ [] in
    let o = c.in-Err.ensures.outcome in
    subst (λ e. Renews ShowsFiles (world M H D R G) old ids (Err e) new) (sym c.load_error.ensures) (record {
      proceeds = loaded_proceeds ShowsFiles M H D R G files_same g.met.S.Blocks.lawful g.met.S.Blocks.steady g.S.BlocksMut.applied g.met.S.BlocksMut.settled g.met.S.Durable.enduring old new o.loaded o.sound refl refl refl;
      reason = failed_reason ShowsFiles M H D R G files_same g.met.S.Blocks.lawful g.met.S.Blocks.steady g.S.BlocksMut.applied g.met.S.BlocksMut.settled g.met.S.Durable.enduring old new ids c.in-Err.fail o.loaded refl o.fault o.quiet o.met
          (λ kept now s honest. no_alarm g.met.S.Blocks.lawful o tt s.sound honest) c.in-Err.ensures.of_blocks;
      raises = raises_stays ShowsFiles M H D R G files_same g.met.S.Blocks.lawful g.met.S.Blocks.steady g.S.BlocksMut.applied g.met.S.BlocksMut.settled g.met.S.Durable.enduring old.blobs.tx.store c.load.new.self ids c.in-Err.ensures.stays;
      least = g.met.S.Durable.enduring.loaded_least old.blobs.tx.store c.load.new.self o.loaded;
      unspent = tt;
      are_new = tt;
      stays_new = tt;
    })

pub returns-in-Err-put-clause-renews : goal.returns-in-Err-put-clause-renews
returns-in-Err-put-clause-renews g c =
    let M = g.S.Blocks.meanings in
    let H = g.S.Blocks.holdings in
    let D = g.S.Durable.durables in
    let R = g.S.Durable.records in
    let G = g.K.Keeper in
    let old = c.args.core.now in
    let new : CoreOf g = record old { blobs = record { tx = record old.blobs.tx { store = c.load.new.self } } } in
    let ids = c.args.id.now.0 ∷ [] in
    let o = c.in-Ok-Some.ensures.outcome in
    record {
      proceeds = loaded_proceeds ShowsFiles M H D R G files_same g.met.S.Blocks.lawful g.met.S.Blocks.steady g.S.BlocksMut.applied g.met.S.BlocksMut.settled g.met.S.Durable.enduring old new o.loaded o.sound refl refl refl;
      reason = memory_reason ShowsFiles M H D R G files_same g.met.S.Blocks.lawful g.met.S.Blocks.steady g.S.BlocksMut.applied g.met.S.BlocksMut.settled g.met.S.Durable.enduring old new ids o.quiet refl;
      raises = raises_stays ShowsFiles M H D R G files_same g.met.S.Blocks.lawful g.met.S.Blocks.steady g.S.BlocksMut.applied g.met.S.BlocksMut.settled g.met.S.Durable.enduring old.blobs.tx.store c.load.new.self ids c.load.ensures.stays;
      least = g.met.S.Durable.enduring.loaded_least old.blobs.tx.store c.load.new.self o.loaded;
      unspent = tt;
      are_new = tt;
      stays_new = tt;
    }

pub apply-requires-clause-fits : goal.apply-requires-clause-fits
apply-requires-clause-fits g c =
    let H = g.S.Blocks.holdings in
    let id = c.args.id.now.0 in
    let payload = c.in-Ok-Some.payload.items in
    let is : c.put.new.self ≡ one id payload = c.in-Ok.ensures.ok ∙ ap (λ (m : Changes). fin.insert m id (Some payload)) c.new-batch.ensures in
    let sized = subst (λ (x : Option (Vec ℕ Global)). IfSome x (λ bytes. length bytes.items ≡ H.payload c.args.core.now.blobs.tx.store)) c.in-Ok-Some.field-0-is c.in-Ok-Some.ensures.sized in
    subst (FitsStore H c.load.new.self) (sym is)
    (one_fits H c.load.new.self id payload (c.load.ensures.stays.ids id ∙ c.requires.live) (sized ∙ sym c.load.ensures.stays.payload))

pub returns-in-Ok-apply-clause-renews : goal.returns-in-Ok-apply-clause-renews
returns-in-Ok-apply-clause-renews g c =
    let M = g.S.Blocks.meanings in
    let H = g.S.Blocks.holdings in
    let D = g.S.Durable.durables in
    let R = g.S.Durable.records in
    let G = g.K.Keeper in
    let applied = g.S.BlocksMut.applied in
    let endures = g.met.S.Durable.enduring in
    let old = c.args.core.now in
    let mid : CoreOf g = record old { blobs = record { tx = record old.blobs.tx { store = c.load.new.self } } } in
    let new : CoreOf g = record old { blobs = record { tx = record old.blobs.tx { store = c.apply.new.self } }; saver = record old.saver { changed = true } } in
    let id = c.args.id.now.0 in
    let payload = c.in-Ok-Some.payload.items in
    let is : c.put.new.self ≡ one id payload = c.in-Ok.ensures.ok ∙ ap (λ (m : Changes). fin.insert m id (Some payload)) c.new-batch.ensures in
    let o = c.in-Ok-Some.ensures.outcome in
    let stays = c.load.ensures.stays in
    let a = c.apply.ensures in
    let changed = subst (Changed M H c.load.new.self c.apply.new.self) is c.in-Ok-apply.ensures.ok.changed in
    let batch = subst (applied c.load.new.self c.apply.new.self) is c.in-Ok-apply.ensures.ok.makes in
    let holds : M.sound old.blobs.tx.store → M.forgeries c.load.new.self ≤ M.forgeries old.blobs.tx.store → H.content old.blobs.tx.store id ≡ Some payload =
    λ s few. sym (o.value tt s few) ∙ ap bytes_of c.in-Ok-Some.field-0-is in
    let live = stays.ids id ∙ c.requires.live in
    record {
      proceeds = renewed_proceeds ShowsFiles M H D R G files_same g.met.S.Blocks.lawful g.met.S.Blocks.steady applied g.met.S.BlocksMut.settled endures old mid new id payload o.loaded o.sound holds live changed batch o.intact a.intact a.counts.forgeries a.counts.lies
          refl refl refl refl refl refl refl;
      reason = done_reason ShowsFiles M H D R G old new (id ∷ []) (a.counts.faults ∙ o.quiet) refl;
      raises = renewed_raises ShowsFiles M H D R G files_same g.met.S.Blocks.lawful g.met.S.Blocks.steady applied g.met.S.BlocksMut.settled endures old mid new id payload o.loaded o.sound holds live changed batch o.intact a.intact a.counts.forgeries a.counts.lies
          refl refl refl refl refl refl refl;
      unspent = unspent_by ShowsFiles M H D R G files_same g.met.S.Blocks.lawful g.met.S.Blocks.steady applied g.met.S.BlocksMut.settled endures old.blobs.tx.store c.load.new.self id payload stays o.intact
          (λ spent. absurd (cc (c.in-Ok-apply.ensures.spent.1 (subst (IsSpent H c.load.new.self) (sym is) spent))));
      are_new = λ other has. subst (λ x. IsNewFile D c.apply.new.self x) (sym (same_id_is other id (sym (one_has id other) ∙ has))) (new_given M H applied D R endures c.load.new.self c.apply.new.self id payload batch (one_self id payload));
      least = endures.applied_least c.load.new.self c.apply.new.self (one id payload) batch ∙ endures.loaded_least old.blobs.tx.store c.load.new.self o.loaded;
      stays_new = λ other n. new_applied M H applied D R endures c.load.new.self c.apply.new.self id other payload batch (new_loaded M H applied D R endures old.blobs.tx.store c.load.new.self other o.loaded n);
    }

pub returns-clause-ready : goal.returns-clause-ready
returns-clause-ready g c =
    let M = g.S.Blocks.meanings in
    let H = g.S.Blocks.holdings in
    let old = c.args.core.now in
    let store = old.blobs.tx.store in
    let loaded = g.met.S.Blocks.lawful.onward store c.load.new.self c.apply.new.self c.in-Ok-Some.ensures.outcome.loaded c.in-Err-apply.ensures.err.loaded in
    let stays = g.met.S.BlocksMut.settled store c.apply.new.self loaded in
    record {
      intact = c.apply.ensures.intact;
      empty = c.requires.ready.empty;
      few = subst IsFew (sym stays.used) c.requires.ready.few;
      room = c.requires.ready.room;
      can_mark = c.requires.ready.can_mark;
      whole = whole_loaded ShowsFiles M H g.S.Durable.durables g.S.Durable.records g.K.Keeper g.S.BlocksMut.applied g.met.S.Durable.enduring old.saver store c.apply.new.self loaded c.requires.ready.whole;
    }

pub returns-clause-renews : goal.returns-clause-renews
returns-clause-renews g c =
    let M = g.S.Blocks.meanings in
    let H = g.S.Blocks.holdings in
    let D = g.S.Durable.durables in
    let R = g.S.Durable.records in
    let G = g.K.Keeper in
    let applied = g.S.BlocksMut.applied in
    let endures = g.met.S.Durable.enduring in
    let old = c.args.core.now in
    let store = old.blobs.tx.store in
    let new : CoreOf g = record old { blobs = record { tx = record old.blobs.tx { store = c.apply.new.self } } } in
    let id = c.args.id.now.0 in
    let payload = c.in-Ok-Some.payload.items in
    let is : c.put.new.self ≡ one id payload = c.in-Ok.ensures.ok ∙ ap (λ (m : Changes). fin.insert m id (Some payload)) c.new-batch.ensures in
    let o = c.in-Ok-Some.ensures.outcome in
    let a = c.in-Err-apply.ensures in
    let loaded = g.met.S.Blocks.lawful.onward store c.load.new.self c.apply.new.self o.loaded a.err.loaded in
    let stays = g.met.S.BlocksMut.settled store c.apply.new.self loaded in
    subst (λ e. Renews ShowsFiles (world M H D R G) old (id ∷ []) (Err e) new) (sym c.apply_error.ensures) (record {
      proceeds = loaded_proceeds ShowsFiles M H D R G files_same g.met.S.Blocks.lawful g.met.S.Blocks.steady applied g.met.S.BlocksMut.settled endures old new loaded
          (λ sound few. a.err.sound (o.sound sound (subst (λ n. n ≤ M.forgeries store) a.counts.forgeries few))) refl refl refl;
      reason = unapplied_reason ShowsFiles M H D R G files_same g.met.S.Blocks.lawful g.met.S.Blocks.steady applied g.met.S.BlocksMut.settled endures old new (id ∷ []) c.in-Err-apply.error (a.counts.faults ∙ o.quiet) refl
          (λ last. batch_spent ShowsFiles M H D R G files_same g.met.S.Blocks.lawful g.met.S.Blocks.steady applied g.met.S.BlocksMut.settled endures store c.load.new.self id payload c.load.ensures.stays o.intact
          (subst (IsSpent H c.load.new.self) is (a.spent.0 (ap Err last))));
      raises = raises_stays ShowsFiles M H D R G files_same g.met.S.Blocks.lawful g.met.S.Blocks.steady applied g.met.S.BlocksMut.settled endures store c.apply.new.self (id ∷ []) stays;
      least = endures.loaded_least store c.apply.new.self loaded;
      unspent = tt;
      are_new = tt;
      stays_new = tt;
    })

-- ---- no wrong file is passed over

pub returns-in-Err-clause-noticed : goal.returns-in-Err-clause-noticed
returns-in-Err-clause-noticed g c =
    let o = c.in-Err.ensures.outcome in
    let store = c.args.core.now.blobs.tx.store in
    subst (λ e. NoticedAlong g.S.Blocks.meanings g.S.Blocks.holdings g.S.Durable.durables g.S.BlocksMut.applied store (told {T = Unit} (Err e)) c.load.new.self) (sym c.load_error.ensures)
    (along_failed g.S.Blocks.meanings g.S.Blocks.holdings g.S.Durable.durables g.S.BlocksMut.applied store c.load.new.self c.in-Err.fail o.loaded o.noticed)

pub returns-in-Err-put-clause-noticed : goal.returns-in-Err-put-clause-noticed
returns-in-Err-put-clause-noticed g c =
    let o = c.in-Ok-Some.ensures.outcome in
    let store = c.args.core.now.blobs.tx.store in
    along_loaded g.S.Blocks.meanings g.S.Blocks.holdings g.S.Durable.durables g.S.BlocksMut.applied store c.load.new.self Memory o.loaded (none_came Memory (g.S.Blocks.meanings.gave store c.load.new.self) o.noticed)

pub returns-in-Ok-apply-clause-noticed : goal.returns-in-Ok-apply-clause-noticed
returns-in-Ok-apply-clause-noticed g c =
    let id = c.args.id.now.0 in
    let payload = c.in-Ok-Some.payload.items in
    let is : c.put.new.self ≡ one id payload = c.in-Ok.ensures.ok ∙ ap (λ (m : Changes). fin.insert m id (Some payload)) c.new-batch.ensures in
    let o = c.in-Ok-Some.ensures.outcome in
    along_renewed g.S.Blocks.meanings g.S.Blocks.holdings g.S.Durable.durables g.S.BlocksMut.applied c.args.core.now.blobs.tx.store c.load.new.self c.apply.new.self id payload o.loaded o.noticed
    (c.load.ensures.stays.ids id ∙ c.requires.live) (subst (g.S.BlocksMut.applied c.load.new.self c.apply.new.self) is c.in-Ok-apply.ensures.ok.makes)

pub returns-clause-noticed : goal.returns-clause-noticed
returns-clause-noticed g c =
    let M = g.S.Blocks.meanings in
    let endures = g.met.S.Durable.enduring in
    let store = c.args.core.now.blobs.tx.store in
    let last = c.load.new.self in
    let new = c.apply.new.self in
    let o = c.in-Ok-Some.ensures.outcome in
    let a = c.in-Err-apply.ensures in
    let answer = told {T = Unit} (Err c.apply_error.result) in
    along_loaded M g.S.Blocks.holdings g.S.Durable.durables g.S.BlocksMut.applied store new answer (g.met.S.Blocks.lawful.onward store last new o.loaded a.err.loaded)
    (none_came answer (M.gave store new) (λ why gave. o.noticed why (endures.gave_along store last new why (endures.applied_trace last new fin.empty a.err.nothing) gave)))

-- ---- what it draws

pub returns-in-Err-clause-draws : goal.returns-in-Err-clause-draws
returns-in-Err-clause-draws g c = inl (c.in-Err.ensures.outcome.loaded, later_same (g.R.Rng.stream c.args.chance.now))

pub returns-in-Err-put-clause-draws : goal.returns-in-Err-put-clause-draws
returns-in-Err-put-clause-draws g c = inl (c.in-Ok-Some.ensures.outcome.loaded, later_same (g.R.Rng.stream c.args.chance.now))

pub returns-in-Ok-apply-clause-draws : goal.returns-in-Ok-apply-clause-draws
returns-in-Ok-apply-clause-draws g c =
    let H = g.S.Blocks.holdings in
    let id = c.args.id.now.0 in
    let payload = c.in-Ok-Some.payload.items in
    let last = c.load.new.self in
    let is : c.put.new.self ≡ one id payload = c.in-Ok.ensures.ok ∙ ap (λ (m : Changes). fin.insert m id (Some payload)) c.new-batch.ensures in
    let o = c.in-Ok-Some.ensures.outcome in
    inr (record {
      last = last;
      loaded = o.loaded;
      changes = c.put.new.self;
      names = subst (NamesKnown H last) (sym is) (one_known g.S.Blocks.meanings H g.met.S.Blocks.steady last id payload o.intact (c.load.ensures.stays.ids id ∙ c.requires.live));
      makes = c.in-Ok-apply.ensures.ok.makes;
      draws = c.in-Ok-apply.ensures.ok.draws;
    })

pub returns-clause-draws : goal.returns-clause-draws
returns-clause-draws g c =
    let a = c.in-Err-apply.ensures in
    inl (g.met.S.Blocks.lawful.onward c.args.core.now.blobs.tx.store c.load.new.self c.apply.new.self c.in-Ok-Some.ensures.outcome.loaded a.err.loaded, a.err.later)
