use Rattle.std.proofs.Common.{◌≡◌, ℕ, true, false, refl, sym, ◌∙◌, subst}
use Rattle.std.specs.declared.result.Result.TheVariants.{Ok, Err}
use Rattle.mount_answering.specs.store_api.Holdings.{Stays}
use Rattle.mount_answering.specs.store_api.Leaving.{StaysMeant, SetsLeast}
use Rattle.mount_answering.specs.record_saver.Saving.{world}
use Rattle.mount_answering.specs.record_saver.declared.saver.Saver.{Saver}
use Rattle.mount_answering.specs.mount_core.Showing.{ShowsFiles}
use Rattle.mount_answering.proofs.path_layer_lemmas.Shows.{files_same}
use Rattle.mount_answering.specs.mount_core.declared.body.Core.{Core}
use Rattle.mount_migrating.specs.Migrating.{IsMigratedRecord, Rests}
use Rattle.mount_migrating.specs.Noticing.{OnlySet}
use Rattle.mount_migrating.proofs.Drawing.{keeps_on, short_keeps}
use Rattle.mount_migrating.proofs.Least.{Sets, kept_record, kept_rests, unsaved_rests}
use Rattle.mount_migrating.proofs.Noticing.{set_then}
use Rattle.mount_migrating.proofs.raising.raise_least.Given.{Over}
use Rattle.mount_migrating.proofs.raising.raise_least.Goals as goal

abbrev CoreOf : Over → Type 0
CoreOf g = Core g.row.S.Denot g.row.K.Denot

abbrev SetsBy : (g : Over) → g.row.S.Denot → g.row.S.Denot → Type 0
SetsBy g a b = Sets ShowsFiles g.S.Blocks.meanings g.S.Blocks.holdings g.S.Durable.durables g.S.Durable.records g.K.Keeper files_same g.met.S.Blocks.steady g.S.BlocksMut.applied g.met.S.Durable.enduring a b

-- what set_least says of a store
sets_by : (g : Over) (a b : g.row.S.Denot) (to : ℕ) → SetsLeast g.S.Durable.durables g.S.Durable.records to a b → Stays g.S.Blocks.holdings a b → StaysMeant g.S.Blocks.meanings a b
    → g.S.Blocks.meanings.faults b ≡ g.S.Blocks.meanings.faults a → SetsBy g a b
sets_by g a b to sets stays meant faults = record { to = to; sets = sets; stays = stays; meant = meant; faults = faults }

-- the body with this store and this saver
abbrev with_store : (g : Over) → CoreOf g → g.row.S.Denot → Saver g.row.K.Denot → CoreOf g
with_store g old store saver = record old { blobs = record { tx = record old.blobs.tx { store = store } }; saver = saver }

-- the list is the one from before, where nothing changed
pub keep_short-requires : goal.keep_short-requires
keep_short-requires g c =
    let u = c.set_least.ensures in
    record {
      intact = u.meant.intact;
      room = c.requires.ready.room;
      none = u.sets.list ∙ c.requires.ready.whole.none c.requires.whole;
      unchanged = c.requires.whole;
    }

pub returns-in-Ok-clause-rests : goal.returns-in-Ok-clause-rests
returns-in-Ok-clause-rests g c =
    let old = c.args.core.now in
    let up = c.set_least.new.self in
    let saver = c.keep_short.new.self in
    let u = c.set_least.ensures in
    let s : SetsBy g old.blobs.tx.store up = sets_by g _ _ _ u.sets u.stays u.meant u.faults in
    let saved = c.in-Ok.ensures.saves in
    subst (λ store. Rests ShowsFiles (world g.S.Blocks.meanings g.S.Blocks.holdings g.S.Durable.durables g.S.Durable.records g.K.Keeper) old (Ok tt) (with_store g old store saver)) (sym c.keep_short.ensures.same)
    (kept_rests ShowsFiles g.S.Blocks.meanings g.S.Blocks.holdings g.S.Durable.durables g.S.Durable.records g.K.Keeper files_same g.met.S.Blocks.steady g.S.BlocksMut.applied g.met.S.Durable.enduring
    old (with_store g old up saver) c.requires.ready.intact (c.requires.ready.whole.none c.requires.whole) s refl refl saved.0 saved.1 c.in-Ok.ensures.leaves.keeper_quiet)

pub returns-in-Ok-clause-done : goal.returns-in-Ok-clause-done
returns-in-Ok-clause-done g c =
    let old = c.args.core.now in
    let up = c.set_least.new.self in
    let saver = c.keep_short.new.self in
    let u = c.set_least.ensures in
    let s : SetsBy g old.blobs.tx.store up = sets_by g _ _ _ u.sets u.stays u.meant u.faults in
    let saved = c.in-Ok.ensures.saves in
    subst (λ store. IsMigratedRecord (world g.S.Blocks.meanings g.S.Blocks.holdings g.S.Durable.durables g.S.Durable.records g.K.Keeper) (with_store g old store saver)) (sym c.keep_short.ensures.same)
    (kept_record ShowsFiles g.S.Blocks.meanings g.S.Blocks.holdings g.S.Durable.durables g.S.Durable.records g.K.Keeper files_same g.met.S.Blocks.steady g.S.BlocksMut.applied g.met.S.Durable.enduring
    old (with_store g old up saver) c.requires.ready.intact (c.requires.ready.whole.none c.requires.whole) s refl refl saved.0 saved.1 c.in-Ok.ensures.leaves.keeper_quiet u.sets.least saved.2)

pub returns-in-Err-clause-rests : goal.returns-in-Err-clause-rests
returns-in-Err-clause-rests g c =
    let old = c.args.core.now in
    let up = c.set_least.new.self in
    let down = c.set_least-in-Err.new.self in
    let new = with_store g old down (record c.keep_short.new.self { changed = true }) in
    let u = c.set_least.ensures in
    let d = c.set_least-in-Err.ensures in
    let first : SetsBy g old.blobs.tx.store up = sets_by g _ _ _ u.sets u.stays u.meant u.faults in
    let after : SetsBy g c.keep_short.new.store down = sets_by g _ _ _ d.sets d.stays d.meant d.faults in
    let second = subst (λ store. SetsBy g store down) c.keep_short.ensures.same after in
    let k = c.in-Err.ensures in
    subst (λ e. Rests ShowsFiles (world g.S.Blocks.meanings g.S.Blocks.holdings g.S.Durable.durables g.S.Durable.records g.K.Keeper) old (Err e) new) (sym c.sync_error.ensures)
    (unsaved_rests ShowsFiles g.S.Blocks.meanings g.S.Blocks.holdings g.S.Durable.durables g.S.Durable.records g.K.Keeper files_same g.met.S.Blocks.steady g.S.BlocksMut.applied g.met.S.Durable.enduring
    old new up c.keep_short.new.self c.in-Err.error c.requires.ready.intact (c.requires.ready.whole.none c.requires.whole) first second refl refl refl refl k.saves k.leaves.keeper_grows k.leaves.keeper_cause k.leaves.keeper_quiet)

-- ---- only the least format is set, and what is kept

pub returns-in-Ok-clause-sets : goal.returns-in-Ok-clause-sets
returns-in-Ok-clause-sets g c =
    let D = g.S.Durable.durables in
    let old = c.args.core.now in
    let up = c.set_least.new.self in
    let u = c.set_least.ensures in
    let only : OnlySet g.S.Blocks.holdings D old.blobs.tx.store up = record { stays = u.stays; identity = u.sets.identity; list = u.sets.list; trace = u.sets.trace } in
    record {
      set = subst (λ store. OnlySet g.S.Blocks.holdings D old.blobs.tx.store store) (sym c.keep_short.ensures.same) only;
      short = up;
      set_short = only;
      keeps = short_keeps D g.K.Keeper up old.saver c.keep_short.new.self (Ok tt) (g.met.S.Durable.enduring.written up false u.meant.intact) c.in-Ok.ensures.saves;
    }

pub returns-in-Err-clause-sets : goal.returns-in-Err-clause-sets
returns-in-Err-clause-sets g c =
    let H = g.S.Blocks.holdings in
    let D = g.S.Durable.durables in
    let G = g.K.Keeper in
    let old = c.args.core.now in
    let up = c.set_least.new.self in
    let u = c.set_least.ensures in
    let d = c.set_least-in-Err.ensures in
    let down = c.set_least-in-Err.new.self in
    let saver = c.keep_short.new.self in
    let only : OnlySet H D old.blobs.tx.store up = record { stays = u.stays; identity = u.sets.identity; list = u.sets.list; trace = u.sets.trace } in
    let back : OnlySet H D c.keep_short.new.store down = record { stays = d.stays; identity = d.sets.identity; list = d.sets.list; trace = d.sets.trace } in
    record {
      set = set_then g.S.Blocks.meanings H D g.S.BlocksMut.applied old.blobs.tx.store up down only (subst (λ store. OnlySet H D store down) c.keep_short.ensures.same back);
      short = up;
      set_short = only;
      keeps = keeps_on D G up old.saver saver (record saver { changed = true })
          (short_keeps D G up old.saver saver (Err c.in-Err.error) (g.met.S.Durable.enduring.written up false u.meant.intact) c.in-Err.ensures.saves) refl refl;
    }
