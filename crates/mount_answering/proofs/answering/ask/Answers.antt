use Rattle.std.specs.FinMap as fin
use Rattle.std.proofs.Common.{List, ℕ, refl, sym, subst}
use Rattle.fs_model.specs.Tree.{Tree}
use Rattle.rand_chacha.specs.ChaCha.{of_seed}
use Rattle.mount_core.specs.record_saver.Saving.{world}
use Rattle.mount_core.specs.store_api.declared.tx.Tx.{Tx}
use Rattle.mount_core.specs.path_layer.Showing.{ShowsFiles}
use Rattle.mount_core.specs.Drawing.{DrawsOnce, NamesOfSeed}
use Rattle.mount_core.specs.Standing.{CoreStands, Ready}
use Rattle.mount_core.specs.declared.body.Core.{Core}
use Rattle.mount_answering.specs.Asking.{StoreAsked, TreesAsked}
use Rattle.mount_answering.proofs.Draws.{draws_seeded}
use Rattle.mount_answering.proofs.answering.ask.Given.{Over}
use Rattle.mount_answering.proofs.answering.ask.Goals as goal

abbrev CoreOf : Over → Type 0
CoreOf g = Core g.row.S.Denot g.row.K.Denot

-- with these changes
abbrev with : (g : Over) → CoreOf g → Tx g.row.S.Denot → CoreOf g
with g core tx = record core { blobs = record { tx = tx } }

-- the changes as they begin
abbrev begun : (g : Over) → CoreOf g → List ℕ → Tx g.row.S.Denot
begun g core seed = record core.blobs.tx { overlay = fin.empty; seed = seed; ids = of_seed seed }

pub ask_begun-requires-clause-can : goal.ask_begun-requires-clause-can
ask_begun-requires-clause-can g c =
    let W = world g.S.Blocks.meanings g.S.Blocks.holdings g.S.Durable.durables g.S.Durable.records g.K.Keeper in
    let old = c.args.core.now in
    let ready = c.requires.can.ready in
    let now : Ready W (with g old (begun g old c.fill_bytes.new.dst)) =
    record { intact = ready.intact; empty = refl; few = ready.few; room = ready.room; can_mark = ready.can_mark; whole = ready.whole } in
    record { ready = subst (λ t. Ready W (with g old t)) (sym c.begin.ensures.begun) now; fits = c.requires.can.fits }

pub returns-clause-trees : goal.returns-clause-trees
returns-clause-trees g c =
    let W = world g.S.Blocks.meanings g.S.Blocks.holdings g.S.Durable.durables g.S.Durable.records g.K.Keeper in
    let old = c.args.core.now in
    let first = with g old (begun g old c.fill_bytes.new.dst) in
    let w = subst (λ t. TreesAsked ShowsFiles W c.args.now (with g old t) c.args.command.now c.ask_begun.result c.ask_begun.new.core) c.begin.ensures.begun c.ask_begun.ensures.trees in
    let stands : (kept present : Tree) → CoreStands ShowsFiles W old kept present → CoreStands ShowsFiles W first kept present =
    λ kept present s. record { keeps = s.keeps; sound = s.sound; unmarked = s.unmarked; shown = s.shown } in
    record {
      stands = λ kept present s. w.stands kept present (stands kept present s);
      configures = λ may present s. w.configures may present (record { told = s.told; among = s.among; kept = s.kept; last = s.last; present = s.present });
      alarm = λ kept present s. w.alarm kept present (stands kept present s);
      built = λ kept present s. w.built kept present (stands kept present s);
      sparing = λ kept present s. w.sparing kept present (stands kept present s);
    }

pub returns-clause-store : goal.returns-clause-store
returns-clause-store g c =
    subst (λ (t : Tx g.row.S.Denot). StoreAsked g.S.Blocks.meanings g.S.Blocks.holdings g.S.Durable.durables t.store c.args.command.now c.ask_begun.result c.ask_begun.new.core.blobs.tx.store) c.begin.ensures.begun c.ask_begun.ensures.store

pub returns-clause-saver : goal.returns-clause-saver
returns-clause-saver g c =
    let k = c.ask_begun.ensures.saver in
    record { keeper = k.keeper; last = k.last; saver = k.saver; violated = k.violated; root = k.root }

pub returns-clause-draws : goal.returns-clause-draws
returns-clause-draws g c =
    let M = g.S.Blocks.meanings in
    let H = g.S.Blocks.holdings in
    let store = c.args.core.now.blobs.tx.store in
    let new = c.ask_begun.new.core.blobs.tx.store in
    let between = g.R.Rng.stream c.fill_bytes.new.self in
    let left = g.R.Rng.stream c.ask_begun.new.chance in
    let once = subst (λ (t : Tx g.row.S.Denot). DrawsOnce M (NamesOfSeed H t.seed) g.S.BlocksMut.applied g.S.BlocksMut.drawn t.store new between left) c.begin.ensures.begun c.ask_begun.ensures.draws in
    draws_seeded M H g.S.Durable.durables g.met.S.Blocks.lawful g.S.BlocksMut.applied g.S.BlocksMut.drawn store new c.fill_bytes.new.dst (g.R.Rng.stream c.args.chance.now) between left c.fill_bytes.ensures once
