-- A mount stays ready while its blocks are only loaded.
use Rattle.std.proofs.Common.{◌≤◌, ℕ, List, false, length, sym, ◌∙◌, ap, subst}
use Rattle.std.specs.Prelude.{Result}
use Rattle.std.specs.declared.option.Option.{Option}
use Rattle.mount.specs.config_file.Settings.{settings_of}
use Rattle.mount.specs.config_file.declared.config.Opened.{Opened}
use Rattle.mount.specs.block_versions.Standing.{records}
use Rattle.mount.specs.Answering.{store_of}
use Rattle.mount.specs.declared.mount.Mount.{Mount}
use Rattle.mount.specs.Mounts.{IsReady}
use Rattle.mount.specs.mount_stores.Identities.{identity_for}
use Rattle.mount.specs.mount_stores.Tower.{tower_meanings, tower_holdings, tower_durables}
use Rattle.block_id.specs.declared.fail.Fail.{Fail}
use Rattle.mount.specs.store_outcome.Outcome.{Outcome}
use Rattle.outside.specs.Trace.{Call}
use Rattle.outside.specs.declared.keeper.Keeper.{Ghosts as KeeperGhosts}
use Rattle.mount.specs.record_saver.Saving.{CanMark, Whole}
use Rattle.mount.specs.record_saver.declared.saver.Saver.{Saver}
use Rattle.mount.specs.store_api.Holdings.{IsFew, Stays}
use Rattle.check_blocks.specs.declared.examined.Examined.{Examined}
use Rattle.check_blocks.specs.Examined.{OnlyExamined, SameBeside, examined_meanings}
use Rattle.check_blocks.proofs.Enduring.{tower_enduring}

module _ {V : Type 0} {K : Type 0} (trace : V → Option (List Call)) (faults : V → ℕ) (G : KeeperGhosts K) (old new : Mount V K) (only : OnlyExamined trace faults old new) where
  whole_on : Whole (tower_durables trace) G old.core.saver (store_of old) → Whole (tower_durables trace) G old.core.saver (store_of new)
  whole_on w =
      let laws = tower_enduring trace faults in
      record {
        kept = w.kept;
        last = λ u. laws.loaded_record (store_of old) (store_of new) false old.core.saver.last.items only.loaded (w.last u);
        none = λ u. laws.loaded_list (store_of old) (store_of new) only.loaded ∙ w.none u;
      }

  pub ready_on : IsReady trace faults G old → (tower_meanings trace faults).intact (store_of new) → Stays (tower_holdings trace) (store_of old) (store_of new) → IsReady trace faults G new
  ready_on r intact stays =
      let laws = tower_enduring trace faults in
      let saver = sym only.beside.saver in
      record {
        core = record {
          intact = intact;
          empty = only.beside.overlay ∙ r.core.empty;
          few = subst IsFew (sym stays.used) r.core.few;
          room = subst (λ (s : Saver K). length s.last.items ≤ G.room s.keeper) saver r.core.room;
          can_mark = subst (λ (s : Saver K). CanMark records s) saver r.core.can_mark;
          whole = subst (λ (s : Saver K). Whole (tower_durables trace) G s (store_of new)) saver (whole_on r.core.whole);
        };
        holder = r.holder;
        identity = laws.loaded_identity (store_of old) (store_of new) only.loaded ∙ (r.identity ∙ ap (λ (o : Opened). identity_for (settings_of o.config) r.holder) (sym only.beside.opened));
        root = only.beside.root ∙ (r.root ∙ ap (λ (o : Opened). o.config.root) (sym only.beside.opened));
      }

-- a call of the store past the cache is one of the examined mount, where all beside the store is the same
pub examined_call : {V : Type 0} {K : Type 0} (trace : V → Option (List Call)) (faults : V → ℕ) (G : KeeperGhosts K) (a b : Examined V K) {T : Type 0} {N : Type 0} {P : N → T → Type 0} {r : Result T Fail} → SameBeside a.mount b.mount → IsReady trace faults G a.mount
    → Outcome (tower_meanings trace faults) N (store_of a.mount) (store_of b.mount) r P → Stays (tower_holdings trace) (store_of a.mount) (store_of b.mount) → Outcome (examined_meanings trace faults G) N a b r P
examined_call trace faults G a b beside ready o stays =
    let only : OnlyExamined trace faults a.mount b.mount = record { loaded = o.loaded; beside = beside } in
    record {
      intact = ready_on trace faults G a.mount b.mount only ready o.intact stays;
      loaded = only;
      sound = o.sound;
      met = o.met;
      fault = o.fault;
      quiet = o.quiet;
      noticed = o.noticed;
      value = o.value;
      structure = o.structure;
    }
