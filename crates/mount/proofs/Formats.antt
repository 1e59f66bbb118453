-- The least format from one record that is kept to another.
use Rattle.std.proofs.Common.{◌≡◌, ◌∙◌, ℕ, List, [], false, sym, ap, subst, inl, inr}
use Rattle.std.specs.declared.option.Option.{Option}
use Rattle.mount_stores.specs.config_file.declared.config.Opened.{Opened}
use Rattle.outside.specs.Changes.{FileChanges}
use Rattle.outside.specs.Trace.{Call}
use Rattle.outside.specs.declared.keeper.Keeper.{Ghosts as KeeperGhosts}
use Rattle.local_state.specs.Record.{PlainState}
use Rattle.mount_stores.specs.block_versions.Standing.{listed, records}
use Rattle.mount_core.specs.Formats.{KeepsLeast, StaysLeast}
use Rattle.mount_stores.proofs.Reading.{same_kept}
use Rattle.mount_stores.specs.Identities.{KeepsRecord}
use Rattle.mount_stores.specs.Opening.{IsLoaded}
use Rattle.mount_stores.specs.Tower.{Cached, held_in, tower_durables}
use Rattle.mount.specs.declared.mount.Mount.{Mount}
use Rattle.mount.specs.Answering.{store_of, kept_of}
use Rattle.mount.specs.Formats.{TakesFrom, TakesSame}
use Rattle.mount.specs.Mounts.{IsReady, Attached}
use Rattle.mount.specs.Tower.{tower}
use Rattle.mount.proofs.Reading.{loaded_unmarked}

-- a record that was taken is not marked, so that it says the format itself
pub loaded_takes : (least : ℕ) (kept : Option (List ℕ)) (state : PlainState) (list : FileChanges) → IsLoaded kept state list → TakesFrom least kept → state.least ≡ least
loaded_takes least kept state list l (inl marked) = absurd (loaded_unmarked kept state list l marked)
loaded_takes least kept state list l (inr (other, k, is)) = ap (λ (s : PlainState). s.least) (same_kept kept state other list k.list l.keeps k.keeps).0 ∙ is

-- it takes the same where a record of its state is kept
pub loaded_same : (before after : Option (List ℕ)) (state : PlainState) (list more : FileChanges) → IsLoaded before state list → KeepsRecord after state more → TakesSame before after
loaded_same before after state list more l k = λ least takes. inr (state, record { list = more; keeps = k }, loaded_takes least before state list l takes)

pub equal_same : (before after : Option (List ℕ)) → after ≡ before → TakesSame before after
equal_same before after e = λ least takes. subst (TakesFrom least) (sym e) takes

module _ {V : Type 0} (trace : V → Option (List Call)) where
  -- what is kept of a store takes what the store does
  pub takes_of : (least : ℕ) (kept : Option (List ℕ)) → KeepsLeast (tower_durables trace) records least kept → TakesFrom least kept
  takes_of least kept (inl marked) = inl marked
  takes_of least kept (inr (store, is, (bytes, with_list, keeps, of))) =
      let h = held_in store in
      inr (h.state, record { list = listed with_list h.list; keeps = record { bytes = bytes; kept = keeps; is_record = of } }, is)

module _ {V : Type 0} {K : Type 0} (trace : V → Option (List Call)) (faults : V → ℕ) (G : KeeperGhosts K) where
  -- by the store's own format
  pub stays_at : (least : ℕ) (store : Cached V) (first last : Option (List ℕ)) → (tower_durables trace).least store ≡ least → StaysLeast (tower trace faults G) store first last
      → KeepsLeast (tower_durables trace) records least first → KeepsLeast (tower_durables trace) records least last
  stays_at least store first last is stays = subst (λ n. KeepsLeast (tower_durables trace) records n first → KeepsLeast (tower_durables trace) records n last) is stays

  module _ (mount : Mount V K) (ready : IsReady trace faults G mount) (unchanged : mount.core.saver.changed ≡ false)
      (password : List ℕ) (before : Option (List ℕ)) (t0 t1 : Option (List Call)) (o : Opened) (a : Attached password before (kept_of G mount) t0 t1 o) where
    -- a file system that was opened takes what the record did
    pub opened_level : (least : ℕ) → TakesFrom least before → (tower_durables trace).least (store_of mount) ≡ least
    opened_level least takes =
        let state = (held_in (store_of mount)).state in
        let last : KeepsRecord (kept_of G mount) state [] = record { bytes = mount.core.saver.last.items; kept = ready.core.whole.kept unchanged; is_record = ready.core.whole.last unchanged } in
        ap (λ (s : PlainState). s.least) (same_kept (kept_of G mount) state a.state [] [] last a.kept).0 ∙ loaded_takes least before a.state a.list a.loaded takes

    pub opened_keeps : (least : ℕ) → TakesFrom least before → KeepsLeast (tower_durables trace) records least (kept_of G mount)
    opened_keeps least takes =
        inr (store_of mount, opened_level least takes, (mount.core.saver.last.items, false, ready.core.whole.kept unchanged, ready.core.whole.last unchanged))
