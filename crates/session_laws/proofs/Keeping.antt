-- What lines and a closing leave as kept.
use Rattle.std.proofs.Common.{◌≡◌, ◌⊎◌, ◌≤◌, ◌+◌, ◌∙◌, ℕ, Bool, true, false, List, [], length, refl, sym, subst, inl, inr, arith}
use Rattle.std.specs.declared.option.Option.{Option}
use Rattle.run_frame.specs.answers.Sessions.{Exchange, is_violation}
use Rattle.run_frame.specs.answers.declared.answer.Answer.{Answer}
use Rattle.mount.specs.block_versions.Standing.{listed, records}
use Rattle.mount.specs.local_state.Record.{PlainState}
use Rattle.mount.specs.mount_core.Keeping.{IsSameOrRecord, LineKeeps}
use Rattle.mount.specs.mount_core.Standing.{IsKeptMarked}
use Rattle.run_frame.specs.mount_stores.Identities.{KeepsRecord}
use Rattle.run_frame.specs.mount_stores.Opening.{IsLoaded, AreKnown, KeepsVersions}
use Rattle.run_frame.specs.mount_stores.Tower.{Cached, held_in, tower_durables, tower_holdings}
use Rattle.outside.specs.Changes.{FileChanges}
use Rattle.outside.specs.Trace.{Call}
use Rattle.outside.specs.declared.keeper.Keeper.{Ghosts as KeeperGhosts}
use Rattle.mount.specs.record_saver.Saving.{IsRecordOf}
use Rattle.mount.specs.record_saver.declared.saver.Saver.{Saver}
use Rattle.mount.specs.store_api.Durables.{with_mark}
use Rattle.session_laws.specs.Causes.{VersionsSince}
use Rattle.session_laws.specs.Passing.{KeptAfter}

-- what is kept stays so where more versions are allowed
pub kept_on : (first mid new : Option (List ℕ)) (before bad : Bool) (most more : List ℕ → ℕ) → (before ≡ true → bad ≡ true) → ((id : List ℕ) → most id ≤ more id) → new ≡ mid → KeptAfter before most first mid → KeptAfter bad more first new
kept_on first mid new before bad most more worse rises e (inl (b, marked)) = inl (worse b, subst (λ x. IsKeptMarked records x) (sym e) marked)
kept_on first mid new before bad most more worse rises e (inr (inl same)) = inr (inl (e ∙ same))
kept_on first mid new before bad most more worse rises e (inr (inr (version, keeps, low))) =
    inr (inr (version, subst (λ x. KeepsVersions x version) (sym e) keeps, λ id. let l = low id in let r = rises id in omega (arith, l, r)))

module _ {V : Type 0} (trace : V → Option (List Call)) (store : Cached V) (unmarked : ((tower_durables trace).identity store).marked ≡ false) where
  -- a record of the store is without a mark, and has its versions
  record_versions : (kept : Option (List ℕ)) → IsRecordOf (tower_durables trace) store kept → KeepsVersions kept ((tower_holdings trace).version store)
  record_versions kept (bytes, with_list, is, is_record) = record {
    state = (held_in store).state;
    list = listed with_list (held_in store).list;
    loaded = record { keeps = record { bytes = bytes; kept = is; is_record = is_record }; unmarked = unmarked };
    versions = λ id. refl;
  }

  module _ (first mid new : Option (List ℕ)) (before bad : Bool) (most more : List ℕ → ℕ) (worse : before ≡ true → bad ≡ true) (rises : (id : List ℕ) → most id ≤ more id) (low : (id : List ℕ) → (tower_holdings trace).version store id ≤ more id)
      (kept : KeptAfter before most first mid) where
    -- so is what a call kept that may sync
    pub kept_by : IsSameOrRecord (tower_durables trace) store mid new → KeptAfter bad more first new
    kept_by (inl same) = kept_on first mid new before bad most more worse rises same kept
    kept_by (inr is) = inr (inr ((tower_holdings trace).version store, record_versions new is, low))

-- and what a line kept
pub kept_line : {V : Type 0} {K : Type 0} (trace : V → Option (List Call)) (G : KeeperGhosts K) (store : Cached V) → ((tower_durables trace).identity store).marked ≡ false → (first : Option (List ℕ)) (old new : Saver K) (before : Bool) (answer : Answer) (bad : Bool)
    → is_violation answer ≡ bad → (after : Bool) → (bad ≡ true → after ≡ true) → (before ≡ true → after ≡ true) → (most more : List ℕ → ℕ) → ((id : List ℕ) → most id ≤ more id) → ((id : List ℕ) → (tower_holdings trace).version store id ≤ more id)
    → KeptAfter before most first (G.kept old.keeper) → LineKeeps (tower_durables trace) records G store old answer new → KeptAfter after more first (G.kept new.keeper)
kept_line trace G store unmarked first old new before answer false e after marks worse most more rises low kept line =
    kept_by trace store unmarked first (G.kept old.keeper) (G.kept new.keeper) before after most more worse rises low kept (line.calm e).kept
kept_line trace G store unmarked first old new before answer true e after marks worse most more rises low kept line =
    let m = line.marks e in
    elim m.2 as (λ _. KeptAfter after more first (G.kept new.keeper)) [
      | inl marked ↦ inl (marks refl, (with_mark m.0, marked.0, marked.1))
      | inr k ↦ kept_by trace store unmarked first (G.kept old.keeper) (G.kept new.keeper) before after most more worse rises low kept k
    ]

-- ---- from the record at the beginning on

module _ (before mid : Option (List ℕ)) (state : PlainState) (list : FileChanges) (loaded : IsLoaded before state list) (keeps : KeepsRecord mid state []) (first : List ℕ → ℕ) (begins : AreKnown before first) (es : List Exchange) where
  since : (after : Option (List ℕ)) (last : List ℕ → ℕ) → KeepsVersions after last → ((id : List ℕ) → last id ≤ first id + length es) → VersionsSince before after es
  since after last k low = (
    last,
    k,
    λ old known id.
        let same = begins state list loaded id ∙ sym (known state list loaded id) in
        let l = low id in
        omega (arith, same, l),
  )

  pub kept_since : (after : Option (List ℕ)) (bad : Bool) → KeptAfter bad (λ id. first id + length es) mid after → ((bad ≡ true) × IsKeptMarked records after) ⊎ VersionsSince before after es
  kept_since after bad (inl marked) = inl marked
  kept_since after bad (inr (inl same)) = inr (since after first
      (record { state = state; list = []; loaded = record { keeps = record { bytes = keeps.bytes; kept = same ∙ keeps.kept; is_record = keeps.is_record }; unmarked = loaded.unmarked }; versions = begins state list loaded })
      (λ id. omega arith))
  kept_since after bad (inr (inr (version, k, low))) = inr (since after version k low)
