-- What opening found, where blocks were only loaded since.
use Rattle.std.proofs.Common.{◌≡◌, ◌≤◌, ◌-◌, ℕ, List, [], ◌∷◌, sym, ap, subst, arith}
use Rattle.std.specs.Prelude.{is_some, true}
use Rattle.std.specs.declared.option.Option.{Option}
use Rattle.setup_runs.specs.config_file.Settings.{Settings, settings_of}
use Rattle.fs_model.specs.Tree.{Tree}
use Rattle.block_versions.specs.Held.{Held}
use Rattle.block_versions.specs.Standing.{records}
use Rattle.setup_runs.proofs.mount_lemmas.Reading.{represents_told}
use Rattle.setup_runs.proofs.mount_lemmas.Standing.{represents}
use Rattle.setup_runs.specs.mount.Answering.{store_of, calls_of, kept_of, lies_of}
use Rattle.setup_runs.specs.mount.declared.mount.Mount.{Mount}
use Rattle.setup_runs.specs.mount.Representing.{Represents}
use Rattle.setup_runs.specs.mount.Tower.{TowerStands, TowerConfigures}
use Rattle.setup_runs.proofs.mount_answering_lemmas.Lines.{configures_loaded}
use Rattle.check_blocks.proofs.Enduring.{tower_applied, tower_enduring}
use Rattle.check_blocks.specs.Examined.{OnlyExamined}
use Rattle.setup_runs.proofs.mount_stores_lemmas.Reading.{same_kept}
use Rattle.setup_runs.specs.mount_stores.Identities.{identity_for, KeepsRecord}
use Rattle.setup_runs.specs.mount_stores.Tower.{held_in, tower_meanings, tower_holdings, tower_durables}
use Rattle.outside.specs.Going.{GoesOn}
use Rattle.outside.specs.Honest.{is_lie, count_told}
use Rattle.outside.specs.Trace.{Call}
use Rattle.outside.specs.declared.keeper.Keeper.{Ghosts as KeeperGhosts}
use Rattle.setup_runs.proofs.session_laws_lemmas.Whole.{each_before}
use Rattle.setup_runs.specs.session_laws.Runs.{Outside, outside_of, OutsideStandsFor, lies, OpensTo}
use Rattle.setup_runs.specs.session_laws.Turns.{Begun}
use Rattle.setup_runs.specs.record_saver.Saving.{KeptConfigures}
use Rattle.setup_runs.specs.record_saver.declared.saver.Saver.{Saver}
use Rattle.block_versions.specs.store_api.Durables.{Identity}
use Rattle.block_versions.specs.store_api.Holdings.{Stays}
use Rattle.setup_runs.specs.mount_core.Showing.{ShowsFiles}
use Rattle.check_runs.specs.Judging.{held_for}

module _ {V : Type 0} {K : Type 0} (trace : V → Option (List Call)) (faults : V → ℕ) (G : KeeperGhosts K) (password : List ℕ) (vault : V) (keeper : K) (first : Mount V K) (b : Begun ShowsFiles trace faults G password vault keeper first) where
  abbrev Before : Outside
  Before = outside_of trace faults G vault keeper

  -- the store holds what the record calls for
  held_is : held_in (store_of first) ≡ held_for (settings_of first.opened.config) b.attached.state
  held_is =
      let h = held_in (store_of first) in
      let whole = b.opened.ready.core.whole in
      let last : KeepsRecord (kept_of G first) h.state [] = record { bytes = first.core.saver.last.items; kept = whole.kept b.opened.unchanged; is_record = whole.last b.opened.unchanged } in
      let state : h.state ≡ b.attached.state = (same_kept (kept_of G first) h.state b.attached.state [] [] last b.attached.kept).0 in
      let size : h.size ≡ first.opened.config.block_size = ap (λ (i : Identity). i.size) b.opened.ready.identity in
      let opens = ap (λ (i : Identity). i.opens) b.opened.ready.identity in
      let none = whole.none b.opened.unchanged in
      λ i. record { size = size i; opens = opens i; state = state i; list = none i }

  -- what was said of that is said of what the record calls for
  pub called_for : (P : Held → List ℕ → Type 0) → P (held_in (store_of first)) first.core.root.0 → P (held_for (settings_of first.opened.config) b.attached.state) (settings_of first.opened.config).root
  called_for P h = subst (λ (r : List ℕ). P (held_for (settings_of first.opened.config) b.attached.state) r) (ap (λ r. r.0) b.opened.ready.root) (subst (λ (k : Held). P k first.core.root.0) held_is h)

  module _ (mid : Mount V K) (after : Outside) (only : OnlyExamined trace faults first mid) (last_calls : after.calls ≡ calls_of trace mid) where
    pub fewer_lies : lies after ≤ lies Before → lies_of trace faults mid ≤ lies_of trace faults first
    fewer_lies honest = let l = ap (count_told is_lie) last_calls in let g = b.calls.lies in omega (arith, l, g, honest)

    -- the configuration's file stays
    pub config_left : Stays (tower_holdings trace) (store_of first) (store_of mid) → (file : List ℕ) → is_some Before.calls ≡ true → KeptConfigures records Before.kept Before.calls file → TowerConfigures trace G mid.core (file ∷ []) file
    config_left stays file told k =
        configures_loaded ShowsFiles (tower_meanings trace faults) (tower_holdings trace) (tower_durables trace) records G (tower_applied trace) (tower_enduring trace faults) first.core mid.core (file ∷ []) file
        (b.stands.file file told k) only.loaded stays (ap (λ (s : Saver K). G.kept s.keeper) only.beside.saver) (ap (λ (s : Saver K). s.last.items) only.beside.saver)

    module _ (c : Settings) (tree : Tree) (f : OpensTo ShowsFiles password c tree Before after) where
      pub is_opened : settings_of first.opened.config ≡ c
      is_opened =
          let on = subst (λ (t : Option (List Call)). GoesOn (calls_of trace first) t) (sym last_calls) ((tower_enduring trace faults).loaded_goes_on (store_of first) (store_of mid) only.loaded) in
          b.stands.config c (represents_told ShowsFiles Before.kept Before.calls c tree f.stands) (each_before password Before.kept Before.calls (calls_of trace first) after.calls on f.unforged_config)

      pub stood : TowerStands ShowsFiles trace faults G first.core tree tree
      stood = b.stands.tree tree (subst (λ (s : Settings). Represents ShowsFiles Before.kept Before.calls s tree) (sym is_opened) f.stands)

      -- loading leaves what is kept
      represents_mid : Represents ShowsFiles (kept_of G first) (calls_of trace mid) c tree
      represents_mid =
          let r = represents ShowsFiles (settings_of first.opened.config) b.opened.ready.holder _ _ _ (kept_of G first) (calls_of trace first) tree (ap (λ (i : Identity). i.size - 78) b.opened.ready.identity) (ap (λ r. r.0) b.opened.ready.root) b.opened.ready.identity stood.keeps in
          let k = r.keeps.represents in
          let on = (tower_enduring trace faults).loaded_stands (store_of first) (store_of mid) (identity_for (settings_of first.opened.config) r.holder) k.0 r.keeps.content only.loaded k.2 in
          subst (λ (s : Settings). Represents ShowsFiles (kept_of G first) (calls_of trace mid) s tree) is_opened
          (record { holder = r.holder; keeps = record { content = r.keeps.content; represents = (k.0, k.1, on); shown = r.keeps.shown } })

      pub represents_last : after.kept ≡ kept_of G first → OutsideStandsFor ShowsFiles c tree after
      represents_last same =
          subst (λ (k : Option (List ℕ)). Represents ShowsFiles k after.calls c tree) (sym same)
          (subst (λ (t : Option (List Call)). Represents ShowsFiles (kept_of G first) t c tree) (sym last_calls) represents_mid)
