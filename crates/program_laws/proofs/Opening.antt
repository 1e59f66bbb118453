-- Where nothing lies and nothing fails, only want of memory keeps a file system from being opened.
use Rattle.std.proofs.Common.{◌≡◌, ◌≤◌, ◌∙◌, ℕ, Bool, true, false, List, refl, sym, ap, subst}
use Rattle.std.specs.declared.option.Option.{Option}
use Rattle.std.specs.declared.option.Option.TheVariants.{None}
use Rattle.std.proofs.lemmas.Option.{none-some}
use Rattle.session_laws.specs.config_file.ConfigOf.{ConfigOf, ConfigFound, opened, form, locked, inner}
use Rattle.session_laws.specs.config_file.Settings.{Settings}
use Rattle.session_laws.specs.config_file.declared.error.ConfigError.TheVariants as config_error
use Rattle.fs_model.specs.Tree.{Tree}
use Rattle.session_laws.specs.block_versions.Standing.{records}
use Rattle.copy_file.specs.line_io.Lines.{first_line}
use Rattle.copy_file.specs.line_io.Streams.{Stream, Untouched}
use Rattle.check_runs.specs.mount.Mounts.{IsCalmOpening}
use Rattle.check_runs.specs.mount.Opening.{AttachCause}
use Rattle.check_runs.specs.mount_stores.declared.error.OpenError.{OpenError}
use Rattle.check_runs.specs.mount_stores.declared.error.OpenError.TheVariants as open_error
use Rattle.check_runs.proofs.mount_lemmas.Reading.{represents_told}
use Rattle.check_runs.proofs.mount_stores_lemmas.Reading.{only_unforged}
use Rattle.outside.specs.Causes.{RoseBy}
use Rattle.outside.specs.Honest.{is_lie, count_told}
use Rattle.outside.specs.Trace.{Call}
use Rattle.outside.specs.declared.keeper.Keeper.{Ghosts as KeeperGhosts}
use Rattle.shell_runs.specs.run_frame.Passwords.{PasswordUnread}
use Rattle.session_laws.specs.Openings.{AreUncalled, IsUnread, IsUnopened}
use Rattle.shell_runs.specs.run_frame.Statuses.{opening_status}
use Rattle.run_status.specs.declared.ended.Ended.{Ended}
use Rattle.run_status.specs.declared.status.Status.TheVariants.{Memory}
use Rattle.scrypt_kdf.specs.Cost.{Cost}
use Rattle.session_laws.specs.Runs.{Outside, outside_of}
use Rattle.shell_runs.specs.record_saver.Saving.{KeptConfigures}
use Rattle.check_runs.specs.mount_core.Showing.{ShowsFiles}
use Rattle.program_laws.specs.Premises.{OfRun, IsUntroubled, Finds, Leaves}
use Rattle.program_laws.specs.Sessions.{FindsNoMemory}
use Rattle.program_laws.proofs.Configuration.{given, given_is, opens_only_to}
use Rattle.program_laws.proofs.Passwords.{one_unread}

-- ---- why a file system isn't opened

abbrev is_opened : ConfigFound → Bool
is_opened (opened c cost) = true
is_opened form = false
is_opened locked = false
is_opened inner = false

not_opened : (found : ConfigFound) (c : Settings) (cost : Cost) → is_opened found ≡ false → found ≡ opened c cost → ⊥
not_opened found c cost unopened e = absurd (cc (sym unopened ∙ ap is_opened e))

module _ (password : List ℕ) (kept : Option (List ℕ)) (t0 t1 : Option (List Call)) (v0 v1 k0 k1 : ℕ) (c : Settings) (cost : Cost) (file : List ℕ)
    (holds : KeptConfigures records kept t0 file) (opens : ConfigOf password file (opened c cost)) (honest : count_told is_lie t1 ≤ count_told is_lie t0)
    (directory : ¬ RoseBy 1 v0 v1) (state : ¬ RoseBy 1 k0 k1) where
  pub wants : (error : OpenError) → AttachCause password kept t0 t1 v0 v1 k0 k1 error → IsCalmOpening error → opening_status error ≡ Memory
  wants open_error.Memory cause calm = refl
  wants open_error.NoState cause calm = absurd calm
  wants open_error.BadState cause calm = absurd calm
  wants open_error.Exists cause calm = absurd calm
  wants open_error.Marked cause calm = absurd calm
  wants (open_error.Mismatch kept_id found_id) cause calm = absurd calm
  wants open_error.NoConfig (s, list, l, gave) calm = absurd (none-some file (given password kept t0 t1 s list l c cost file holds opens honest None gave))
  wants (open_error.Config config_error.Memory) cause calm = refl
  wants (open_error.Config config_error.Form) (s, list, l, (answer, gave, is)) calm =
      absurd (not_opened form c cost refl (given_is password kept t0 t1 s list l c cost file holds opens honest answer form gave is))
  wants (open_error.Config config_error.Locked) (s, list, l, (answer, gave, is)) calm =
      absurd (not_opened locked c cost refl (given_is password kept t0 t1 s list l c cost file holds opens honest answer locked gave is))
  wants (open_error.Config config_error.Inner) (s, list, l, (answer, gave, is)) calm =
      absurd (not_opened inner c cost refl (given_is password kept t0 t1 s list l c cost file holds opens honest answer inner gave is))
  wants open_error.FaultDirectory (s, list, l, rose) calm = absurd (directory rose)
  wants open_error.FaultState cause calm = absurd (state cause)

-- ---- what is left then

module _ {V : Type 0} {K : Type 0} (trace : V → Option (List Call)) (faults : V → ℕ) (G : KeeperGhosts K) (input output : Stream) (vault : V) (keeper : K) (ended : Ended V K)
    (bytes : List ℕ) (c : Settings) (first : Tree) (finds : Finds input bytes c first (outside_of trace faults G vault keeper))
    (quiet : OfRun trace faults G vault keeper ended (IsUntroubled input output)) where
  abbrev Before : Outside
  Before = outside_of trace faults G vault keeper

  abbrev After : Outside
  After = outside_of trace faults G ended.vault ended.keeper

  abbrev Left : V → K → Type 0
  Left v k = Leaves (first_line bytes) c first (outside_of trace faults G v k)

  pub uncalled : AreUncalled vault keeper ended → Leaves (first_line bytes) c first After
  uncalled u = subst (λ (v : V). Left v ended.keeper) (sym u.same_vault) (subst (λ (k : K). Left vault k) (sym u.same_keeper) (record { stands = finds.stands; opens = finds.opens }))

  pub unread : IsUnread (PasswordUnread input) output vault keeper ended → FindsNoMemory output (first_line bytes) c first After ended.status
  unread u = record {
    ends = one_unread input bytes finds.told finds.short quiet.input_unfailed quiet.few ended.status u.cause;
    unwritten = u.unwritten;
    leaves = uncalled u.uncalled;
  }

  pub unopened : (error : OpenError) → IsUnopened trace faults G (first_line bytes) vault keeper ended error → Untouched output
      → FindsNoMemory output (first_line bytes) c first After ended.status
  unopened error u unwritten =
      let f = opens_only_to input output bytes c first Before After finds quiet in
      let only = only_unforged (first_line bytes) (G.kept keeper) (trace vault) (trace ended.vault) c f.only in
      let told = represents_told ShowsFiles (G.kept keeper) (trace vault) c first finds.stands in
      record {
        ends = u.status ∙ wants (first_line bytes) (G.kept keeper) (trace vault) (trace ended.vault) (faults vault) (faults ended.vault) (G.faults keeper) (G.faults ended.keeper)
            c finds.opens.1 finds.opens.0 finds.opens.2 finds.opens.3 quiet.honest quiet.directory_unfailed quiet.state_unfailed error u.unopened.fails.cause (u.unopened.leaves.calm c first finds.stands f.only);
        unwritten = unwritten;
        leaves = record { stands = u.unopened.leaves.represents c first finds.stands only; opens = u.opens (first_line bytes) c told finds.opens };
      }
