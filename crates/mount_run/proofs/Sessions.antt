-- What holds of each run of a session.
use Rattle.std.proofs.Common.{◌≡◌, ◌⊎◌, ◌≤◌, ◌+◌, ◌∙◌, ℕ, Bool, false, List, [], refl, sym, ap, subst, inl, inr, arith}
use Rattle.std.specs.declared.option.Option.{Option}
use Rattle.std.specs.declared.option.Option.TheVariants.{Some}
use Rattle.fs_model.specs.Tree.{Tree}
use Rattle.outside.specs.Causes.{RoseBy}
use Rattle.outside.specs.Trace.{Call}
use Rattle.outside.specs.declared.keeper.Keeper.{Ghosts as KeeperGhosts}
use Rattle.run_status.specs.declared.ended.Ended.{Ended}
use Rattle.run_status.specs.declared.status.Status.{Status}
use Rattle.run_status.specs.declared.status.Status.TheVariants.{Done, LongPassword, Violation, DirectoryFault, StateFault, InputFault, Memory}
use Rattle.session_laws.specs.answers.Sessions.{Exchange, violated, all_directory_faults, all_state_faults}
use Rattle.session_laws.specs.block_versions.Standing.{records}
use Rattle.session_laws.specs.config_file.Settings.{Settings}
use Rattle.session_laws.specs.line_io.Lines.{first_of, first_line}
use Rattle.session_laws.specs.line_io.Streams.{Stream, Untouched}
use Rattle.session_laws.specs.mount_core.Standing.{IsKeptMarked}
use Rattle.session_laws.specs.mount_stores.Identities.{HasEmptyList}
use Rattle.session_laws.specs.mount_stores.declared.error.OpenError.{OpenError}
use Rattle.session_laws.specs.run_frame.Passwords.{IsNextPassword, PasswordUnread}
use Rattle.session_laws.specs.run_frame.Statuses.{session_status, IsOwn}
use Rattle.session_laws.specs.session_lines.declared.end.End.{End}
use Rattle.session_laws.specs.Histories.{session, quiet}
use Rattle.session_laws.specs.Openings.{IsUnread, IsUnopened}
use Rattle.session_laws.specs.Runs.{Outside, outside_of, OutsideStandsFor, OpensTo, OpensOnlyTo, IsQuietRun, directory_fault, state_fault}
use Rattle.shell_runs.proofs.session_laws_lemmas.Unopened.{caused}
use Rattle.shell_runs.proofs.session_laws_lemmas.Whole.{only_opens, unviolated}
use Rattle.shell_runs.proofs.session_laws_lemmas.mount_lemmas.Reading.{loaded_unmarked}
use Rattle.shell_runs.proofs.session_laws_lemmas.run_frame_lemmas.Owns.{not_own, none_before}
use Rattle.shell_runs.specs.mount_core.Showing.{ShowsFiles}
use Rattle.shell_runs.specs.Sessions.{Session, IsServed}
use Rattle.mount_run.specs.Clauses.{IsRefusingStatus, IsRefusedRun, IsFounded, OpensOnly, NoFalseAlarm, KeepsTree, FaultsHappened, IsEmptied, HasHistory}
use Rattle.mount_run.proofs.Statuses.{opening_is_no, stops_is_refusal, session_directory, session_state, done_is_calm, done_is_closed, calm_is_no_alarm}

-- the password of a told input is its first line
next_is_first : (bytes password : List ℕ) (script : Option (List ℕ)) → IsNextPassword (Some bytes) password script → first_line bytes ≡ password
next_is_first bytes password script (inl line) = ap first_of line.1
next_is_first bytes password script (inr none) = ap first_line none.0 ∙ sym none.1

password_is : (old : Option (List ℕ)) (bytes password : List ℕ) (script : Option (List ℕ)) → old ≡ Some bytes → IsNextPassword old password script → first_line bytes ≡ password
password_is old bytes password script told next = next_is_first bytes password script (subst (λ (x : Option (List ℕ)). IsNextPassword x password script) told next)

-- a status of a mount that read no password
abbrev IsUnreadStatus : Status → Type 0
IsUnreadStatus LongPassword = Unit {0}
IsUnreadStatus InputFault = Unit {0}
IsUnreadStatus Memory = Unit {0}
IsUnreadStatus status = ⊥

unread_status : (input : Stream) (status : Status) → PasswordUnread input status → IsUnreadStatus status
unread_status input LongPassword u = tt
unread_status input InputFault u = tt
unread_status input Memory u = tt
unread_status input status u = absurd u

unread_refuses : (status : Status) → IsUnreadStatus status → IsRefusingStatus status
unread_refuses LongPassword u = tt
unread_refuses InputFault u = tt
unread_refuses Memory u = tt
unread_refuses status u = absurd u

unread_is_no : (status other : Status) → IsUnreadStatus status → status ≡ other → (IsUnreadStatus other → ⊥) → ⊥
unread_is_no status other u e h = h (subst IsUnreadStatus e u)

-- counts that don't fall
grown : (a b : ℕ) → a ≤ b → RoseBy 0 a b
grown a b h = omega arith

stays_grown : (a b : ℕ) → b ≡ a → RoseBy 0 a b
stays_grown a b e = omega arith

rose_grown : (n a b : ℕ) → RoseBy n a b → RoseBy 0 a b
rose_grown n a b r = omega arith

module _ {V : Type 0} {K : Type 0} (trace : V → Option (List Call)) (faults : V → ℕ) (G : KeeperGhosts K) (Came : Option (List ℕ) → End → Status → List Exchange → Type 0) (input output : Stream) (vault : V) (keeper : K) (ended : Ended V K) where
  abbrev Before : Outside
  Before = outside_of trace faults G vault keeper

  abbrev After : Outside
  After = outside_of trace faults G ended.vault ended.keeper

  -- ---- where no password was read

  module _ (u : IsUnread (PasswordUnread input) output vault keeper ended) where
    abbrev unread : IsUnreadStatus ended.status
    unread = unread_status input ended.status u.cause

    unread_faults : FaultsHappened Before After ended.status
    unread_faults = record {
      vault_grows = stays_grown (faults vault) (faults ended.vault) (ap faults u.uncalled.same_vault);
      keeper_grows = stays_grown (G.faults keeper) (G.faults ended.keeper) (ap G.faults u.uncalled.same_keeper);
      directory_fault = λ e. absurd (unread_is_no ended.status DirectoryFault unread e (λ h. h));
      state_fault = λ e. absurd (unread_is_no ended.status StateFault unread e (λ h. h));
    }

    unread_refusal : IsRefusedRun G.kept output vault keeper ended
    unread_refusal = record { status = unread_refuses ended.status unread; uncalled = u.uncalled.same_vault; stays = ap G.kept u.uncalled.same_keeper; unwritten = u.unwritten }

    unread_keeps : KeepsTree input Before After
    unread_keeps bytes c first f =
        inr (
          first,
          subst (λ (v : V). OutsideStandsFor ShowsFiles c first (outside_of trace faults G v ended.keeper)) (sym u.uncalled.same_vault)
              (subst (λ (k : K). OutsideStandsFor ShowsFiles c first (outside_of trace faults G vault k)) (sym u.uncalled.same_keeper) f.opens.stands),
        )

  -- ---- where no file system was opened

  module _ (password : List ℕ) (script : Option (List ℕ)) (next : IsNextPassword input.old password script) where
    opens_under : (bytes : List ℕ) (c : Settings) (first : Tree) → IsFounded input bytes c first Before After → OpensTo ShowsFiles password c first Before After
    opens_under bytes c first f =
        subst (λ (x : List ℕ). OpensTo ShowsFiles x c first Before After) (password_is input.old bytes password script f.told next) f.opens

    only_under : (bytes : List ℕ) (c : Settings) (first : Tree) → OpensOnly input bytes c first Before After → OpensOnlyTo ShowsFiles password c first Before After
    only_under bytes c first f =
        subst (λ (x : List ℕ). OpensOnlyTo ShowsFiles x c first Before After) (password_is input.old bytes password script f.told next) f.opens

    module _ (error : OpenError) (u : IsUnopened trace faults G password vault keeper ended error) where
      unopened_faults : FaultsHappened Before After ended.status
      unopened_faults =
          let k = caused trace faults G password vault keeper (record { error = error; vault = ended.vault; keeper = ended.keeper }) u.unopened ended.status u.status in
          record {
            vault_grows = grown (faults vault) (faults ended.vault) k.vault_grows;
            keeper_grows = grown (G.faults keeper) (G.faults ended.keeper) k.keeper_grows;
            directory_fault = k.directory_fault;
            state_fault = k.state_fault;
          }

      unopened_refusal : Untouched output → IsKeptMarked records (G.kept keeper) → IsRefusedRun G.kept output vault keeper ended
      unopened_refusal unwritten marked =
          let m = u.marked marked in
          record { status = subst IsRefusingStatus (sym u.status) (stops_is_refusal error m.2); uncalled = m.0; stays = m.1; unwritten = unwritten }

      unopened_alarm : NoFalseAlarm input Before After ended.status
      unopened_alarm bytes c first f honest e = u.no_false_alarm c first (only_under bytes c first f) e

      unopened_keeps : KeepsTree input Before After
      unopened_keeps bytes c first f = inr (first, u.quiet.stands c first (opens_under bytes c first f))

    -- ---- where there are exchanges

    module _ (s : IsServed trace faults G password (Came script) vault keeper ended) where
      -- a status that isn't its own comes from the exchanges, the end of serving or closing
      earlier : (other : Status) → (IsOwn other → ⊥) → ended.status ≡ other → session_status (violated s.es) s.end s.closing ≡ other
      earlier other not e = not_own (session_status (violated s.es) s.end s.closing) s.own other s.mild not (sym s.status ∙ e)

      served_faults : FaultsHappened Before After ended.status
      served_faults = record {
        vault_grows = rose_grown (all_directory_faults s.es + directory_fault s.closing) (faults vault) (faults ended.vault) s.session.directory_faults_happened;
        keeper_grows = rose_grown (all_state_faults s.es + state_fault s.closing) (G.faults keeper) (G.faults ended.keeper) s.session.state_faults_happened;
        directory_fault = λ e. session_directory (violated s.es) s.end s.closing (all_directory_faults s.es) (faults vault) (faults ended.vault) (earlier DirectoryFault (λ h. h) e) s.session.directory_faults_happened;
        state_fault = λ e. session_state (violated s.es) s.end s.closing (all_state_faults s.es) (G.faults keeper) (G.faults ended.keeper) (earlier StateFault (λ h. h) e) s.session.state_faults_happened;
      }

      served_unmarked : IsKeptMarked records (G.kept keeper) → ⊥
      served_unmarked marked = loaded_unmarked (G.kept keeper) s.session.attached.attached.state s.session.attached.attached.list s.session.attached.attached.loaded marked

      served_alarm : NoFalseAlarm input Before After ended.status
      served_alarm bytes c first f honest e =
          let o = only_opens ShowsFiles password c first Before After (only_under bytes c first f) in
          let a = s.session.founded c first (record { opens = o; unforged = s.session.unforged c first o honest }) in
          let calm : violated s.es ≡ false = unviolated s.es (a.no_false_alarm honest) in
          calm_is_no_alarm s.end s.closing (subst (λ (b : Bool). session_status b s.end s.closing ≡ Violation) calm (earlier Violation (λ h. h) e))

      served_keeps : KeepsTree input Before After
      served_keeps bytes c first f =
          elim (s.session.founded c first (record { opens = opens_under bytes c first f; unforged = f.unforged })).kept as (λ _. IsKeptMarked records After.kept ⊎ ((tree : Tree) × OutsideStandsFor ShowsFiles c tree After)) [
            | inl m ↦ inl m.1
            | inr k ↦ inr (k.0, k.2)
          ]

      served_emptied : ended.status ≡ Done → IsEmptied After
      served_emptied e =
          let done : session_status (violated s.es) s.end s.closing ≡ Done = none_before (session_status (violated s.es) s.end s.closing) s.own (sym s.status ∙ e) in
          done_is_closed (violated s.es) s.end s.closing (HasEmptyList (G.kept ended.keeper)) done (s.session.emptied (done_is_calm (violated s.es) s.end s.closing done))

  -- ---- together

  pub session_faults : Session trace faults G Came input output vault keeper ended → FaultsHappened Before After ended.status
  session_faults (inl u) = unread_faults u
  session_faults (inr (password, script, has, inl ((error, u), unfailed, unwritten))) = unopened_faults password script has.is_next error u
  session_faults (inr (password, script, has, inr s)) = served_faults password script has.is_next s

  pub session_refusal : Session trace faults G Came input output vault keeper ended → IsKeptMarked records (G.kept keeper) → IsRefusedRun G.kept output vault keeper ended
  session_refusal (inl u) marked = unread_refusal u
  session_refusal (inr (password, script, has, inl ((error, u), unfailed, unwritten))) marked = unopened_refusal password script has.is_next error u unwritten marked
  session_refusal (inr (password, script, has, inr s)) marked = absurd (served_unmarked password script has.is_next s marked)

  pub session_alarm : Session trace faults G Came input output vault keeper ended → NoFalseAlarm input Before After ended.status
  session_alarm (inl u) bytes c first f honest e = unread_is_no ended.status Violation (unread_status input ended.status u.cause) e (λ h. h)
  session_alarm (inr (password, script, has, inl ((error, u), unfailed, unwritten))) bytes c first f honest e = unopened_alarm password script has.is_next error u bytes c first f honest e
  session_alarm (inr (password, script, has, inr s)) bytes c first f honest e = served_alarm password script has.is_next s bytes c first f honest e

  pub session_keeps : Session trace faults G Came input output vault keeper ended → KeepsTree input Before After
  session_keeps (inl u) bytes c first f = unread_keeps u bytes c first f
  session_keeps (inr (password, script, has, inl ((error, u), unfailed, unwritten))) bytes c first f = unopened_keeps password script has.is_next error u bytes c first f
  session_keeps (inr (password, script, has, inr s)) bytes c first f = served_keeps password script has.is_next s bytes c first f

  pub session_emptied : Session trace faults G Came input output vault keeper ended → ended.status ≡ Done → IsEmptied After
  session_emptied (inl u) e = absurd (unread_is_no ended.status Done (unread_status input ended.status u.cause) e (λ h. h))
  session_emptied (inr (password, script, has, inl ((error, u), unfailed, unwritten))) e = absurd (opening_is_no error ended.status Done u.status e (λ h. h))
  session_emptied (inr (password, script, has, inr s)) e = served_emptied password script has.is_next s e

  -- ---- as a run of the file system

  quietly : (password : List ℕ) → IsQuietRun ShowsFiles password Before After → HasHistory Came input Before After
  quietly password q = (quiet password Before After, record { is_run = q; came = tt; begins = refl; ends = refl })

  still : (o : Outside) → IsQuietRun ShowsFiles [] o o
  still o = record { stands = λ c tree f. f.stands; marked = λ m. (refl, refl); least = λ least takes. takes }

  pub session_history : Session trace faults G Came input output vault keeper ended → HasHistory Came input Before After
  session_history (inl u) =
      quietly [] (subst (λ (v : V). IsQuietRun ShowsFiles [] Before (outside_of trace faults G v ended.keeper)) (sym u.uncalled.same_vault)
      (subst (λ (k : K). IsQuietRun ShowsFiles [] Before (outside_of trace faults G vault k)) (sym u.uncalled.same_keeper) (still Before)))
  session_history (inr (password, script, has, inl ((error, u), unfailed, unwritten))) = quietly password u.quiet
  session_history (inr (password, script, has, inr s)) =
      (session password Before After s.closing s.es, record { is_run = s.session; came = (script, has, s.end, s.own, s.came); begins = refl; ends = refl })
