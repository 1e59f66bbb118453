-- What holds of each look.
use Rattle.std.proofs.Common.{◌≡◌, ◌≢◌, ℕ, List, [], refl, sym, ap, subst, ◌∙◌, inl, inr}
use Rattle.std.specs.declared.option.Option.{Option}
use Rattle.std.specs.declared.option.Option.TheVariants.{None, Some}
use Rattle.std.specs.declared.result.Result.TheVariants.{Ok}
use Rattle.trial_runs.specs.answers.Sessions.{is_violation}
use Rattle.cryfs_shell.specs.Clauses.{KeepsTree, FaultsHappened}
use Rattle.cryfs_shell.specs.Doing.{HasLooked}
use Rattle.cryfs_shell.specs.Streams.{Streams}
use Rattle.cryfs_shell.proofs.Migrations.{or_done, session_host}
use Rattle.cryfs_shell.proofs.Statuses.{IsOfOpening, opening_is_no, session_input, session_output, session_is_no}
use Rattle.cryfs_shell.proofs.Sessions.{IsUnreadStatus, one_unread, unread_is_no, unread_faults, grown}
use Rattle.cryfs_shell.proofs.TrialEnds.{reported_cause}
use Rattle.fs_model.specs.Instant.{Instant}
use Rattle.looking.specs.Runs.{RanLook, LookedAt}
use Rattle.outside.specs.Trace.{Call}
use Rattle.outside.specs.declared.keeper.Keeper.{Ghosts as KeeperGhosts}
use Rattle.session_laws.specs.run_frame.Passwords.{PasswordUnread}
use Rattle.session_laws.specs.run_frame.Statuses.{session_status, IsOwn}
use Rattle.run_status.specs.declared.ended.Ended.{Ended}
use Rattle.run_status.specs.declared.status.Status.{Status}
use Rattle.run_status.specs.declared.status.Status.TheVariants.{Done, Usage, LongPassword, InputFault, OutputFault, HostFault}
use Rattle.trial_runs.specs.line_io.Streams.{Stream}
use Rattle.session_laws.proofs.Looked.{looked_stands}
use Rattle.session_laws.specs.Openings.{AreUncalled, HasCauses}
use Rattle.session_laws.specs.Resting.{OnlyAsked}
use Rattle.session_laws.specs.Runs.{outside_of, IsLookedRun}
use Rattle.check_runs.specs.mount_core.Showing.{ShowsFiles}

-- nothing was asked for
unasked : (calls : Option (List Call)) → OnlyAsked calls calls
unasked None = refl
unasked (Some old) = ([], refl, tt)

pub unlooked : {V : Type 0} {K : Type 0} (trace : V → Option (List Call)) (faults : V → ℕ) (G : KeeperGhosts K) (vault : V) (keeper : K)
    → IsLookedRun (outside_of trace faults G vault keeper) (outside_of trace faults G vault keeper)
unlooked trace faults G vault keeper = record { kept = refl; asked = unasked (trace vault) }

module _ {V : Type 0} {K : Type 0} (trace : V → Option (List Call)) (faults : V → ℕ) (G : KeeperGhosts K) (vault : V) (keeper : K) (ended : Ended V K) where
  -- a run that called neither of the two is a look
  pub uncalled_looks : AreUncalled vault keeper ended → IsLookedRun (outside_of trace faults G vault keeper) (outside_of trace faults G ended.vault ended.keeper)
  uncalled_looks u = record { kept = ap G.kept u.same_keeper; asked = subst (λ (v : V). OnlyAsked (trace vault) (trace v)) (sym u.same_vault) (unasked (trace vault)) }

  module _ (words : List (List ℕ)) (now : Instant) (s : Streams) where
    abbrev Looked : Type 0
    Looked = HasLooked trace faults G words now s vault keeper ended

    abbrev Caused : Type 0
    Caused = HasCauses (outside_of trace faults G vault keeper) (outside_of trace faults G ended.vault ended.keeper) ended.status

    -- what a look never ends with: neither where no password was read, nor where nothing was found, nor behind an answer
    ran_is_no : (line : List ℕ) (other : Status) → (IsUnreadStatus other → ⊥) → (IsOfOpening other → ⊥)
        → ((password : List ℕ) → LookedAt trace faults password now line s.output vault ended → ended.status ≢ other)
        → RanLook trace faults now line s.input s.output vault keeper ended → ended.status ≢ other
    ran_is_no line other unread opening answered (inl u) e = unread_is_no ended.status other (one_unread s.input ended.status u.cause).unread e unread
    ran_is_no line other unread opening answered (inr (password, script, has, unfailed, inl vain)) e = opening_is_no vain.error ended.status other vain.status_is e opening
    ran_is_no line other unread opening answered (inr (password, script, has, unfailed, inr at)) e = answered password at e

    answered_usage : (line password : List ℕ) → LookedAt trace faults password now line s.output vault ended → ended.status ≢ Usage
    answered_usage line password at e =
        let a = at.answered in
        let status = session_status (is_violation a.answer) a.end (Ok tt) in
        session_is_no (is_violation a.answer) a.end (Ok tt) Done ended.status Usage tt (a.status_is ∙ or_done status) e (λ h. h) (λ h. h)

    answered_long : (line password : List ℕ) → LookedAt trace faults password now line s.output vault ended → ended.status ≢ LongPassword
    answered_long line password at e =
        let a = at.answered in
        let status = session_status (is_violation a.answer) a.end (Ok tt) in
        session_is_no (is_violation a.answer) a.end (Ok tt) Done ended.status LongPassword tt (a.status_is ∙ or_done status) e (λ h. h) (λ h. h)

    answered_host : (line password : List ℕ) → LookedAt trace faults password now line s.output vault ended → ended.status ≢ HostFault
    answered_host line password at e =
        let a = at.answered in
        session_host (is_violation a.answer) a.end (Ok tt) (sym a.status_is ∙ e)

    pub looked_usage : Looked → ended.status ≢ Usage
    looked_usage d = ran_is_no _ Usage (λ h. h) (λ h. h) (answered_usage _) d.ran

    pub looked_host : Looked → ended.status ≢ HostFault
    looked_host d = ran_is_no _ HostFault (λ h. h) (λ h. h) (answered_host _) d.ran

    ran_uncalled : (line : List ℕ) → ended.status ≡ LongPassword → RanLook trace faults now line s.input s.output vault keeper ended → AreUncalled vault keeper ended
    ran_uncalled line e (inl u) = u.uncalled
    ran_uncalled line e (inr (password, script, has, unfailed, inl vain)) = absurd (opening_is_no vain.error ended.status LongPassword vain.status_is e (λ h. h))
    ran_uncalled line e (inr (password, script, has, unfailed, inr at)) = absurd (answered_long line password at e)

    pub looked_uncalled : Looked → ended.status ≡ LongPassword → AreUncalled vault keeper ended
    looked_uncalled d e = ran_uncalled _ e d.ran

    ran_faults : (line : List ℕ) → Caused → RanLook trace faults now line s.input s.output vault keeper ended
        → FaultsHappened s.input s.output (outside_of trace faults G vault keeper) (outside_of trace faults G ended.vault ended.keeper) ended.status
    ran_faults line k (inl u) = unread_faults trace faults G s.input s.output vault keeper ended (PasswordUnread s.input) (one_unread s.input) u
    ran_faults line k (inr (password, script, has, unfailed, inl vain)) = record {
      vault_grows = grown (faults vault) (faults ended.vault) k.vault_grows;
      keeper_grows = grown (G.faults keeper) (G.faults ended.keeper) k.keeper_grows;
      directory_fault = k.directory_fault;
      state_fault = k.state_fault;
      input_fault = λ e. absurd (opening_is_no vain.error ended.status InputFault vain.status_is e (λ h. h));
      output_fault = λ e. absurd (opening_is_no vain.error ended.status OutputFault vain.status_is e (λ h. h));
    }
    ran_faults line k (inr (password, script, has, unfailed, inr at)) =
        let a = at.answered in
        let cause = reported_cause s.input s.output _ a.end a.written in
        record {
          vault_grows = grown (faults vault) (faults ended.vault) k.vault_grows;
          keeper_grows = grown (G.faults keeper) (G.faults ended.keeper) k.keeper_grows;
          directory_fault = k.directory_fault;
          state_fault = k.state_fault;
          input_fault = λ e. session_input (is_violation a.answer) a.end (Ok tt) s.input s.output (sym a.status_is ∙ e) cause;
          output_fault = λ e. session_output (is_violation a.answer) a.end (Ok tt) s.input s.output (sym a.status_is ∙ e) cause;
        }

    pub looked_faults : Caused → Looked → FaultsHappened s.input s.output (outside_of trace faults G vault keeper) (outside_of trace faults G ended.vault ended.keeper) ended.status
    looked_faults k d = ran_faults _ k d.ran

    -- what is kept stands for its tree as before
    pub looked_keeps : Looked → KeepsTree s.input (outside_of trace faults G vault keeper) (outside_of trace faults G ended.vault ended.keeper)
    looked_keeps d bytes c first f =
        inr (first, looked_stands (outside_of trace faults G vault keeper) (outside_of trace faults G ended.vault ended.keeper) d.looked ShowsFiles c first f.opened.opens.stands)
