-- What a run of a session did: it read no password, or opened no file system, or there are exchanges.
use Rattle.std.specs.Prelude.{◌≡◌, ◌⊎◌, ℕ, List, Result}
use Rattle.std.specs.declared.option.Option.{Option}
use Rattle.session_laws.specs.answers.Sessions.{Exchange, AllAt, violated}
use Rattle.fs_model.specs.Instant.{Instant}
use Rattle.session_laws.specs.line_io.Streams.{Stream, Untouched}
use Rattle.session_laws.specs.mount_stores.declared.error.OpenError.{OpenError}
use Rattle.outside.specs.Trace.{Call}
use Rattle.outside.specs.declared.keeper.Keeper.{Ghosts as KeeperGhosts}
use Rattle.session_laws.specs.run_frame.Passwords.{PasswordUnread}
use Rattle.session_laws.specs.Openings.{HasPassword, IsUnopened, IsUnread}
use Rattle.run_status.specs.Statuses.{first_of}
use Rattle.run_status.specs.declared.ended.Ended.{Ended}
use Rattle.run_status.specs.declared.status.Status.{Status}
use Rattle.run_status.specs.declared.status.Status.TheVariants.{Done}
use Rattle.session_laws.specs.session_lines.Driven.{EndsAs, IsUnfailed}
use Rattle.session_laws.specs.session_lines.declared.end.End.{End}
use Rattle.session_laws.specs.Coming.{CameGenerated, CameSingle}
use Rattle.session_laws.specs.Runs.{outside_of, IsSessionRun}
use Rattle.session_laws.specs.Turns.{OnMount}
use Rattle.session_laws.specs.record_saver.declared.saver.SyncError.{SyncError}
use Rattle.mount_calls.specs.path_layer.Showing.{ShowsFiles}
use Rattle.session_laws.specs.run_frame.Statuses.{session_status, IsOwn}

-- Under the password a file system was opened, and there are exchanges. What they are, what is kept and which faults happened is said by `session`; what each
-- answer was given for, and what each line saved and called, by `mounted`. Its own status is told where nothing else is the matter.
pub record IsServed {V : Type 0} {K : Type 0} (trace : V → Option (List Call)) (faults : V → ℕ) (G : KeeperGhosts K) (password : List ℕ) (Came : End → Status → List Exchange → Type 0) (vault : V) (keeper : K) (ended : Ended V K) : Type 0 where
  pub es : List Exchange
  pub end : End
  pub own : Status
  pub closing : Result Unit SyncError
  pub mild : IsOwn own
  pub came : Came end own es
  pub session : IsSessionRun ShowsFiles password (outside_of trace faults G vault keeper) (outside_of trace faults G ended.vault ended.keeper) (violated es) closing es
  pub mounted : OnMount ShowsFiles trace faults G password vault keeper closing ended.vault ended.keeper es
  pub status : ended.status ≡ first_of (session_status (violated es) end closing) own

-- The password line wasn't read and nothing was done; or under its password no file system was opened and nothing was written, or there are exchanges, which came
-- so from what follows the password line.
abbrev pub Session : {V : Type 0} → {K : Type 0} → (V → Option (List Call)) → (V → ℕ) → KeeperGhosts K → (Option (List ℕ) → End → Status → List Exchange → Type 0)
    → Stream → Stream → V → K → Ended V K → Type 0
Session trace faults G Came input output vault keeper ended =
    IsUnread (PasswordUnread input) output vault keeper ended
    ⊎ ((password : List ℕ) × (script : Option (List ℕ)) × HasPassword input password script
    × ((((error : OpenError) × IsUnopened trace faults G password vault keeper ended error) × IsUnfailed input × Untouched output)
    ⊎ IsServed trace faults G password (Came script) vault keeper ended))

-- a file system was opened, and there are exchanges
abbrev pub WasServed : {V : Type 0} → {K : Type 0} → (V → Option (List Call)) → (V → ℕ) → KeeperGhosts K → (Option (List ℕ) → End → Status → List Exchange → Type 0) → Stream → V → K → Ended V K → Type 0
WasServed trace faults G Came input vault keeper ended =
    (password : List ℕ) × (script : Option (List ℕ)) × HasPassword input password script × IsServed trace faults G password (Came script) vault keeper ended

-- lines have no status of their own
abbrev pub OfLines : Status → Type 0 → Type 0
OfLines own Came = Came × (own ≡ Done)

-- the lines after the password line, all at this moment
abbrev pub ComesShell : Instant → Stream → Stream → Option (List ℕ) → End → Status → List Exchange → Type 0
ComesShell now input output script end own es = AllAt now es × OfLines own (EndsAs 0 script input output es end)

-- the first so many generated commands, all at this moment; no read of the input failed
abbrev pub ComesGenerated : Instant → ℕ → Stream → Stream → Option (List ℕ) → End → Status → List Exchange → Type 0
ComesGenerated now count input output script end own es = OfLines own (CameGenerated now count output end es × IsUnfailed input)

-- this line at this moment; no read of the input failed
abbrev pub ComesCommand : Instant → List ℕ → Stream → Stream → Option (List ℕ) → End → Status → List Exchange → Type 0
ComesCommand now line input output script end own es = OfLines own (CameSingle now line output end es × IsUnfailed input)
