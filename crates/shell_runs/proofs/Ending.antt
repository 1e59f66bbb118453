-- What a run of a session did, by how the session ended.
use Rattle.std.proofs.Common.{◌≡◌, ◌⊎◌, ◌∙◌, ℕ, Bool, List, inl, inr, refl, sym, subst}
use Rattle.std.specs.Prelude.{Result}
use Rattle.std.specs.declared.option.Option.{Option}
use Rattle.session_laws.specs.answers.Sessions.{Exchange}
use Rattle.session_laws.specs.line_io.Reading.{Reading, coming, total}
use Rattle.session_laws.specs.line_io.Streams.{Stream, HasFailed, TookMost, Untouched}
use Rattle.outside.specs.Trace.{Call}
use Rattle.outside.specs.declared.keeper.Keeper.{Ghosts as KeeperGhosts}
use Rattle.rand_core.specs.Stream.{Stream as Chance}
use Rattle.session_laws.specs.answers.Hosts.{Ran}
use Rattle.session_laws.specs.mount.Mounts.{IsReady}
use Rattle.session_laws.specs.mount.Sealing.{OpensSealed, view_of}
use Rattle.session_laws.specs.mount_stores.declared.error.OpenError.{OpenError}
use Rattle.session_laws.specs.run_frame.Passwords.{PasswordRead, IsNextPassword}
use Rattle.session_laws.specs.run_frame.Statuses.{session_status, IsOwn}
use Rattle.run_status.specs.Statuses.{first_of}
use Rattle.run_status.specs.declared.status.Status.{Status}
use Rattle.run_status.specs.declared.ended.Ended.{Ended}
use Rattle.session_laws.specs.session_lines.Driven.{EndsAs, IsUnfailed}
use Rattle.session_laws.specs.session_lines.declared.end.End.{End}
use Rattle.session_laws.specs.session_lines.declared.end.End.TheVariants as line_end
use Rattle.session_laws.specs.Drawing.{DrawsVectors}
use Rattle.session_laws.specs.Openings.{HasPassword, IsUnopened}
use Rattle.session_laws.specs.Runs.{outside_of, IsSessionRun}
use Rattle.session_laws.specs.Turns.{Begun, Closing}
use Rattle.session_laws.proofs.Drawing.{draws_session, undrawing}
use Rattle.session_laws.proofs.Whole.{whole}
use Rattle.session_laws.specs.record_saver.declared.saver.SyncError.{SyncError}
use Rattle.shell_runs.specs.declared.mounted.Mounted.{Mounted}
use Rattle.mount_calls.specs.path_layer.Showing.{ShowsFiles}
use Rattle.shell_runs.specs.Mounting.{mounted_hosting}
use Rattle.shell_runs.specs.Sessions.{Session, WasServed}

-- from the first byte on
pub from_start : (taken : ℕ) (script before mid after : Option (List ℕ)) (f0 f1 f2 : ℕ) (output : Stream) (es : List Exchange) (end : End) → total taken mid ≡ total 0 before → f1 ≡ f0
    → EndsAs taken script (record { old = mid; new = after; faults = f1; risen = f2 }) output es end → EndsAs 0 script (record { old = before; new = after; faults = f0; risen = f2 }) output es end
from_start taken script before mid after f0 f1 f2 output es line_end.Finished counted quiet e =
    record { asked = e.asked; ends = e.ends; written = e.written; input_quiet = e.input_quiet ∙ quiet; output_quiet = e.output_quiet }
from_start taken script before mid after f0 f1 f2 output es line_end.InputFault counted quiet e =
    let e0 = subst (λ f. EndsAs taken script (record { old = mid; new = after; faults = f; risen = f2 }) output es line_end.InputFault) quiet e in
    record { asked = e0.asked; written = e0.written; cause = elim e0.cause as (λ _. HasFailed (record { old = before; new = after; faults = f0; risen = f2 }) ⊎ TookMost 0 (record { old = before; new = after; faults = f0; risen = f2 })) [ inl failed ↦ inl failed | inr most ↦ inr (most ∙ counted) ]; output_quiet = e0.output_quiet }
from_start taken script before mid after f0 f1 f2 output es line_end.OutputFault counted quiet e =
    record { asked = e.asked; written = e.written; cause = e.cause; input_quiet = e.input_quiet ∙ quiet }

-- the password that was read is that of the input, however the input went on
pub has_password : (input whole : Stream) (reader : Reading) (taken stored password : List ℕ) → input.old ≡ whole.old → PasswordRead input reader taken stored → password ≡ stored
    → HasPassword whole password (coming reader.ahead input.new)
has_password input whole reader taken stored password same read e =
    subst (λ (x : List ℕ). HasPassword whole x (coming reader.ahead input.new)) (sym e)
    (record { short = read.short; is_next = subst (λ (x : Option (List ℕ)). IsNextPassword x stored (coming reader.ahead input.new)) same read.is_next })

module _ {V : Type 0} {K : Type 0} (trace : V → Option (List Call)) (faults : V → ℕ) (G : KeeperGhosts K) (Came : Option (List ℕ) → End → Status → List Exchange → Type 0)
    (input output : Stream) (password : List ℕ) (script : Option (List ℕ)) (has : HasPassword input password script) (vault : V) (keeper : K) (ended : Ended V K) where
  pub halted : (error : OpenError) × IsUnopened trace faults G password vault keeper ended error → IsUnfailed input → Untouched output → Session trace faults G Came input output vault keeper ended
  halted unopened unfailed unwritten = inr (password, script, has, inl (unopened, unfailed, unwritten))

  pub was_served : {R : Type 0} (stream : R → Chance) (old new : Mounted V K R) (es : List Exchange) (end : End) (own : Status) → IsOwn own → Begun ShowsFiles trace faults G password vault keeper old.mount → IsReady trace faults G new.mount
      → Ran (mounted_hosting stream trace faults G) old es new → Came script end own es
      → (closing : Result Unit SyncError) × (ended.status ≡ first_of (session_status new.mount.core.violated end closing) own) × Closing ShowsFiles trace faults G new.mount closing ended.vault ended.keeper
      → WasServed trace faults G Came input vault keeper ended
  was_served {R = R} stream old new es end own mild begun ready ran came (closing, status, closed) =
      let mount = λ (m : Mounted V K R). m.mount in
      let went = undrawing mount (λ m. stream m.chance.now) (λ m. m.chance.ghost_name) ShowsFiles trace faults G old new es ran in
      let w = whole mount ShowsFiles trace faults G password vault ended.vault keeper ended.keeper old new es closing new.mount.core.violated begun ready went closed refl in (
        password,
        script,
        has,
        record {
          es = es;
          end = end;
          own = own;
          closing = closing;
          mild = mild;
          came = came;
          session = subst (λ (b : Bool). IsSessionRun ShowsFiles password (outside_of trace faults G vault keeper) (outside_of trace faults G ended.vault ended.keeper) b closing es) w.0.violation w.0;
          mounted = w.1;
          status = subst (λ (b : Bool). ended.status ≡ first_of (session_status b end closing) own) w.0.violation status;
        },
      )

-- and so it was a session
pub served : {V : Type 0} {K : Type 0} (trace : V → Option (List Call)) (faults : V → ℕ) (G : KeeperGhosts K) (Came : Option (List ℕ) → End → Status → List Exchange → Type 0)
    (input output : Stream) (vault : V) (keeper : K) (ended : Ended V K) → WasServed trace faults G Came input vault keeper ended → Session trace faults G Came input output vault keeper ended
served trace faults G Came input output vault keeper ended w = inr (w.0, w.1, w.2, inr w.3)

-- and what it drew
pub draws_served : {V : Type 0} {K : Type 0} {R : Type 0} (stream : R → Chance) (trace : V → Option (List Call)) (faults : V → ℕ) (G : KeeperGhosts K) (password : List ℕ) (vault : V) (keeper : K) (ended : Ended V K) (own : Status) (end : End)
    → (old new : Mounted V K R) (es : List Exchange) → Begun ShowsFiles trace faults G password vault keeper old.mount → OpensSealed (G.kept keeper) (trace vault) (view_of trace old.mount) → Ran (mounted_hosting stream trace faults G) old es new
    → (closing : Result Unit SyncError) × (ended.status ≡ first_of (session_status new.mount.core.violated end closing) own) × Closing ShowsFiles trace faults G new.mount closing ended.vault ended.keeper
    → DrawsVectors (stream old.chance.now) (stream new.chance.now) (outside_of trace faults G vault keeper) (outside_of trace faults G ended.vault ended.keeper)
draws_served {V = V} {K = K} {R = R} stream trace faults G password vault keeper ended own end old new es begun opens ran (closing, status, closed) =
    draws_session (λ (m : Mounted V K R). m.mount) (λ m. stream m.chance.now) (λ m. m.chance.ghost_name) ShowsFiles trace faults G password vault ended.vault keeper ended.keeper old new es closing begun opens ran closed
