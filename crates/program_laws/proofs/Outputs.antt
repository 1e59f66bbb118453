-- The output of a run failed only where its status says so, over a directory that gives what was last written.
use Rattle.std.proofs.Common.{◌≡◌, ◌⊎◌, ◌∙◌, ℕ, Bool, true, false, List, refl, sym, ap, subst, inl, inr}
use Rattle.std.specs.Prelude.{◌≢◌, Result, OnOk}
use Rattle.std.specs.declared.option.Option.{Option}
use Rattle.std.specs.declared.result.Result.TheVariants.{Ok, Err}
use Rattle.cryfs_shell.specs.answers.Sessions.{violated}
use Rattle.block_id.specs.declared.id.BlockId.{BlockId}
use Rattle.cryfs_shell.specs.config_file.declared.error.ConfigError.TheVariants as config_error
use Rattle.cryfs_shell.specs.setup_runs.Create.{RanCreate}
use Rattle.fs_model.specs.Instant.{Instant}
use Rattle.cryfs_shell.specs.line_io.Streams.{Stream}
use Rattle.cryfs_shell.specs.mount_stores.Drawing.{drawn}
use Rattle.rand_core.specs.Stream.{Stream as Chance}
use Rattle.cryfs_shell.specs.mount.Making.{KnowsOnly}
use Rattle.cryfs_shell.specs.mount_stores.Making.{root_of}
use Rattle.cryfs_shell.specs.mount_stores.declared.error.OpenError.{OpenError}
use Rattle.cryfs_shell.specs.mount_stores.declared.error.OpenError.TheVariants as open_error
use Rattle.outside.specs.Trace.{Call}
use Rattle.outside.specs.declared.keeper.Keeper.{Ghosts as KeeperGhosts}
use Rattle.cryfs_shell.specs.run_frame.Passwords.{PasswordUnread}
use Rattle.cryfs_shell.specs.run_frame.Statuses.{opening_status, session_status}
use Rattle.run_status.specs.Statuses.{first_of}
use Rattle.run_status.specs.declared.ended.Ended.{Ended}
use Rattle.run_status.specs.declared.status.Status.{Status}
use Rattle.run_status.specs.declared.status.Status.TheVariants as status
use Rattle.scrypt_kdf.specs.Cost.{Cost}
use Rattle.cryfs_shell.specs.session_lines.Driven.{IsUnfailed}
use Rattle.cryfs_shell.specs.session_lines.declared.end.End.{End}
use Rattle.cryfs_shell.specs.session_lines.declared.end.End.TheVariants.{Finished, InputFault, OutputFault}
use Rattle.shell_runs.specs.record_saver.declared.saver.SyncError.{SyncError}
use Rattle.cryfs_shell.specs.setup_runs.CreateText.{Reports, created_text}
use Rattle.cryfs_shell.specs.setup_runs.Printing.{Printed}
use Rattle.cryfs_shell.specs.shell_runs.Sessions.{Session, IsServed, ComesShell}

-- ---- create
printed : (output : Stream) (text : List ℕ) (ended : Status) → Printed output text ended → IsUnfailed output ⊎ (ended ≡ status.OutputFault)
printed output text status.Done p = inl p.1
printed output text status.OutputFault p = inr refl
printed output text ended p = absurd p

reported : (made : Result BlockId OpenError) (output : Stream) (ended : Status) → Reports made output ended → IsUnfailed output ⊎ (ended ≡ status.OutputFault)
reported (Ok id) output ended r = printed output (created_text id.0) ended r
reported (Err error) output ended r = inl r.1.1

module _ {V : Type 0} {K : Type 0} (trace : V → Option (List Call)) (faults : V → ℕ) (G : KeeperGhosts K) (input output : Stream) (vault : V) (keeper : K) (ended : Ended V K) where
  pub create_output : (cost : Cost) (block_size : ℕ) (stream rest : Chance) → RanCreate trace faults G cost block_size stream rest input output vault keeper ended → IsUnfailed output ⊎ (ended.status ≡ status.OutputFault)
  create_output cost block_size stream rest (inl u) = inl u.unwritten.1
  create_output cost block_size stream rest (inr (password, after, has, unfailed, made)) = reported made.made output ended.status made.reports

  -- ---- a session

  not_violated : (b : Bool) (end : End) (closing : Result Unit SyncError) (own : Status) → ended.status ≡ first_of (session_status b end closing) own → ended.status ≢ status.Violation → end ≡ OutputFault → ended.status ≡ status.OutputFault
  not_violated true end closing own is calm e = absurd (calm is)
  not_violated false end closing own is calm e = is ∙ ap (λ x. first_of (session_status false x closing) own) e

  module _ (now : Instant) (calm : ended.status ≢ status.Violation) where
    by_end : (password : List ℕ) (script : Option (List ℕ)) (s : IsServed trace faults G password (ComesShell now input output script) vault keeper ended) (end : End) → s.end ≡ end → IsUnfailed output ⊎ (ended.status ≡ status.OutputFault)
    by_end password script s Finished is = inl (subst (λ e. ComesShell now input output script e s.own s.es) is s.came).1.0.output_quiet
    by_end password script s InputFault is = inl (subst (λ e. ComesShell now input output script e s.own s.es) is s.came).1.0.output_quiet
    by_end password script s OutputFault is = inr (not_violated (violated s.es) s.end s.closing s.own s.status calm is)

    pub session_output : Session trace faults G (ComesShell now input output) input output vault keeper ended → IsUnfailed output ⊎ (ended.status ≡ status.OutputFault)
    session_output (inl u) = inl u.unwritten.1
    session_output (inr (password, script, has, inl ((error, u), unfailed, unwritten))) = inl unwritten.1
    session_output (inr (password, script, has, inr s)) = by_end password script s s.end refl

-- ---- what is done was made

opening_done : (error : OpenError) → opening_status error ≡ status.Done → ⊥
opening_done open_error.Memory e = cc
opening_done open_error.NoState e = cc
opening_done open_error.BadState e = cc
opening_done open_error.Exists e = cc
opening_done open_error.Marked e = cc
opening_done (open_error.Mismatch kept found) e = cc
opening_done open_error.NoConfig e = cc
opening_done (open_error.Config config_error.Memory) e = cc
opening_done (open_error.Config config_error.Form) e = cc
opening_done (open_error.Config config_error.Locked) e = cc
opening_done (open_error.Config config_error.Inner) e = cc
opening_done open_error.FaultDirectory e = cc
opening_done open_error.FaultState e = cc

unread_done : (input : Stream) (ended : Status) → PasswordUnread input ended → ended ≡ status.Done → ⊥
unread_done input status.LongPassword u e = cc
unread_done input status.InputFault u e = cc
unread_done input status.Memory u e = cc
unread_done input ended u e = absurd u

made_done : (made : Result BlockId OpenError) (output : Stream) (ended : Status) (P : Type 0) → Reports made output ended → ended ≡ status.Done → OnOk made P → P
made_done (Ok id) output ended P r e p = p
made_done (Err error) output ended P r e p = absurd (opening_done error (sym r.0 ∙ e))

-- the record of a file system that was made knows one block at its first version
pub young_of : {V : Type 0} {K : Type 0} (trace : V → Option (List Call)) (faults : V → ℕ) (G : KeeperGhosts K) (input output : Stream) (vault : V) (keeper : K) (ended : Ended V K) (cost : Cost) (block_size : ℕ) (stream rest : Chance)
    → RanCreate trace faults G cost block_size stream rest input output vault keeper ended → ended.status ≡ status.Done → KnowsOnly (G.kept ended.keeper) (root_of (drawn stream).0.root)
young_of trace faults G input output vault keeper ended cost block_size stream rest (inl u) e = absurd (unread_done input ended.status u.cause e)
young_of trace faults G input output vault keeper ended cost block_size stream rest (inr (password, after, has, unfailed, made)) e = made_done made.made output ended.status _ made.reports e made.versions
