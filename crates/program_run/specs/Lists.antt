-- Any list of calls of `run`, one after another. The newest stands first.
use Rattle.std.specs.Prelude.{◌≡◌, ◌≢◌, ◌⊎◌, ◌||◌, ℕ, true, false, Bool, List, [], ◌∷◌, is_some}
use Rattle.std.specs.declared.option.Option.{Option}
use Rattle.std.specs.declared.option.Option.TheVariants.{Some}
use Rattle.cryfs_shell.specs.answers.Sessions.{violated}
use Rattle.cryfs_shell.specs.config_file.Settings.{Settings}
use Rattle.cryfs_shell.specs.program_words.declared.create_options.CreateOptions.{CreateOptions}
use Rattle.fs_model.specs.Tree.{Tree, empty_tree}
use Rattle.cryfs_shell.specs.block_versions.Standing.{records}
use Rattle.cryfs_shell.specs.line_io.Lines.{first_line}
use Rattle.cryfs_shell.specs.line_io.Streams.{Untouched}
use Rattle.cryfs_shell.specs.mount_stores.Drawing.{drawn}
use Rattle.cryfs_shell.specs.mount_stores.Making.{IsUnchanged, new_settings}
use Rattle.cryfs_shell.specs.mount_core.Standing.{IsKeptMarked}
use Rattle.outside.specs.Trace.{Call}
use Rattle.outside.specs.declared.keeper.Keeper.{Ghosts as KeeperGhosts}
use Rattle.cryfs_shell.specs.session_laws.Openings.{HasPassword}
use Rattle.run_status.specs.Statuses.{first_of}
use Rattle.run_status.specs.declared.status.Status.{Status}
use Rattle.run_status.specs.declared.status.Status.TheVariants.{Done}
use Rattle.cryfs_shell.specs.session_lines.declared.end.End.{End}
use Rattle.cryfs_shell.specs.session_laws.Runs.{Outside, OutsideStandsFor}
use Rattle.cryfs_shell.specs.run_frame.Statuses.{session_status}
use Rattle.cryfs_shell.specs.program_words.declared.form.Form.{Form}
use Rattle.cryfs_shell.specs.program_words.declared.form.Form.TheVariants.{Create}
use Rattle.cryfs_shell.specs.program_words.Forms.{form_of}
use Rattle.cryfs_shell.specs.mount_core.Showing.{ShowsFiles}
use Rattle.cryfs_shell.specs.session_laws.Histories.{Run, session, quiet, examined, migrated, looked, before_of, after_of, IsRun, IsUnforgedRun, GoesOnFrom, end_of, Follow, EndsWith}
use Rattle.cryfs_shell.specs.Clauses.{IsRefusingStatus, NoFalseAlarm, TellsFaults}
use Rattle.cryfs_shell.specs.History.{Comes, Judges, Meets}
use Rattle.cryfs_shell.specs.Kinds.{opens, heeds_mark, is_session, is_check, is_migration, is_look}
use Rattle.program_run.specs.Calls.{RunCall, IsRunCall}

-- the run's password is this one; a look names none
abbrev pub IsUnder : List ℕ → Run → Type 0
IsUnder first (session password before after closing es) = password ≡ first
IsUnder first (quiet password before after) = password ≡ first
IsUnder first (examined password before after bad) = password ≡ first
IsUnder first (migrated password before after bad) = password ≡ first
IsUnder first (looked before after) = Unit {0}

-- In a session the exchanges came so, and the status is theirs, or its own where nothing else is the matter. A check was judged so, and blocks that were written anew met so a violation or none. In a run of no lines the words ask for none of these, or nothing was
-- written and the status isn't Done. Only a look is one.
abbrev pub CallAnswered : RunCall → Option Form → Run → Type 0
CallAnswered call asked (session password before after closing es) =
    (script : Option (List ℕ)) × HasPassword call.streams.input password script
    × (end : End) × (own : Status) × Comes call.words call.now call.streams asked script end own es × (call.status ≡ first_of (session_status (violated es) end closing) own)
CallAnswered call asked (quiet password before after) = (is_session asked || is_check asked || is_migration asked) ≡ true → Untouched call.streams.output × (call.status ≢ Done)
CallAnswered call asked (examined password before after bad) = (after : Option (List ℕ)) × HasPassword call.streams.input password after × Judges asked call.status bad
CallAnswered call asked (migrated password before after bad) = (after : Option (List ℕ)) × HasPassword call.streams.input password after × Meets asked call.status bad
CallAnswered call asked (looked before after) = is_look asked ≡ true

-- the call is this run
pub record IsRunOf (call : RunCall) (run : Run) : Type 0 where
  pub is_run : IsRun ShowsFiles run
  pub begins : before_of run ≡ call.before
  pub ends : after_of run ≡ call.after
  -- its password is the first line of the input, where that is told
  pub password : (bytes : List ℕ) → call.streams.input.old ≡ Some bytes → IsUnder (first_line bytes) run
  pub answered : CallAnswered call (form_of call.words) run
  -- over a marked record the status refuses, and nothing is written, but by a look
  pub refused : heeds_mark (form_of call.words) ≡ true → IsKeptMarked records call.before.kept → IsRefusingStatus call.status × Untouched call.streams.output
  -- where the directory gave what was last written and no other configuration opens at all, it is no violation, but of a look; and it names the faults that happened
  pub no_false_alarm : is_look (form_of call.words) ≡ false → NoFalseAlarm call.streams.input call.before call.after call.status
  pub faults_told : TellsFaults (form_of call.words) call.streams call.before call.after call.status

-- the words are those of `create`
abbrev pub creates : Option Form → Bool
creates (Some (Create options)) = true
creates asked = false

-- A call that opens a file system is a run. Any other leaves what is kept and the calls on the directory, `create` where something is kept.
abbrev pub OneRun : {V : Type 0} → {K : Type 0} → (V → Option (List Call)) → (V → ℕ) → (V → Option (List (List ℕ))) → KeeperGhosts K → Type 0
OneRun trace faults names G = (call : RunCall) → IsRunCall trace faults names G call
    → (opens (form_of call.words) ≡ true → (run : Run) × IsRunOf call run)
    × (opens (form_of call.words) ≡ false → (creates (form_of call.words) ≡ true → is_some call.before.kept ≡ true) → GoesOnFrom call.before call.after)

-- where the calls left all
abbrev pub left_by : Outside → List RunCall → Outside
left_by start [] = start
left_by start (call ∷ calls) = call.after

-- each goes on from what the one before it left
abbrev pub AreRunCalls : {V : Type 0} → {K : Type 0} → (V → Option (List Call)) → (V → ℕ) → (V → Option (List (List ℕ))) → KeeperGhosts K → Outside → List RunCall → Type 0
AreRunCalls trace faults names G start [] = Unit {0}
AreRunCalls trace faults names G start (call ∷ calls) = IsRunCall trace faults names G call × GoesOnFrom (left_by start calls) call.before × AreRunCalls trace faults names G start calls

-- the runs are those calls that open a file system, in their order
abbrev pub AreRunsOf : List RunCall → List Run → Type 0
AreRunsOf [] [] = Unit {0}
AreRunsOf [] (run ∷ runs) = ⊥
AreRunsOf (call ∷ calls) [] = (opens (form_of call.words) ≡ false) × AreRunsOf calls []
AreRunsOf (call ∷ calls) (run ∷ runs) =
    ((opens (form_of call.words) ≡ true) × IsRunOf call run × AreRunsOf calls runs)
    ⊎ ((opens (form_of call.words) ≡ false) × AreRunsOf calls (run ∷ runs))

-- nothing that opens was forged in any of them
abbrev pub AreUnforged : Settings → List Run → Type 0
AreUnforged c [] = Unit {0}
AreUnforged c (run ∷ runs) = IsUnforgedRun c run × AreUnforged c runs

-- Where nothing that opens was forged, there are trees: each run serves from the tree that the one before it left, or after a violation is refused. At last the last tree is kept,
-- or after a violation a marked record, and the calls left just that.
abbrev pub CallsCompose : Settings → Tree → Outside → List RunCall → List Run → Type 0
CallsCompose c first start calls runs = AreUnforged c runs
    → (trees : List Tree) × Follow ShowsFiles c first runs trees × EndsWith ShowsFiles c first start runs trees × GoesOnFrom (end_of start runs) (left_by start calls)

-- whatever the directory returns, loses or refuses in any list of calls, from any tree on that is kept
abbrev pub EveryListOfRuns : {V : Type 0} → {K : Type 0} → (V → Option (List Call)) → (V → ℕ) → (V → Option (List (List ℕ))) → KeeperGhosts K → Type 0
EveryListOfRuns trace faults names G = (start : Outside) (calls : List RunCall) → AreRunCalls trace faults names G start calls
    → (runs : List Run) × AreRunsOf calls runs × ((c : Settings) (first : Tree) → OutsideStandsFor ShowsFiles c first start → CallsCompose c first start calls runs)

-- and from a `create` on that ended with Done over a directory that nothing was put in
abbrev pub EveryListFromCreate : {V : Type 0} → {K : Type 0} → (V → Option (List Call)) → (V → ℕ) → (V → Option (List (List ℕ))) → KeeperGhosts K → Type 0
EveryListFromCreate trace faults names G = (made : RunCall) (options : CreateOptions) (calls : List RunCall) → IsRunCall trace faults names G made → form_of made.words ≡ Some (Create options)
    → made.status ≡ Done → IsUnchanged made.before.calls → AreRunCalls trace faults names G made.after calls
    → (runs : List Run) × AreRunsOf calls runs × CallsCompose (new_settings options.block_size (drawn made.streams.chance).0) empty_tree made.after calls runs
