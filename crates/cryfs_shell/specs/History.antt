-- A call of the program as a run of one file system.
use Rattle.std.specs.Prelude.{◌≡◌, ℕ, Bool, true, false, List}
use Rattle.std.specs.declared.option.Option.{Option}
use Rattle.std.specs.declared.option.Option.TheVariants.{Some}
use Rattle.trial_runs.specs.answers.Sessions.{Exchange}
use Rattle.copy_runs.specs.Copies.{Imports, Exports, ImportsTimes, ExportsTimes}
use Rattle.cryfs_shell.specs.Kinds.{is_look}
use Rattle.cryfs_shell.specs.Streams.{Streams}
use Rattle.fs_model.specs.Instant.{Instant}
use Rattle.session_laws.specs.Histories.{Run, session, quiet, examined, migrated, looked, before_of, after_of, IsRun}
use Rattle.run_status.specs.declared.status.Status.{Status}
use Rattle.run_status.specs.declared.status.Status.TheVariants.{Violation}
use Rattle.trial_runs.specs.line_io.Streams.{Stream}
use Rattle.trial_runs.specs.session_lines.declared.end.End.{End}
use Rattle.session_laws.specs.Openings.{HasPassword}
use Rattle.session_laws.specs.Runs.{Outside}
use Rattle.copy_runs.specs.copy_file.Coming.{ComesPut, ComesGet}
use Rattle.copy_runs.specs.shell_runs.Sessions.{ComesShell, ComesGenerated, ComesCommand}
use Rattle.program_words.specs.declared.form.Form.{Form}
use Rattle.program_words.specs.declared.form.Form.TheVariants.{Migrate, Shell, Generate, Command, Import, Export, ImportTimes, ExportTimes, Put, Get, Check}
use Rattle.program_words.specs.Forms.{form_of, is_create, joined}
use Rattle.check_runs.specs.mount_core.Showing.{ShowsFiles}

-- how the exchanges of what the words ask for come from what follows the password line, and are written; only sessions have some
abbrev pub Comes : List (List ℕ) → Instant → Streams → Option Form → Option (List ℕ) → End → Status → List Exchange → Type 0
Comes words now s (Some Shell) = ComesShell now s.input s.output
Comes words now s (Some (Generate count)) = ComesGenerated now count s.input s.output
Comes words now s (Some Command) = ComesCommand now (joined words) s.input s.output
Comes words now s (Some (Import path)) = Imports now path s.host s.input s.output
Comes words now s (Some (Export path)) = Exports now path s.host s.input s.output
Comes words now s (Some (ImportTimes path)) = ImportsTimes now path s.host s.input s.output
Comes words now s (Some (ExportTimes path)) = ExportsTimes now path s.host s.input s.output
Comes words now s (Some (Put path)) = ComesPut now path s.input s.output
Comes words now s (Some (Get path)) = ComesGet now path s.input s.output
Comes words now s asked = λ script end own es. ⊥

-- a check is bad exactly where the status is a violation; no other form is a check
abbrev pub Judges : Option Form → Status → Bool → Type 0
Judges (Some Check) status bad = (bad ≡ true → status ≡ Violation) × (status ≡ Violation → bad ≡ true)
Judges asked status bad = ⊥

-- blocks that are written anew meet a violation exactly where the status is one; no other form writes them
abbrev pub Meets : Option Form → Status → Bool → Type 0
Meets (Some Migrate) status bad = (bad ≡ true → status ≡ Violation) × (status ≡ Violation → bad ≡ true)
Meets asked status bad = ⊥

-- Under the password of this input the exchanges of a run came so; its check was judged so, it met so a violation or none, or it may have looked.
abbrev pub HasCome : Stream → (Option (List ℕ) → End → Status → List Exchange → Type 0) → (Bool → Type 0) → (Bool → Type 0) → Type 0 → Run → Type 0
HasCome input Came Judged Met Looks (session password before after closing es) =
    (script : Option (List ℕ)) × HasPassword input password script × (end : End) × (own : Status) × Came script end own es
HasCome input Came Judged Met Looks (quiet password before after) = Unit {0}
HasCome input Came Judged Met Looks (examined password before after bad) = Judged bad
HasCome input Came Judged Met Looks (migrated password before after bad) = Met bad
HasCome input Came Judged Met Looks (looked before after) = Looks

-- the call led from the one moment outside to the other as this run, which is one of those that compose
pub record IsRunOf (input : Stream) (Came : Option (List ℕ) → End → Status → List Exchange → Type 0) (Judged Met : Bool → Type 0) (Looks : Type 0) (before after : Outside) (run : Run) : Type 0 where
  pub is_run : IsRun ShowsFiles run
  pub came : HasCome input Came Judged Met Looks run
  pub begins : before_of run ≡ before
  pub ends : after_of run ≡ after

-- words of a form that isn't that of `create` made the call such a run
abbrev pub HasHistory : List (List ℕ) → Instant → Streams → Outside → Outside → Status → Type 0
HasHistory words now s before after status = (form : Form) → form_of words ≡ Some form → is_create words ≡ false
    → (run : Run) × IsRunOf s.input (Comes words now s (Some form)) (Judges (Some form) status) (Meets (Some form) status) (is_look (Some form) ≡ true) before after run
