-- What a run of the program wrote.
use Rattle.std.specs.Prelude.{◌≡◌, ℕ, Bool, true, false, List, ◌++◌}
use Rattle.std.specs.declared.option.Option.{Option}
use Rattle.std.specs.declared.option.Option.TheVariants.{Some}
use Rattle.cryfs_shell.specs.answers.Sessions.{Exchange, AllAt, IsSession}
use Rattle.cryfs_shell.specs.config_file.Settings.{Settings}
use Rattle.fs_model.specs.Instant.{Instant}
use Rattle.fs_model.specs.Tree.{Tree}
use Rattle.cryfs_shell.specs.session_lines.Asking.{said_in}
use Rattle.cryfs_shell.specs.session_laws.Runs.{Outside, IsFounded}
use Rattle.program_inputs.specs.program_words.declared.form.Form.{Form}
use Rattle.program_inputs.specs.program_words.declared.form.Form.TheVariants.{Shell, Command}
use Rattle.program_inputs.specs.program_words.Forms.{form_of}
use Rattle.cryfs_shell.specs.mount_core.Showing.{ShowsFiles}

-- what was written behind the old bytes are the texts of the answers of a session of the plain tree from this tree on, all at this moment; some of them may be cut off at the end
pub record WroteSession (now : Instant) (first : Tree) (old new : List ℕ) : Type 0 where
  pub es : List Exchange
  pub trees : List Tree
  pub moments : AllAt now es
  pub replies : IsSession first es trees
  pub cut : List ℕ
  pub texts : old ++ said_in es ≡ new ++ cut

-- the words ask for answers to lines
abbrev pub answers_lines : Option Form → Bool
answers_lines (Some Shell) = true
answers_lines (Some Command) = true
answers_lines _ = false

-- where what was kept and the calls stood for a tree, and nothing that opens was forged since, it wrote a session from that tree on
abbrev pub WritesSession : List (List ℕ) → Instant → Outside → Outside → List ℕ → List ℕ → Type 0
WritesSession words now before after old new = answers_lines (form_of words) ≡ true
    → (c : Settings) (first : Tree) → ((password : List ℕ) → IsFounded ShowsFiles password c first before after) → WroteSession now first old new
