-- What a run wrote, from what it did.
use Rattle.std.proofs.Common.{◌≡◌, ◌++◌, ℕ, true, List, [], ◌∷◌, refl, sym, ap, subst, ◌∙◌, append-nil, append_assoc, inl, inr}
use Rattle.std.specs.declared.option.Option.{Option}
use Rattle.std.specs.declared.option.Option.TheVariants.{None, Some}
use Rattle.cryfs_shell.specs.answers.Sessions.{Exchange, AllAt}
use Rattle.cryfs_shell.specs.answers.Texts.{text_of_answer}
use Rattle.cryfs_shell.specs.config_file.Settings.{Settings}
use Rattle.cryfs_shell.specs.Doing.{Did}
use Rattle.cryfs_shell.specs.shell_runs.Hosts.{HostSeen}
use Rattle.cryfs_shell.specs.Streams.{streams_of}
use Rattle.fs_model.specs.Instant.{Instant}
use Rattle.fs_model.specs.Tree.{Tree}
use Rattle.cryfs_shell.specs.line_io.Streams.{Stream, Untouched, Cut}
use Rattle.outside.specs.Streams.{appends}
use Rattle.outside.specs.Trace.{Call}
use Rattle.outside.specs.declared.keeper.Keeper.{Ghosts as KeeperGhosts}
use Rattle.rand_core.specs.Stream.{Stream as Chance}
use Rattle.program_run.specs.Calls.{RunCall, IsRunCall}
use Rattle.run_status.specs.declared.ended.Ended.{Ended}
use Rattle.run_status.specs.declared.status.Status.{Status}
use Rattle.cryfs_shell.specs.session_lines.Asking.{said_in, CutLast, single}
use Rattle.cryfs_shell.specs.session_lines.declared.end.End.{End}
use Rattle.cryfs_shell.specs.session_lines.declared.end.End.TheVariants.{Finished, InputFault, OutputFault}
use Rattle.cryfs_shell.specs.session_laws.Runs.{Outside, outside_of, IsFounded}
use Rattle.cryfs_shell.specs.shell_runs.Sessions.{Session, IsServed, ComesShell, ComesCommand}
use Rattle.program_inputs.specs.program_words.declared.form.Form.{Form}
use Rattle.program_inputs.specs.program_words.declared.form.Form.TheVariants.{Trial, TrialGenerate, Create, Info, Passwd, Migrate, Shell, Generate, Command, Import, Export, ImportTimes, ExportTimes, Put, Get, Check, Survey, Look}
use Rattle.program_inputs.specs.program_words.Forms.{form_of, joined}
use Rattle.cryfs_shell.specs.mount_core.Showing.{ShowsFiles}
use Rattle.program_run.specs.Program.{told, program_call}
use Rattle.program_run.specs.Written.{WroteSession, answers_lines, WritesSession}

abbrev bytes_in : Option (List ℕ) → List ℕ
bytes_in None = []
bytes_in (Some bytes) = bytes

-- the texts, and what is cut off at their end
abbrev Told : List ℕ → List ℕ → List Exchange → Type 0
Told old new es = (cut : List ℕ) × (old ++ said_in es ≡ new ++ cut)

whole : (old new : List ℕ) (es : List Exchange) → Some new ≡ appends (Some old) (said_in es) → Told old new es
whole old new es written = ([], sym (append-nil new ∙ ap bytes_in written))

part_of : (old new text : List ℕ) → Cut (Some old) (Some new) text → (cut : List ℕ) × (old ++ text ≡ new ++ cut)
part_of old new text (part, rest, all, written) =
    (rest, ap (λ (xs : List ℕ). old ++ xs) all ∙ sym (append_assoc old part rest) ∙ ap (λ (xs : List ℕ). xs ++ rest) (sym (ap bytes_in written)))

cut_last : (old new : List ℕ) (es : List Exchange) → CutLast (Some old) (Some new) es → Told old new es
cut_last old new [] cut = absurd cut
cut_last old new (e ∷ es) cut =
    let part = part_of (old ++ said_in es) new (text_of_answer e.answer) cut in
    (part.0, sym (append_assoc old (said_in es) (text_of_answer e.answer)) ∙ part.1)

module _ {V : Type 0} {K : Type 0} (trace : V → Option (List Call)) (faults : V → ℕ) (names : V → Option (List (List ℕ))) (G : KeeperGhosts K) (words : List (List ℕ)) (now : Instant) (chance left : Chance) (input : Stream) (old new : List ℕ) (f r : ℕ) (host : HostSeen) (before after : Outside) (status : Status) where
  abbrev Output : Stream
  Output = told old new f r

  abbrev Ran : RunCall
  Ran = program_call words now (streams_of input Output host chance left) before after status

  shell_told : (script : Option (List ℕ)) (end : End) (own : Status) (es : List Exchange) → ComesShell now input Output script end own es → AllAt now es × Told old new es
  shell_told script Finished own es came = (came.0, whole old new es came.1.0.written)
  shell_told script InputFault own es came = (came.0, whole old new es came.1.0.written)
  shell_told script OutputFault own es came = (came.0, cut_last old new es came.1.0.written)

  command_told : (line : List ℕ) (script : Option (List ℕ)) (end : End) (own : Status) (es : List Exchange) → ComesCommand now line input Output script end own es → AllAt now es × Told old new es
  command_told line script Finished own es (((answer, same, written), unfailed), done) = (subst (AllAt now) (sym same) (refl, tt), subst (Told old new) (sym same) (whole old new (single now line answer) written.0))
  command_told line script InputFault own es (((answer, same, written), unfailed), done) = absurd written
  command_told line script OutputFault own es (((answer, same, written), unfailed), done) = (subst (AllAt now) (sym same) (refl, tt), subst (Told old new) (sym same) (part_of old new (text_of_answer answer) written.0))

  module _ (vault : V) (keeper : K) (ended : Ended V K) (c : Settings) (first : Tree) (founded : (password : List ℕ) → IsFounded ShowsFiles password c first (outside_of trace faults G vault keeper) (outside_of trace faults G ended.vault ended.keeper)) where
    nothing : Untouched Output → WroteSession now first old new
    nothing untouched = record { es = []; trees = []; moments = tt; replies = tt; cut = []; texts = ap (λ (xs : List ℕ). xs ++ []) (sym (ap bytes_in untouched.0)) }

    served : (Came : End → Status → List Exchange → Type 0) → ((end : End) (own : Status) (es : List Exchange) → Came end own es → AllAt now es × Told old new es) → (password : List ℕ) → IsServed trace faults G password Came vault keeper ended → WroteSession now first old new
    served Came tells password s =
        let answers = s.session.founded c first (founded password) in
        let texts = tells s.end s.own s.es s.came in
        record { es = s.es; trees = answers.trees; moments = texts.0; replies = answers.replies; cut = texts.1.0; texts = texts.1.1 }

    session : (Came : Option (List ℕ) → End → Status → List Exchange → Type 0) → ((script : Option (List ℕ)) (end : End) (own : Status) (es : List Exchange) → Came script end own es → AllAt now es × Told old new es) → Session trace faults G Came input Output vault keeper ended → WroteSession now first old new
    session Came tells (inl u) = nothing u.unwritten
    session Came tells (inr (password, script, has, inl ((error, u), unfailed, unwritten))) = nothing unwritten
    session Came tells (inr (password, script, has, inr s)) = served (Came script) (tells script) password s

    did : (asked : Option Form) → answers_lines asked ≡ true → Did trace faults names G words now Ran.streams vault keeper ended asked → WroteSession now first old new
    did None e d = absurd (cc)
    did (Some Trial) e d = absurd (cc)
    did (Some (TrialGenerate count)) e d = absurd (cc)
    did (Some (Create options)) e d = absurd (cc)
    did (Some Info) e d = absurd (cc)
    did (Some Passwd) e d = absurd (cc)
    did (Some Shell) e d = session (ComesShell now input Output) shell_told d
    did (Some (Generate count)) e d = absurd (cc)
    did (Some Command) e d = session (ComesCommand now (joined words) input Output) (command_told (joined words)) d
    did (Some (Import path)) e d = absurd (cc)
    did (Some (Export path)) e d = absurd (cc)
    did (Some (ImportTimes path)) e d = absurd (cc)
    did (Some (ExportTimes path)) e d = absurd (cc)
    did (Some (Put path)) e d = absurd (cc)
    did (Some (Get path)) e d = absurd (cc)
    did (Some Check) e d = absurd (cc)
    did (Some Survey) e d = absurd (cc)
    did (Some Look) e d = absurd (cc)
    did (Some Migrate) e d = absurd (cc)

  pub wrote : IsRunCall trace faults names G Ran → WritesSession words now before after old new
  wrote h asked c first founded =
      let within = λ (password : List ℕ). subst (λ (o : Outside). IsFounded ShowsFiles password c first o (outside_of trace faults G h.ended.vault h.ended.keeper)) h.begins
      (subst (λ (o : Outside). IsFounded ShowsFiles password c first before o) h.ends (founded password)) in
      did h.vault h.keeper h.ended c first within (form_of words) asked h.did
