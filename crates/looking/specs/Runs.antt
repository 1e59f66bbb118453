-- What a look did: it read no password, or it found no files, or it answered one line over them.
use Rattle.std.specs.Prelude.{◌≡◌, ◌⊎◌, ◌≤◌, ◌-◌, ℕ, true, false, List, Ok, Err, is_some}
use Rattle.std.specs.declared.option.Option.{Option}
use Rattle.fs_model.specs.Instant.{Instant}
use Rattle.fs_model.specs.Tree.{Tree}
use Rattle.fs_model.specs.declared.reply.Reply.TheVariants.{Error}
use Rattle.outside.specs.Honest.{count_told}
use Rattle.outside.specs.Trace.{Call}
use Rattle.found_blocks.specs.Finding.{Finding, content_of, is_twin}
use Rattle.found_blocks.specs.Reads.{FoundSince, GaveWrong, passes}
use Rattle.found_blocks.specs.store_api.Content.{Id}
use Rattle.found_blocks.specs.declared.store.FoundStore.{FoundStore}
use Rattle.looking.specs.Finding.{BeginsLook, IsUnbegun, calls_in, faults_in, finding_in}
use Rattle.looking.specs.Hosting.{IsUnchanging, TellsFault, store_of}
use Rattle.looking.specs.declared.host.Looked.{Looked}
use Rattle.run_status.specs.declared.ended.Ended.{Ended}
use Rattle.run_status.specs.declared.status.Status.{Status}
use Rattle.session_laws.specs.Openings.{HasPassword, IsUnread}
use Rattle.session_laws.specs.Resting.{AsksNoChange, OnlyGot}
use Rattle.session_laws.specs.answers.Sessions.{Asked, FollowsAsked, is_violation}
use Rattle.session_laws.specs.answers.Texts.{text_of_answer}
use Rattle.session_laws.specs.answers.declared.answer.Answer.{Answer}
use Rattle.session_laws.specs.answers.declared.answer.Answer.TheVariants.{Reply as Replied, Memory}
use Rattle.session_laws.specs.config_file.declared.config.Cipher.{Cipher}
use Rattle.session_laws.specs.line_io.Streams.{Stream, Untouched}
use Rattle.session_laws.specs.mount_core.Answers.{Notices, OnFound, OnReply, is_structure}
use Rattle.session_laws.specs.mount_core.path_layer.Performing.{IsReplyTo}
use Rattle.session_laws.specs.mount_core.path_layer.Showing.{ShowsFiles}
use Rattle.session_laws.specs.mount_stores.declared.error.OpenError.{OpenError}
use Rattle.session_laws.specs.run_frame.Passwords.{PasswordUnread}
use Rattle.session_laws.specs.run_frame.Statuses.{opening_status, session_status}
use Rattle.mount_answering.specs.script_text.Grammar.{command_of}
use Rattle.session_laws.specs.session_lines.Driven.{IsUnfailed, Reported}
use Rattle.session_laws.specs.session_lines.declared.end.End.{End}

-- How many twins were given: files that open to the client and the version of a found block, with another payload than was found.
abbrev pub twins : Finding → Option (List Call) → ℕ
twins f calls = count_told (passes is_twin f) calls

-- a reply is one to this command; a line that is none gets its error, or finds no memory
abbrev pub HasForm : Asked → Answer → Type 0
HasForm (Ok command) answer = OnReply answer (IsReplyTo command)
HasForm (Err error) answer = (answer ≡ Replied (Error error)) ⊎ (answer ≡ Memory)

-- Where the found blocks show a tree from this root on, and no twin came since, what was asked follows from that tree, and no violation names the structure.
-- What would change the tree isn't done.
pub record Sees (f : Finding) (root : Id) (now : Instant) (asked : Asked) (answer : Answer) (old new : Option (List Call)) : Type 0 where
  pub follows : (tree : Tree) → AsksNoChange asked → ShowsFiles (f.size - 78) root (content_of f) tree → is_some old ≡ true → twins f new ≤ twins f old → FollowsAsked now tree asked answer tree × (is_structure answer ≡ false)
  pub unchanged : (AsksNoChange asked → ⊥) → IsUnchanging answer
  pub form : HasForm asked answer

-- Only found blocks were asked for. A violation names a wrong file that was given, no wrong file is passed over, and a fault is told just where one happened.
pub record IsTold (f : Finding) (answer : Answer) (old new : Option (List Call)) (before after : ℕ) : Type 0 where
  pub only_got : OnlyGot old new
  pub met : OnFound answer (FoundSince f old new)
  pub noticed : Notices answer (GaveWrong f old new)
  pub fault : TellsFault answer before after
  pub grows : before ≤ after

-- One line was answered over what was found, its answer was written, and this is the status.
pub record IsAnsweredLook {V : Type 0} (trace : V → Option (List Call)) (faults : V → ℕ) (now : Instant) (line : List ℕ) (l : Looked (FoundStore V Cipher)) (output : Stream) (status : Status) (vault : V) : Type 0 where
  pub answer : Answer
  pub end : End
  pub sees : Sees (finding_in (store_of l)) l.root.0 now (command_of line) answer (calls_in trace (store_of l)) (trace vault)
  pub told : IsTold (finding_in (store_of l)) answer (calls_in trace (store_of l)) (trace vault) (faults_in faults (store_of l)) (faults vault)
  pub written : Reported output (text_of_answer answer) end
  pub status_is : status ≡ session_status (is_violation answer) end (Ok tt)

-- Under the password blocks were found, and the line was answered over them.
pub record LookedAt {V : Type 0} {K : Type 0} (trace : V → Option (List Call)) (faults : V → ℕ) (password : List ℕ) (now : Instant) (line : List ℕ) (output : Stream) (vault : V) (ended : Ended V K) : Type 0 where
  pub looked : Looked (FoundStore V Cipher)
  pub begins : BeginsLook trace faults password vault looked
  pub answered : IsAnsweredLook trace faults now line looked output ended.status ended.vault

-- Under the password none were found, for this cause, and nothing was written.
pub record LookedInVain {V : Type 0} {K : Type 0} (trace : V → Option (List Call)) (faults : V → ℕ) (password : List ℕ) (output : Stream) (vault : V) (ended : Ended V K) : Type 0 where
  pub error : OpenError
  pub unbegun : IsUnbegun trace faults password vault (record { error = error; vault = ended.vault })
  pub status_is : ended.status ≡ opening_status error
  pub unwritten : Untouched output

-- The password line wasn't read and nothing was done; or under its password no blocks were found, or one line was answered over them.
abbrev pub RanLook : {V : Type 0} → {K : Type 0} → (V → Option (List Call)) → (V → ℕ) → Instant → List ℕ → Stream → Stream → V → K → Ended V K → Type 0
RanLook trace faults now line input output vault keeper ended =
    IsUnread (PasswordUnread input) output vault keeper ended
    ⊎ ((password : List ℕ) × (script : Option (List ℕ)) × HasPassword input password script × IsUnfailed input
    × (LookedInVain trace faults password output vault ended ⊎ LookedAt trace faults password now line output vault ended))
