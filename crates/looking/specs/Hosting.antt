-- What looks over a store of blocks answer, and what they leave.
use Rattle.std.specs.Prelude.{◌≡◌, ◌⊎◌, ◌≤◌, ℕ, true, false, ◌||◌}
use Rattle.std.specs.FinMap as fin
use Rattle.std.specs.declared.result.Result.TheVariants.{Ok, Err}
use Rattle.fs_model.specs.Instant.{Instant}
use Rattle.fs_model.specs.Laws.{OnlyLooks}
use Rattle.fs_model.specs.Tree.{Tree}
use Rattle.fs_model.specs.declared.command.Command.{Command}
use Rattle.outside.specs.Causes.{RoseBy}
use Rattle.mount_answering.specs.answers.Hosts.{Hosting}
use Rattle.mount_answering.specs.answers.Sessions.{Asked, FollowsAsked, is_violation, is_refused}
use Rattle.mount_answering.specs.answers.declared.answer.Answer.{Answer}
use Rattle.mount_answering.specs.answers.declared.answer.Answer.TheVariants.{Reply as Replied, Memory, Spent, FaultDirectory, FaultState, Violation, Refused}
use Rattle.fs_model.specs.declared.reply.Reply.TheVariants.{Error}
use Rattle.mount_answering.specs.mount_core.Answers.{Notices, OnFound, OnReply, is_structure}
use Rattle.mount_answering.specs.mount_core.path_layer.Performing.{IsReplyTo}
use Rattle.mount_answering.specs.mount_core.path_layer.Showing.{ShowsFiles}
use Rattle.mount_answering.specs.store_api.Holdings.{Holdings}
use Rattle.mount_answering.specs.store_api.Txs.{intact_in}
use Rattle.mount_answering.specs.store_outcome.Meanings.{Meanings}
use Rattle.looking.specs.declared.host.Looked.{Looked}

abbrev pub store_of : {S : Type 0} → Looked S → S
store_of l = l.blobs.tx.store

-- the store is intact, and there are no changes over it
pub record IsReady {S : Type 0} (M : Meanings S) (H : Holdings S) (l : Looked S) : Type 0 where
  pub intact : intact_in M H l.blobs.tx
  pub empty : l.blobs.tx.overlay ≡ fin.empty

-- a fault is told just where the count of faults rose
abbrev pub TellsFault : Answer → ℕ → ℕ → Type 0
TellsFault FaultDirectory before now = RoseBy 1 before now
TellsFault FaultState before now = ⊥
TellsFault (Replied reply) before now = now ≡ before
TellsFault Memory before now = now ≡ before
TellsFault Spent before now = now ≡ before
TellsFault (Violation why) before now = now ≡ before
TellsFault Refused before now = now ≡ before

-- what would change the tree is answered so
abbrev pub IsUnchanging : Answer → Type 0
IsUnchanging answer = (answer ≡ Spent) ⊎ (answer ≡ Memory)

-- The blocks were only loaded, whatever came: a violation names what was met, a fault is told just where one happened, and no wrong file is passed over.
pub record LoadsTold {S : Type 0} (M : Meanings S) (a b : S) (answer : Answer) : Type 0 where
  pub loaded : M.loaded a b
  pub sound : M.sound a → M.forgeries b ≤ M.forgeries a → M.sound b
  pub met : OnFound answer (M.met a b)
  pub faults : TellsFault answer (M.faults a) (M.faults b)
  pub noticed : Notices answer (M.gave a b)

-- Where the blocks show a tree from the root on, over a sound store and without a forgery, what was asked follows from it and leaves it, and no violation names the structure.
abbrev pub SeesTree : {S : Type 0} → Meanings S → Holdings S → Instant → Looked S → Asked → Answer → S → Type 0
SeesTree M H now old asked answer b = (tree : Tree) → ShowsFiles (H.payload (store_of old)) old.root.0 (H.content (store_of old)) tree → M.sound (store_of old) → M.forgeries b ≤ M.forgeries (store_of old)
    → FollowsAsked now tree asked answer tree × (is_structure answer ≡ false)

-- a command was answered, where nothing was refused, and the store is so afterwards
pub record IsLook {S : Type 0} (M : Meanings S) (H : Holdings S) (now : Instant) (old : Looked S) (command : Command) (answer : Answer) (b : S) : Type 0 where
  pub loads : LoadsTold M (store_of old) b answer
  pub served : is_refused answer ≡ false
  pub form : OnReply answer (IsReplyTo command)
  pub looks : OnlyLooks command → SeesTree M H now old (Ok command) answer b
  pub changes : (OnlyLooks command → ⊥) → IsUnchanging answer

-- what is said of a command, and of a line that is none
abbrev pub IsAskedLook : {S : Type 0} → Meanings S → Holdings S → Instant → Looked S → Asked → Answer → Looked S → Type 0
IsAskedLook M H now old (Ok command) answer new = OnReply answer (IsReplyTo command) × (OnlyLooks command → SeesTree M H now old (Ok command) answer (store_of new)) × ((OnlyLooks command → ⊥) → IsUnchanging answer)
IsAskedLook M H now old (Err error) answer new = (answer ≡ Replied (Error error)) ⊎ (answer ≡ Memory)

-- Asked this, it gave this answer. After a violation each is refused, and nothing is asked.
pub record LookAnswers {S : Type 0} (M : Meanings S) (H : Holdings S) (now : Instant) (old : Looked S) (asked : Asked) (answer : Answer) (new : Looked S) : Type 0 where
  pub loads : LoadsTold M (store_of old) (store_of new) answer
  pub root : new.root ≡ old.root
  pub flag : new.violated ≡ (is_violation answer || old.violated)
  pub refusal : is_refused answer ≡ old.violated
  pub idle : old.violated ≡ true → new ≡ old
  pub asked_of : old.violated ≡ false → IsAskedLook M H now old asked answer new

abbrev pub looked_hosting : {S : Type 0} → Meanings S → Holdings S → Hosting (Looked S)
looked_hosting M H = record {
  ready = λ l. IsReady M H l;
  refuses = λ l. l.violated;
  chance = λ l. 0;
  answers = λ old now asked answer new. LookAnswers M H now old asked answer new;
}
