-- Sessions: what was asked, the answers, and the trees that they leave. The newest stands first.
use Rattle.std.specs.Prelude.{◌≡◌, ◌⊎◌, ℕ, ◌+◌, Bool, true, false, ◌||◌, ◌&&◌, List, [], ◌∷◌, Result, Ok, Err}
use Rattle.fs_model.specs.declared.command.Command.{Command}
use Rattle.fs_model.specs.declared.command.Command.TheVariants.{Sync}
use Rattle.fs_model.specs.declared.error.FsError.{FsError}
use Rattle.fs_model.specs.declared.reply.Reply.{Reply}
use Rattle.fs_model.specs.declared.reply.Reply.TheVariants.{Done, Rows, Info, Target, Content, Error}
use Rattle.fs_model.specs.Instant.{Instant}
use Rattle.fs_model.specs.Laws.{OnlyLooks}
use Rattle.fs_model.specs.Step.{step}
use Rattle.fs_model.specs.Tree.{Tree}
use Rattle.answers.specs.declared.answer.Answer.{Answer}
use Rattle.answers.specs.declared.answer.Answer.TheVariants.{Reply as Replied, Memory, Spent, FaultDirectory, FaultState, Violation, Refused}

-- a command, or the error of a line that is none
abbrev pub Asked : Type 0
Asked = Result Command FsError

-- what was asked, at which moment, and the answer
pub record Exchange : Type 0 where
  pub at : Instant
  pub asked : Asked
  pub answer : Answer

-- all were asked at this moment
abbrev pub AllAt : Instant → List Exchange → Type 0
AllAt now [] = Unit {0}
AllAt now (e ∷ es) = (e.at ≡ now) × AllAt now es

-- the reply is an error
abbrev pub IsError : Reply → Type 0
IsError (Error error) = Unit {0}
IsError _ = ⊥

-- Before a violation: from this tree, the command may get this answer and lead to that tree. A reply is the tree's; any other answer leaves the
-- tree. Spent is no answer to a command that only looks, or that the tree refuses.
abbrev pub Follows : Instant → Tree → Command → Answer → Tree → Type 0
Follows now tree command (Replied reply) next = step tree now command ≡ record { reply = reply; tree = next }
Follows now tree command Spent next = (OnlyLooks command → ⊥) × (IsError (step tree now command).reply → ⊥) × (next ≡ tree)
Follows now tree command Refused next = ⊥
Follows now tree command Memory next = next ≡ tree
Follows now tree command FaultDirectory next = next ≡ tree
Follows now tree command FaultState next = next ≡ tree
Follows now tree command (Violation why) next = next ≡ tree

-- a line that is none gets its error, or finds no memory, and leaves the tree
abbrev pub FollowsAsked : Instant → Tree → Asked → Answer → Tree → Type 0
FollowsAsked now tree (Ok command) answer next = Follows now tree command answer next
FollowsAsked now tree (Err error) answer next = ((answer ≡ Replied (Error error)) ⊎ (answer ≡ Memory)) × (next ≡ tree)

-- after a violation each answer is Refused and leaves the tree, and no other is
abbrev pub Next : Bool → Instant → Tree → Asked → Answer → Tree → Type 0
Next true now tree asked answer next = (answer ≡ Refused) × (next ≡ tree)
Next false now tree asked answer next = FollowsAsked now tree asked answer next

abbrev pub is_violation : Answer → Bool
is_violation (Violation why) = true
is_violation (Replied reply) = false
is_violation Memory = false
is_violation Spent = false
is_violation FaultDirectory = false
is_violation FaultState = false
is_violation Refused = false

abbrev pub is_refused : Answer → Bool
is_refused Refused = true
is_refused (Replied reply) = false
is_refused Memory = false
is_refused Spent = false
is_refused FaultDirectory = false
is_refused FaultState = false
is_refused (Violation why) = false

-- a violation was answered
abbrev pub violated : List Exchange → Bool
violated [] = false
violated (e ∷ es) = is_violation e.answer || violated es

-- the last tree, or the first where there is none
abbrev pub latest : Tree → List Tree → Tree
latest first [] = first
latest first (tree ∷ trees) = tree

-- the trees are those that the answers leave, one after another from the first on, each asked at its moment
abbrev pub IsSession : Tree → List Exchange → List Tree → Type 0
IsSession first [] [] = Unit {0}
IsSession first (e ∷ es) (tree ∷ trees) = Next (violated es) e.at (latest first trees) e.asked e.answer tree × IsSession first es trees
IsSession first [] (tree ∷ trees) = ⊥
IsSession first (e ∷ es) [] = ⊥

abbrev pub is_sync : Command → Bool
is_sync Sync = true
is_sync _ = false

abbrev pub is_done : Reply → Bool
is_done Done = true
is_done (Rows rows) = false
is_done (Info attr size) = false
is_done (Target target) = false
is_done (Content bytes) = false
is_done (Error error) = false

-- the reply Done
abbrev pub is_done_answer : Answer → Bool
is_done_answer (Replied reply) = is_done reply
is_done_answer Memory = false
is_done_answer Spent = false
is_done_answer FaultDirectory = false
is_done_answer FaultState = false
is_done_answer (Violation why) = false
is_done_answer Refused = false

-- an acknowledged sync
abbrev pub is_synced : Asked → Answer → Bool
is_synced (Ok command) answer = is_sync command && is_done_answer answer
is_synced (Err error) answer = false

-- this tree is that of a point which isn't before an acknowledged sync
abbrev pub IsKeptPoint : Tree → List Exchange → List Tree → Tree → Type 0
IsKeptPoint first (e ∷ es) (tree ∷ trees) kept = (kept ≡ tree) ⊎ ((is_synced e.asked e.answer ≡ false) × IsKeptPoint first es trees kept)
IsKeptPoint first [] [] kept = kept ≡ first
IsKeptPoint first [] (tree ∷ trees) kept = ⊥
IsKeptPoint first (e ∷ es) [] kept = ⊥

-- each answer is Refused just where a violation stands before it
abbrev pub RefusesAfterViolation : List Exchange → Type 0
RefusesAfterViolation [] = Unit {0}
RefusesAfterViolation (e ∷ es) = (is_refused e.answer ≡ violated es) × RefusesAfterViolation es

-- the faults of the block directory that an answer names, and those of the local record
abbrev pub directory_faults : Answer → ℕ
directory_faults FaultDirectory = 1
directory_faults (Replied reply) = 0
directory_faults Memory = 0
directory_faults Spent = 0
directory_faults FaultState = 0
directory_faults (Violation why) = 0
directory_faults Refused = 0

abbrev pub state_faults : Answer → ℕ
state_faults FaultState = 1
state_faults (Replied reply) = 0
state_faults Memory = 0
state_faults Spent = 0
state_faults FaultDirectory = 0
state_faults (Violation why) = 0
state_faults Refused = 0

-- of all answers
abbrev pub all_directory_faults : List Exchange → ℕ
all_directory_faults [] = 0
all_directory_faults (e ∷ es) = directory_faults e.answer + all_directory_faults es

abbrev pub all_state_faults : List Exchange → ℕ
all_state_faults [] = 0
all_state_faults (e ∷ es) = state_faults e.answer + all_state_faults es
