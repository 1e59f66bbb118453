-- What answers commands, and what it leaves.
use Rattle.std.specs.Prelude.{◌≡◌, ℕ, Bool, true, false, ◌||◌, List, [], ◌∷◌, Err}
use Rattle.fs_model.specs.declared.error.FsError.{FsError}
use Rattle.fs_model.specs.declared.reply.Reply.{Reply}
use Rattle.fs_model.specs.declared.reply.Reply.TheVariants.{Done, Rows, Info, Target, Content, Error}
use Rattle.fs_model.specs.Instant.{Instant}
use Rattle.answers.specs.declared.answer.Answer.{Answer}
use Rattle.answers.specs.declared.answer.Answer.TheVariants.{Reply as Replied, Memory, Refused}
use Rattle.answers.specs.Sessions.{Asked, Exchange, is_violation, is_refused, violated, RefusesAfterViolation}

pub record Hosting (H : Type 0) : Type 1 where
  -- what each call needs, and leaves
  pub ready : H → Type 0
  -- whether each further command is refused
  pub refuses : H → Bool
  -- which generator it draws from, by name, and 0 where from none; it stays that one
  pub chance : H → ℕ
  -- asked this at this moment, it gave this answer and is so afterwards
  pub answers : H → Instant → Asked → Answer → H → Type 0

-- a reply whose text may want memory: rows, attributes, a target or a content
abbrev pub IsLongReply : Reply → Type 0
IsLongReply Done = ⊥
IsLongReply (Rows rows) = Unit {0}
IsLongReply (Info attr size) = Unit {0}
IsLongReply (Target target) = Unit {0}
IsLongReply (Content bytes) = Unit {0}
IsLongReply (Error error) = ⊥

pub record LawfulHost {H : Type 0} (M : Hosting H) : Type 0 where
  -- one that refuses may answer so without a call
  pub refused : (h : H) (now : Instant) (asked : Asked) → M.ready h → M.refuses h ≡ true → M.answers h now asked Refused h
  -- a line that is none may get its error without a call
  pub bad : (h : H) (now : Instant) (error : FsError) → M.ready h → M.refuses h ≡ false → M.answers h now (Err error) (Replied (Error error)) h
  -- before a call memory may be wanting
  pub wanting : (h : H) (now : Instant) (asked : Asked) → M.ready h → M.refuses h ≡ false → M.answers h now asked Memory h
  -- a reply whose text finds no memory may be told as Memory
  pub unsaid : (h k : H) (now : Instant) (asked : Asked) (reply : Reply) → M.answers h now asked (Replied reply) k → IsLongReply reply → M.answers h now asked Memory k
  -- it refuses once there was a violation
  pub flag : (h k : H) (now : Instant) (asked : Asked) (answer : Answer) → M.answers h now asked answer k → M.refuses k ≡ (is_violation answer || M.refuses h)
  -- an answer is Refused just where it refuses
  pub refusal : (h k : H) (now : Instant) (asked : Asked) (answer : Answer) → M.answers h now asked answer k → is_refused answer ≡ M.refuses h

-- one exchange after another, each at its moment, led from the one to the other; the newest stands first
abbrev pub Ran : {H : Type 0} → Hosting H → H → List Exchange → H → Type 0
Ran M old [] new = new ≡ old
Ran {H} M old (e ∷ es) new = (mid : H) × Ran M old es mid × M.answers mid e.at e.asked e.answer new

-- what refuses nothing at first refuses just after a violation, and says so
abbrev pub RefusesAfter : {H : Type 0} → Hosting H → Type 0
RefusesAfter {H} M = (old : H) (es : List Exchange) (new : H) → Ran M old es new → M.refuses old ≡ false
    → (M.refuses new ≡ violated es) × RefusesAfterViolation es
