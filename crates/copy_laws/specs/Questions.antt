-- What answers the commands of a copy, and what it was asked. The oldest stands first.
use Rattle.std.specs.Prelude.{◌≡◌, ℕ, ◌≤◌, List, [], ◌∷◌, ◌++◌, map}
use Rattle.std.specs.declared.result.Result.{Result}
use Rattle.std.specs.declared.result.Result.TheVariants.{Ok, Err}
use Rattle.outside.specs.Causes.{RoseBy}
use Rattle.fs_model.specs.declared.command.Command.{Command}
use Rattle.fs_model.specs.declared.command.Command.TheVariants as command
use Rattle.fs_model.specs.declared.reply.Reply.{Reply}
use Rattle.fs_model.specs.declared.reply.Reply.TheVariants.{Done, Rows, Info, Target, Content, Error}
use Rattle.fs_model.specs.Fitting.{IsFitting}
use Rattle.fs_model.specs.Instant.{Instant}
use Rattle.fs_model.specs.Step.{step}
use Rattle.fs_model.specs.Tree.{Tree}
use Rattle.copy_laws.specs.declared.asker.Stopped.{Stopped}

-- a command, and how it went
pub record Question : Type 0 where
  pub command : Command
  pub outcome : Result Reply Stopped

abbrev pub commands_of : List Question → List Command
commands_of qs = map (λ q. q.command) qs

pub record Asking (A : Type 0) : Type 1 where
  -- what each call needs, and leaves
  pub ready : A → Type 0
  -- the tree that it has, where one is told
  pub stands_for : A → Tree → Type 0
  pub moment : A → Instant
  pub forgeries : A → ℕ
  -- how often a command wasn't answered
  pub stops : A → ℕ
  -- these questions led from the one to the other
  pub went : A → List Question → A → Type 0

-- what a call needs: an asker that is ready, and a command that a tree takes
pub record MayAsk {A : Type 0} (M : Asking A) (asker : A) (command : Command) : Type 0 where
  pub ready : M.ready asker
  pub fits : IsFitting command

pub record LawfulAsker {A : Type 0} (M : Asking A) : Type 0 where
  pub none : (a : A) → M.went a [] a
  pub onward : (a b c : A) (qs rs : List Question) → M.went a qs b → M.went b rs c → M.went a (qs ++ rs) c
  pub one_tree : (a : A) (t u : Tree) → M.stands_for a t → M.stands_for a u → t ≡ u

-- what a command answers where it is no error
abbrev pub IsReplyTo : Command → Reply → Type 0
IsReplyTo c (Error e) = Unit {0}
IsReplyTo (command.List p) (Rows rows) = Unit {0}
IsReplyTo (command.Stat p) (Info attr size) = Unit {0}
IsReplyTo (command.Readlink p) (Target target) = Unit {0}
IsReplyTo (command.Read p from count) (Content bytes) = Unit {0}
IsReplyTo (command.List p) reply = ⊥
IsReplyTo (command.Stat p) reply = ⊥
IsReplyTo (command.Readlink p) reply = ⊥
IsReplyTo (command.Read p from count) reply = ⊥
IsReplyTo c Done = Unit {0}
IsReplyTo c reply = ⊥

-- how often a command wasn't answered: once more where this one wasn't, and else as before
abbrev pub StopsOnce : Result Reply Stopped → ℕ → ℕ → Type 0
StopsOnce (Ok reply) old new = new ≡ old
StopsOnce (Err stopped) old new = (old ≤ new) × RoseBy 1 old new

-- the step of a command that was answered; one that wasn't leaves the tree
abbrev pub Answered : Tree → Instant → Command → Result Reply Stopped → Tree → Type 0
Answered t now c (Ok reply) next = step t now c ≡ record { reply = reply; tree = next }
Answered t now c (Err stopped) next = next ≡ t

-- one question after the other
abbrev pub Followed : Tree → Instant → List Question → Tree → Type 0
Followed t now [] last = last ≡ t
Followed t now (q ∷ qs) last = (mid : Tree) × (Answered t now q.command q.outcome mid × Followed mid now qs last)

abbrev pub IsAnswered : Result Reply Stopped → Type 0
IsAnswered (Ok reply) = Unit {0}
IsAnswered (Err stopped) = ⊥

abbrev pub AreAnswered : List Question → Type 0
AreAnswered [] = Unit {0}
AreAnswered (q ∷ qs) = IsAnswered q.outcome × AreAnswered qs

abbrev pub AreDone : List Question → Type 0
AreDone [] = Unit {0}
AreDone (q ∷ qs) = (q.outcome ≡ Ok Done) × AreDone qs

-- these questions led from the one to the other: where a tree was told and no forgery was met, it went by the steps of what was answered
pub record Asked {A : Type 0} (M : Asking A) (old new : A) (qs : List Question) : Type 0 where
  pub went : M.went old qs new
  pub moment : M.moment new ≡ M.moment old
  pub forgeries : M.forgeries old ≤ M.forgeries new
  pub stops : M.stops old ≤ M.stops new
  pub quiet : AreAnswered qs → M.stops new ≡ M.stops old
  pub stands : (t : Tree) → M.stands_for old t → M.forgeries new ≤ M.forgeries old
      → (next : Tree) × (Followed t (M.moment old) qs next × (AreAnswered qs → M.stands_for new next))
