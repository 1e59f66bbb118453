-- What a command answers.
use Rattle.std.specs.Prelude.{◌≡◌, ℕ, List, cond, nat_lt, take, drop}
use Rattle.fs_model.specs.declared.limits.TheConstants.{MAX_READ}
use Rattle.fs_model.specs.declared.error.FsError.TheVariants.{TooLarge}
use Rattle.fs_model.specs.declared.reply.Reply.{Reply}
use Rattle.fs_model.specs.declared.reply.Reply.TheVariants.{Error, Content}
use Rattle.fs_model.specs.Tree.{Tree}
use Rattle.fs_model.specs.Step.{Stepped}

-- the reply and the next tree are those of the step
pub record IsAnswer (t : Tree) (reply : Reply) (s : Stepped) : Type 0 where
  pub replies : reply ≡ s.reply
  pub tree : t ≡ s.tree

-- what a read of a file's content answers
abbrev pub content_reply : List ℕ → ℕ → ℕ → Reply
content_reply bytes from count = cond (nat_lt MAX_READ count) (Error TooLarge) (Content (take count (drop from bytes)))
