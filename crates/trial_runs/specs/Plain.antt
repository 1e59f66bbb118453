-- The plain tree as what answers commands: it neither fails nor finds anything wrong.
use Rattle.std.specs.Prelude.{false, List, [], ◌∷◌}
use Rattle.fs_model.specs.Tree.{Tree}
use Rattle.answers.specs.declared.answer.Answer.{Answer}
use Rattle.answers.specs.declared.answer.Answer.TheVariants.{Reply as Replied, Memory}
use Rattle.answers.specs.Hosts.{Hosting}
use Rattle.answers.specs.Sessions.{Exchange, FollowsAsked}

-- a reply, or Memory
abbrev pub IsPlain : Answer → Type 0
IsPlain (Replied reply) = Unit {0}
IsPlain Memory = Unit {0}
IsPlain _ = ⊥

abbrev pub ArePlain : List Exchange → Type 0
ArePlain [] = Unit {0}
ArePlain (e ∷ es) = IsPlain e.answer × ArePlain es

-- what holds this tree gives the tree's replies
abbrev pub plain : {H : Type 0} → (H → Tree) → Hosting H
plain tree = record {
  ready = λ _. Unit {0};
  refuses = λ _. false;
  chance = λ _. 0;
  answers = λ old now asked answer new. IsPlain answer × FollowsAsked now (tree old) asked answer (tree new);
}
