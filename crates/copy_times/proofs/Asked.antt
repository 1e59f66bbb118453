-- Questions that are asked one after the other, and how they end.
use Rattle.std.proofs.Common.{◌≡◌, List, [], ◌∷◌, ◌++◌, refl, sym, ◌∙◌, ap, append_assoc}
use Rattle.std.specs.declared.result.Result.{Result}
use Rattle.std.specs.declared.result.Result.TheVariants.{Ok, Err}
use Rattle.fs_model.specs.declared.command.Command.{Command}
use Rattle.fs_model.specs.declared.reply.Reply.{Reply}
use Rattle.copy_row.specs.host_folder.Folders.{HostPath}
use Rattle.copy_row.specs.copy_laws.declared.asker.Stopped.{Stopped}
use Rattle.copy_row.specs.copy_laws.declared.copied.CopyFail.{CopyFail}
use Rattle.copy_row.specs.copy_laws.declared.copied.CopyFail.TheVariants as fail
use Rattle.copy_row.specs.copy_laws.Ends.{IsFront}
use Rattle.copy_row.specs.copy_laws.Exporting.{IsServed}
use Rattle.copy_row.specs.copy_laws.Questions.{Question, AreAnswered, IsAnswered}
use Rattle.copy_times.specs.Asking.{IsGiven, IsSeen, Each, LastWas, FailsBy, EndsBy}

pub each_append : (P : Question → Type 0) (qs rs : List Question) → Each P qs → Each P rs → Each P (qs ++ rs)
each_append P [] rs h g = g
each_append P (q ∷ qs) rs h g = (h.0, each_append P qs rs h.1 g)

last_append : (P : Question → Type 0) (qs rs : List Question) (p : HostPath) (outcome : Result Reply Stopped) → Each P qs → LastWas P rs p outcome → LastWas P (qs ++ rs) p outcome
last_append P qs rs p outcome well l = record {
  front = qs ++ l.front;
  last = l.last;
  are = ap (λ z. qs ++ z) l.are ∙ sym (append_assoc qs l.front (record { command = l.last; outcome = outcome } ∷ []));
  well = each_append P qs l.front well l.well;
  at = l.at;
}

fails_append : (P : Question → Type 0) (qs rs : List Question) (e : CopyFail) → Each P qs → FailsBy P rs e → FailsBy P (qs ++ rs) e
fails_append P qs rs fail.Memory h g = each_append P qs rs h g
fails_append P qs rs fail.Host h g = each_append P qs rs h g
fails_append P qs rs fail.Stopped h (p, (stopped, g)) = (p, (stopped, last_append P qs rs p (Err stopped) h g))
fails_append P qs rs (fail.LongPath p) h g = each_append P qs rs h g
fails_append P qs rs (fail.Refused p e) h g = last_append P qs rs p _ h g

pub ends_append : {X : Type 0} (P : Question → Type 0) (qs rs : List Question) (result : Result X CopyFail) → Each P qs → EndsBy P rs result → EndsBy P (qs ++ rs) result
ends_append P qs rs (Ok x) h g = each_append P qs rs h g
ends_append P qs rs (Err e) h g = fails_append P qs rs e h g

answered : (o : Result Reply Stopped) (reply : Reply) → o ≡ Ok reply → IsAnswered o
answered (Ok reply) r h = tt
answered (Err stopped) r h = let bad : Err stopped ≡ Ok r = h in cc

served : (o : Result Reply Stopped) → IsServed o → IsAnswered o
served (Ok reply) h = tt
served (Err stopped) h = h

pub given_answered : (qs : List Question) → Each IsGiven qs → AreAnswered qs
given_answered [] h = tt
given_answered (q ∷ qs) h = (answered q.outcome _ h.0.1, given_answered qs h.1)

pub seen_answered : (qs : List Question) → Each IsSeen qs → AreAnswered qs
seen_answered [] h = tt
seen_answered (q ∷ qs) h = (served q.outcome h.0.1, seen_answered qs h.1)

pub front_after : (cs ds all : List Command) → IsFront ds all → IsFront (cs ++ ds) (cs ++ all)
front_after cs ds all (rest, is) = (rest, ap (λ z. cs ++ z) is ∙ sym (append_assoc cs ds rest))

pub front_more : (cs all more : List Command) → IsFront cs all → IsFront cs (all ++ more)
front_more cs all more (rest, is) = (rest ++ more, ap (λ z. z ++ more) is ∙ append_assoc cs rest more)
