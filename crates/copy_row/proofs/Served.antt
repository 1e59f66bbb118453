-- What one question of an export gives, and questions one after the other.
use Rattle.std.proofs.Common.{◌≡◌, ℕ, List, [], ◌∷◌, ◌++◌, refl, sym, ◌∙◌, ap, subst, append_assoc}
use Rattle.std.specs.Prelude.{Some, None, IsTrue}
use Rattle.std.specs.declared.result.Result.{Result}
use Rattle.std.specs.declared.result.Result.TheVariants.{Ok, Err}
use Rattle.fs_model.specs.declared.command.Command.{Command}
use Rattle.fs_model.specs.declared.command.Command.TheVariants as command
use Rattle.fs_model.specs.declared.error.FsError.{FsError}
use Rattle.fs_model.specs.declared.error.FsError.TheVariants.{Invalid}
use Rattle.fs_model.specs.declared.reply.Reply.{Reply}
use Rattle.fs_model.specs.declared.reply.Reply.TheVariants.{Done, Rows, Info, Target, Content, Error}
use Rattle.fs_model.specs.Fitting.{is_target}
use Rattle.copy_laws.specs.host_folder.Folders.{HostPath, HostTree}
use Rattle.copy_laws.specs.declared.asker.Stopped.{Stopped}
use Rattle.copy_laws.specs.Ends.{path_of}
use Rattle.copy_laws.specs.Exporting.{AreServed, IsReader, IsServed, LastRead, Refuses, Tells}
use Rattle.copy_laws.specs.Questions.{Question, Asking, LawfulAsker, Asked, AreAnswered, IsAnswered, IsReplyTo}
use Rattle.copy_laws.proofs.Asking.{asked_none, asked_then}
use Rattle.copy_row.specs.declared.stop.Stop.{Stop}
use Rattle.copy_row.specs.declared.stop.Stop.TheVariants as stop
use Rattle.copy_row.specs.Reads.{OneRead, Reads, ReadEnds, NeverAsked, SaysPiece, SaysTarget}
use Rattle.copy_row.specs.Rows.{StopsBy, refusal}
use Rattle.copy_row.proofs.Joining.{one, is_refused}

pub served_append : (qs rs : List Question) → AreServed qs → AreServed rs → AreServed (qs ++ rs)
served_append [] rs h g = g
served_append (x ∷ qs) rs h g = (h.0, served_append qs rs h.1 g)

is_answered : (o : Result Reply Stopped) → IsServed o → IsAnswered o
is_answered (Ok reply) h = tt
is_answered (Err stopped) h = absurd h

pub served_answered : (qs : List Question) → AreServed qs → AreAnswered qs
served_answered [] h = tt
served_answered (x ∷ qs) h = (is_answered x.outcome h.0.1, served_answered qs h.1)

pub tells_front : (u : HostTree) (q : HostPath) (qs rs : List Question) → Tells u q (qs ++ rs) → Tells u q qs
tells_front u q [] rs h = tt
tells_front u q (x ∷ qs) rs h = (h.0, tells_front u q qs rs h.1)

pub tells_rest : (u : HostTree) (q : HostPath) (qs rs : List Question) → Tells u q (qs ++ rs) → Tells u q rs
tells_rest u q [] rs h = h
tells_rest u q (x ∷ qs) rs h = tells_rest u q qs rs h.1

pub last_read : (qs rs : List Question) (p : HostPath) (o : Result Reply Stopped) → AreServed qs → LastRead rs p o → LastRead (qs ++ rs) p o
last_read qs rs p o served l = record {
  front = qs ++ l.front;
  last = l.last;
  are = ap (λ z. qs ++ z) l.are ∙ sym (append_assoc qs l.front (record { command = l.last; outcome = o } ∷ []));
  served = served_append qs l.front served l.served;
  reader = l.reader;
  at = l.at;
}

pub ends_then : {X : Type 0} (p : HostPath) (qs rs : List Question) (r : Result X Stop) → AreServed qs → ReadEnds p rs r → ReadEnds p (qs ++ rs) r
ends_then p qs rs (Ok x) served ends = served_append qs rs served ends
ends_then p qs rs (Err stop.Memory) served ends = served_append qs rs served ends
ends_then p qs rs (Err stop.Host) served ends = served_append qs rs served ends
ends_then p qs rs (Err stop.Stopped) served ends = (ends.0, last_read qs rs p (Err ends.0) served ends.1)
ends_then p qs rs (Err (stop.Refused e)) served ends = (ends.0, (ends.1.0, last_read qs rs p (Ok ends.0) served ends.1.1))

-- what a result is of doesn't matter where it is an error
pub ends_error : (X Y : Type 0) (p : HostPath) (qs : List Question) (e : Stop) → ReadEnds {X = X} p qs (Err e) → ReadEnds {X = Y} p qs (Err e)
ends_error X Y p qs stop.Memory h = h
ends_error X Y p qs stop.Host h = h
ends_error X Y p qs stop.Stopped h = h
ends_error X Y p qs (stop.Refused e) h = h

-- a call on the folder fails after these
pub ends_never : (X Y : Type 0) (p : HostPath) (qs : List Question) (e : Stop) → AreServed qs → NeverAsked {X = X} (Err e) → ReadEnds {X = Y} p qs (Err e)
ends_never X Y p qs stop.Memory served never = served
ends_never X Y p qs stop.Host served never = served
ends_never X Y p qs stop.Stopped served never = absurd never
ends_never X Y p qs (stop.Refused e) served never = absurd never

pub still_stops : (X Y : Type 0) (before now : ℕ) (e : Stop) → NeverAsked {X = X} (Err e) → now ≡ before → StopsBy {X = Y} before now (Err e)
still_stops X Y before now stop.Memory never same = same
still_stops X Y before now stop.Host never same = same
still_stops X Y before now stop.Stopped never same = absurd never
still_stops X Y before now (stop.Refused e) never same = absurd never

none_refused : (reply : Reply) → refusal reply ≡ None → IsServed (Ok reply)
none_refused (Error e) h = let bad : Some e ≡ None = h in cc
none_refused Done h = tt
none_refused (Rows rows) h = tt
none_refused (Info a s) h = tt
none_refused (Target w) h = tt
none_refused (Content w) h = tt

last_one : (c : Command) (o : Result Reply Stopped) → IsReader c → LastRead (one c o) (path_of c) o
last_one c o reader = record { front = []; last = c; are = refl; served = tt; reader = reader; at = refl }

module _ {A : Type 0} (M : Asking A) where
  pub read_given : (a b : A) (c : Command) (reply : Reply) → Asked M a b (one c (Ok reply)) → refusal reply ≡ None → IsReplyTo c reply → OneRead M a b c (Ok reply)
  read_given a b c reply asked none form = ((asked, none_refused reply none), form)

  pub read_refused : (a b : A) (c : Command) (reply : Reply) (e : FsError) → IsReader c → Asked M a b (one c (Ok reply)) → refusal reply ≡ Some e → OneRead M a b c (Err (stop.Refused e))
  read_refused a b c reply e reader asked is = record {
    qs = one c (Ok reply);
    asked = asked;
    ends = (reply, (subst (Refuses e) (sym (is_refused reply e is)) refl, last_one c (Ok reply) reader));
    says = λ u q r at tells. tt;
  }

  pub read_stopped : (a b : A) (c : Command) (stopped : Stopped) → IsReader c → Asked M a b (one c (Err stopped)) → OneRead M a b c (Err stop.Stopped)
  read_stopped a b c stopped reader asked = record {
    qs = one c (Err stopped);
    asked = asked;
    ends = (stopped, last_one c (Err stopped) reader);
    says = λ u q r at tells. tt;
  }

  -- the question wasn't served
  pub reads_error : {X : Type 0} (a b : A) (c : Command) (p : HostPath) (Says : HostTree → HostPath → X → Type 0) (e : Stop) → path_of c ≡ p → OneRead M a b c (Err e) → Reads M a b p {X = X} Says (Err e)
  reads_error {X = X} a b c p Says e at h = record {
    qs = h.qs;
    asked = h.asked;
    ends = ends_error Reply X p h.qs e (subst (λ z. ReadEnds {X = Reply} z h.qs (Err e)) at h.ends);
    says = λ u q r is tells. tt;
  }

  pub piece_read : (a b : A) (path p : HostPath) (from : ℕ) (bytes : List ℕ) → path ≡ p → OneRead M a b (command.Read path from 1048576) (Ok (Content bytes)) → Reads M a b p (SaysPiece from) (Ok bytes)
  piece_read a b path p from bytes at h = record {
    qs = one (command.Read path from 1048576) (Ok (Content bytes));
    asked = h.0.0;
    ends = ((refl, tt), tt);
    says = λ u q r is tells. by u q r is tells;
  }
    where
      by : (u : HostTree) (q r : HostPath) → p ≡ q ++ r → Tells u q (one (command.Read path from 1048576) (Ok (Content bytes))) → SaysPiece from u r bytes
      by u q [] is tells some = absurd (some refl)
      by u q (n ∷ r) is tells some = tells.0 n r (at ∙ is)

  pub target_read : (a b : A) (path p : HostPath) (target : List ℕ) → path ≡ p → OneRead M a b (command.Readlink path) (Ok (Target target)) → Reads M a b p SaysTarget (Ok target)
  target_read a b path p target at h = record {
    qs = one (command.Readlink path) (Ok (Target target));
    asked = h.0.0;
    ends = ((tt, tt), tt);
    says = λ u q r is tells. by u q r is tells;
  }
    where
      by : (u : HostTree) (q r : HostPath) → p ≡ q ++ r → Tells u q (one (command.Readlink path) (Ok (Target target))) → SaysTarget u r target
      by u q [] is tells some = absurd (some refl)
      by u q (n ∷ r) is tells some = tells.0 n r (at ∙ is)

  -- no link has this target
  pub target_refused : (a b : A) (path p : HostPath) (target : List ℕ) → path ≡ p → (IsTrue (is_target target) → ⊥) → OneRead M a b (command.Readlink path) (Ok (Target target)) → Reads M a b p {X = List ℕ} SaysTarget (Err (stop.Refused Invalid))
  target_refused a b path p target at misfit h = record {
    qs = one (command.Readlink path) (Ok (Target target));
    asked = h.0.0;
    ends = (Target target, ((refl, misfit), subst (λ z. LastRead (one (command.Readlink path) (Ok (Target target))) z (Ok (Target target))) at (last_one (command.Readlink path) (Ok (Target target)) tt)));
    says = λ u q r is tells. tt;
  }

module _ {A : Type 0} (M : Asking A) (lawful : LawfulAsker M) where
  -- nothing is asked, for want of memory
  pub reads_none : {X : Type 0} (a : A) (p : HostPath) (Says : HostTree → HostPath → X → Type 0) → Reads M a a p {X = X} Says (Err stop.Memory)
  reads_none a p Says = record { qs = []; asked = asked_none M lawful a; ends = tt; says = λ u q r is tells. tt }

  pub asked_more : (a b c : A) (qs rs : List Question) → Asked M a b qs → AreServed qs → Asked M b c rs → Asked M a c (qs ++ rs)
  asked_more a b c qs rs x served y = asked_then M lawful a b c qs rs x (served_answered qs served) y
