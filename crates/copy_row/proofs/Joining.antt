-- What one command asks, and commands one after the other.
use Rattle.std.proofs.Common.{◌≡◌, ◌≤◌, List, [], ◌∷◌, refl, ap, arith}
use Rattle.std.specs.Prelude.{IfOk, Some, None}
use Rattle.std.specs.declared.result.Result.{Result}
use Rattle.std.specs.declared.result.Result.TheVariants.{Ok, Err}
use Rattle.fs_model.specs.declared.command.Command.{Command}
use Rattle.fs_model.specs.declared.command.Command.TheVariants as command
use Rattle.fs_model.specs.declared.error.FsError.{FsError}
use Rattle.fs_model.specs.declared.reply.Reply.{Reply}
use Rattle.fs_model.specs.declared.reply.Reply.TheVariants.{Done, Rows, Info, Target, Content, Error}
use Rattle.fs_model.specs.Step.{step}
use Rattle.fs_model.specs.Tree.{Tree}
use Rattle.copy_laws.specs.declared.asker.Stopped.{Stopped}
use Rattle.copy_laws.specs.Ends.{path_of}
use Rattle.copy_laws.specs.Questions.{Question, Asking, Asked, IsReplyTo, StopsOnce}
use Rattle.copy_row.specs.declared.stop.Stop.TheVariants as stop
use Rattle.copy_row.specs.Rows.{Asks, IsChange, refusal}

abbrev pub one : Command → Result Reply Stopped → List Question
one c r = record { command = c; outcome = r } ∷ []

module _ {A : Type 0} (M : Asking A) where
  pub asked_one : (old new : A) (c : Command) (r : Result Reply Stopped) → M.moment new ≡ M.moment old → M.went old (one c r) new → M.forgeries old ≤ M.forgeries new → StopsOnce r (M.stops old) (M.stops new)
      → ((t : Tree) → M.stands_for old t → M.forgeries new ≤ M.forgeries old → IfOk r (λ reply. (next : Tree) × ((step t (M.moment old) c ≡ record { reply = reply; tree = next }) × M.stands_for new next)))
      → Asked M old new (one c r)
  asked_one old new c (Ok reply) moment went forgeries stops stands = record {
    went = went;
    moment = moment;
    forgeries = forgeries;
    stops = omega (arith, stops);
    quiet = λ h. stops;
    stands = λ t h f. let s = stands t h f in (s.0, ((s.0, (s.1.0, refl)), λ all. s.1.1));
  }
  asked_one old new c (Err stopped) moment went forgeries stops stands = record {
    went = went;
    moment = moment;
    forgeries = forgeries;
    stops = stops.0;
    quiet = λ h. absurd h.0;
    stands = λ t h f. (t, ((t, (refl, refl)), λ all. absurd all.0));
  }

  pub asks_done : (old new : A) (c : Command) (reply : Reply) → Asked M old new (one c (Ok reply)) → reply ≡ Done → Asks M old new (path_of c) (c ∷ []) {X = Unit {0}} (Ok tt)
  asks_done old new c reply a is = record { qs = one c (Ok reply); asked = a; ends = (ap Ok is, tt); commands = refl }

  pub asks_refused : (old new : A) (c : Command) (reply : Reply) (e : FsError) → Asked M old new (one c (Ok reply)) → reply ≡ Error e → Asks M old new (path_of c) (c ∷ []) {X = Unit {0}} (Err (stop.Refused e))
  asks_refused old new c reply e a is = record {
    qs = one c (Ok reply);
    asked = a;
    ends = record { front = []; last = c; are = ap (λ r. one c (Ok r)) is; done = tt; at = refl };
    commands = ([], refl);
  }

  pub asks_stopped : (old new : A) (c : Command) (stopped : Stopped) → Asked M old new (one c (Err stopped)) → Asks M old new (path_of c) (c ∷ []) {X = Unit {0}} (Err stop.Stopped)
  asks_stopped old new c stopped a = record {
    qs = one c (Err stopped);
    asked = a;
    ends = (stopped, record { front = []; last = c; are = refl; done = tt; at = refl });
    commands = ([], refl);
  }

-- what answers a change is Done or an error
pub is_done : (c : Command) (reply : Reply) → IsChange c → IsReplyTo c reply → refusal reply ≡ None → reply ≡ Done
is_done (command.Mkdir p) (Error e) change to none = let bad : Some e ≡ None = none in cc
is_done (command.Mkdir p) Done change to none = refl
is_done (command.Mkdir p) (Rows w) change to none = absurd to
is_done (command.Mkdir p) (Info w s) change to none = absurd to
is_done (command.Mkdir p) (Target w) change to none = absurd to
is_done (command.Mkdir p) (Content w) change to none = absurd to
is_done (command.Mkfile p) (Error e) change to none = let bad : Some e ≡ None = none in cc
is_done (command.Mkfile p) Done change to none = refl
is_done (command.Mkfile p) (Rows w) change to none = absurd to
is_done (command.Mkfile p) (Info w s) change to none = absurd to
is_done (command.Mkfile p) (Target w) change to none = absurd to
is_done (command.Mkfile p) (Content w) change to none = absurd to
is_done (command.Symlink t p) (Error e) change to none = let bad : Some e ≡ None = none in cc
is_done (command.Symlink t p) Done change to none = refl
is_done (command.Symlink t p) (Rows w) change to none = absurd to
is_done (command.Symlink t p) (Info w s) change to none = absurd to
is_done (command.Symlink t p) (Target w) change to none = absurd to
is_done (command.Symlink t p) (Content w) change to none = absurd to
is_done (command.Write p f b) (Error e) change to none = let bad : Some e ≡ None = none in cc
is_done (command.Write p f b) Done change to none = refl
is_done (command.Write p f b) (Rows w) change to none = absurd to
is_done (command.Write p f b) (Info w s) change to none = absurd to
is_done (command.Write p f b) (Target w) change to none = absurd to
is_done (command.Write p f b) (Content w) change to none = absurd to
is_done (command.List p) reply change to none = absurd change
is_done (command.Stat p) reply change to none = absurd change
is_done (command.Rmdir p) reply change to none = absurd change
is_done (command.Rm p) reply change to none = absurd change
is_done (command.Mv p q) reply change to none = absurd change
is_done (command.Readlink p) reply change to none = absurd change
is_done (command.Read p f n) reply change to none = absurd change
is_done (command.Truncate p n) reply change to none = absurd change
is_done (command.Chmod p m) reply change to none = absurd change
is_done (command.Chown p u g) reply change to none = absurd change
is_done (command.Utime p a m) reply change to none = absurd change
is_done command.Sync reply change to none = absurd change

pub is_refused : (reply : Reply) (e : FsError) → refusal reply ≡ Some e → reply ≡ Error e
is_refused (Error x) e h = same x e h
  where
    same : (x e : FsError) → Some x ≡ Some e → Error x ≡ Error e
    same x e h = let is : x ≡ e = cc in ap Error is
is_refused Done e h = let bad : None ≡ Some e = h in cc
is_refused (Rows rows) e h = let bad : None ≡ Some e = h in cc
is_refused (Info a s) e h = let bad : None ≡ Some e = h in cc
is_refused (Target t) e h = let bad : None ≡ Some e = h in cc
is_refused (Content w) e h = let bad : None ≡ Some e = h in cc
