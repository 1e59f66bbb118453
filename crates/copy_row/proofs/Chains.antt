-- Commands of a row, one after the other.
use Rattle.std.proofs.Common.{◌≡◌, ℕ, List, [], ◌++◌, refl, sym, ◌∙◌, ap, subst, append_assoc}
use Rattle.std.specs.declared.result.Result.{Result}
use Rattle.std.specs.declared.result.Result.TheVariants.{Ok, Err}
use Rattle.fs_model.specs.declared.command.Command.{Command}
use Rattle.fs_model.specs.declared.reply.Reply.TheVariants.{Error}
use Rattle.copy_laws.specs.host_folder.Folders.{HostPath}
use Rattle.copy_laws.specs.Questions.{Question, Asking, LawfulAsker, AreDone, commands_of}
use Rattle.copy_laws.proofs.Asking.{asked_none, asked_then, answered_done, done_append, commands_append, last_append}
use Rattle.copy_row.specs.declared.stop.Stop.{Stop}
use Rattle.copy_row.specs.declared.stop.Stop.TheVariants as stop
use Rattle.copy_row.specs.Rows.{Asks, RowEnds, AsksFor, NeverHost, FaultsBy}

ends_then : {X : Type 0} (p : HostPath) (qs rs : List Question) (r : Result X Stop) → AreDone qs → RowEnds p rs r → RowEnds p (qs ++ rs) r
ends_then p qs rs (Ok x) done ends = done_append qs rs done ends
ends_then p qs rs (Err stop.Memory) done ends = done_append qs rs done ends
ends_then p qs rs (Err stop.Host) done ends = done_append qs rs done ends
ends_then p qs rs (Err stop.Stopped) done ends = (ends.0, last_append qs rs p (Err ends.0) done ends.1)
ends_then p qs rs (Err (stop.Refused e)) done ends = last_append qs rs p (Ok (Error e)) done ends

for_then : {X : Type 0} (qs rs : List Question) (cs ds : List Command) (r : Result X Stop) → commands_of qs ≡ cs → AsksFor r (commands_of rs) ds → AsksFor r (commands_of (qs ++ rs)) (cs ++ ds)
for_then qs rs cs ds (Ok x) c d = commands_append qs rs ∙ (ap (λ z. z ++ commands_of rs) c ∙ ap (λ z. cs ++ z) d)
for_then qs rs cs ds (Err e) c d =
    (d.0, ap (λ z. cs ++ z) d.1 ∙ (sym (append_assoc cs (commands_of rs) d.0) ∙ ap (λ z. z ++ d.0) (ap (λ z. z ++ commands_of rs) (sym c) ∙ sym (commands_append qs rs))))

module _ {A : Type 0} (M : Asking A) (lawful : LawfulAsker M) where
  pub asks_then : {X : Type 0} (a b c : A) (p : HostPath) (cs ds : List Command) (r : Result X Stop) → Asks M a b p cs {X = Unit {0}} (Ok tt) → Asks M b c p ds r → Asks M a c p (cs ++ ds) r
  asks_then a b c p cs ds r x y = record {
    qs = x.qs ++ y.qs;
    asked = asked_then M lawful a b c x.qs y.qs x.asked (answered_done x.qs x.ends) y.asked;
    ends = ends_then p x.qs y.qs r x.ends y.ends;
    commands = for_then x.qs y.qs cs ds r x.commands y.commands;
  }

  -- nothing is asked
  pub asks_none : (a : A) (p : HostPath) → Asks M a a p [] {X = Unit {0}} (Ok tt)
  asks_none a p = record { qs = []; asked = asked_none M lawful a; ends = tt; commands = refl }

module _ {A : Type 0} (M : Asking A) where
  -- more commands were to follow
  pub asks_front : {X : Type 0} (a b : A) (p : HostPath) (cs ds : List Command) (e : Stop) → Asks M a b p cs {X = X} (Err e) → Asks M a b p (cs ++ ds) {X = X} (Err e)
  asks_front a b p cs ds e x = record {
    qs = x.qs;
    asked = x.asked;
    ends = x.ends;
    commands = (x.commands.0 ++ ds, ap (λ z. z ++ ds) x.commands.1 ∙ append_assoc (commands_of x.qs) x.commands.0 ds);
  }

  -- memory is wanting, or the folder fails, before they do
  pub asks_memory : {X : Type 0} (a b : A) (p : HostPath) (cs ds : List Command) → Asks M a b p cs {X = Unit {0}} (Ok tt) → Asks M a b p (cs ++ ds) {X = X} (Err stop.Memory)
  asks_memory a b p cs ds x = record { qs = x.qs; asked = x.asked; ends = x.ends; commands = (ds, ap (λ z. z ++ ds) (sym x.commands)) }

  pub asks_host : {X : Type 0} (a b : A) (p : HostPath) (cs ds : List Command) → Asks M a b p cs {X = Unit {0}} (Ok tt) → Asks M a b p (cs ++ ds) {X = X} (Err stop.Host)
  asks_host a b p cs ds x = record { qs = x.qs; asked = x.asked; ends = x.ends; commands = (ds, ap (λ z. z ++ ds) (sym x.commands)) }

  pub asks_same : {X : Type 0} (a b : A) (p : HostPath) (cs ds : List Command) (r : Result X Stop) → cs ≡ ds → Asks M a b p cs r → Asks M a b p ds r
  asks_same {X = X} a b p cs ds r e x = subst (λ z. Asks M a b p z r) e x

module _ {A : Type 0} (M : Asking A) (lawful : LawfulAsker M) where
  -- nothing is asked, for want of memory or since the folder failed
  pub none_memory : {X : Type 0} (a : A) (p : HostPath) (all : List Command) → Asks M a a p all {X = X} (Err stop.Memory)
  none_memory a p all = record { qs = []; asked = asked_none M lawful a; ends = tt; commands = (all, refl) }

  pub none_host : {X : Type 0} (a : A) (p : HostPath) (all : List Command) → Asks M a a p all {X = X} (Err stop.Host)
  none_host a p all = record { qs = []; asked = asked_none M lawful a; ends = tt; commands = (all, refl) }

pub still_faults : {X : Type 0} (before now : ℕ) (r : Result X Stop) → NeverHost r → now ≡ before → FaultsBy before now r
still_faults before now (Ok x) never e = e
still_faults before now (Err stop.Memory) never e = e
still_faults before now (Err stop.Host) never e = absurd never
still_faults before now (Err stop.Stopped) never e = e
still_faults before now (Err (stop.Refused error)) never e = e
