-- What an offer leaves, from what `take` says.
use Rattle.std.proofs.Common.{◌≡◌, ℕ, ◌+◌, ◌<◌, ◌↔◌, true, List, Result, Ok, Err, sym, ap, subst, ◌∙◌}
use Rattle.std.specs.declared.option.Option.{Option}
use Rattle.std.specs.declared.option.Option.TheVariants.{None, Some}
use Rattle.clients_core.specs.declared.seen.Seen.{Seen}
use Rattle.clients_core.specs.declared.stale.Stale.{Stale}
use Rattle.clients_core.specs.declared.stale.TakeFail.{TakeFail}
use Rattle.clients_core.specs.declared.stale.TakeFail.TheVariants as fail
use Rattle.clients_core.specs.Clients.{IsAlive, WasOffered}
use Rattle.clients_core.specs.Judging.{judge}
use Rattle.clients_core.specs.Standing.{Stands}
use Rattle.clients_core.specs.Taking.{Took, list_after}
use Rattle.clients_core.specs.Versions.{Version}
use Rattle.clients_core.proofs.Steps.{alive_set, alive_kept, own_taken, other_taken, offered_yes, list_own, list_other}
use Rattle.clients_core.proofs.Taken.{no_stale, own_version_known, other_version_above}

pub alive_took : (old new : Seen) (t : Version) (answer : Option ℕ) → Took old new t answer → IsAlive old → IsAlive new
alive_took old new t None took alive = alive_kept old new took.1 alive
alive_took old new t (Some version) took alive = alive_set old.known.lives new.known.lives t.id version took.1.lives alive

ok_err : {A B : Type 0} {r : Result A B} {x : A} {y : B} → r ≡ Ok x → r ≡ Err y → ⊥
ok_err e f = ok_is_err (sym e ∙ f)
  where
    ok_is_err : {A B : Type 0} {x : A} {y : B} → Ok x ≡ Err y → ⊥
    ok_is_err e = cc

pub good_of : (r : Result (Option ℕ) TakeFail) (answer : Option ℕ) (o : Option Stale) → r ≡ Ok answer → ((s : Stale) → (r ≡ Err (fail.Stale s)) ↔ (o ≡ Some s)) → o ≡ None
good_of r answer o is stale = no_stale o (λ s e. ok_err is ((stale s).1 e))

pub offered_took : (old new : Seen) (t : Version) (answer : Option ℕ) → judge old t ≡ None → 0 < t.version → Took old new t answer
    → ((h : List Version) → Stands old h → Stands new (list_after old.own t answer h)) → (h : List Version) → Stands old h → WasOffered old new t true h
offered_took old new t None good positive took after h s =
    offered_yes old new t h (own_taken old h t s took.0 (own_version_known old t good took.0)) (subst (Stands new) (sym (list_own old.own h t took.0)) (after h s))
offered_took old new t (Some version) good positive took after h s =
    offered_yes old new t h (other_taken old h t s took.0 (other_version_above old t good took.0 positive) took.1.unspent)
    (subst (Stands new) (sym (list_other old.own h t version took.0 (took.1.next ∙ sym (ap (λ (n : ℕ). n + 1) (s.known t.id))))) (after h s))
