use Rattle.std.proofs.Common.{◌≡◌, true, false, sym, ap, subst, ◌∙◌, Option}
use Rattle.std.specs.Prelude.{IsSome}
use Rattle.std.specs.Option.{option_copied_mut}
use Rattle.local_state.specs.declared.life.Life.{Life}
use Rattle.local_state.proofs.Lookups.{get-lives_of, lives_of-insert}
use Rattle.local_state.proofs.lives.change_life.Goals as goal

pub returns-in-Some-clause-lives : goal.returns-in-Some-clause-lives
returns-in-Some-clause-lives c =
    let some = subst (λ (o : Option Life). IsSome o) (get-lives_of c.args.id.now c.args.lives.now.entries) c.requires in
    lives_of-insert c.args.id.now c.args.life c.args.lives.now.entries (c.get_mut.follows.lender c.args.life).entries ((c.get_mut.follows.holds c.args.life).3 some).0

pub returns-in_default-clause-lives : goal.returns-in_default-clause-lives
returns-in_default-clause-lives c =
    let impossible : false ≡ true = subst (λ (o : Option Life). IsSome o) (get-lives_of c.args.id.now c.args.lives.now.entries ∙ sym c.get_mut.ensures.value ∙ ap option_copied_mut c.in_default.is) c.requires in
    absurd (cc)
