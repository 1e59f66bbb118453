use denote.Enum.Bare.{sameb}
use Rattle.std.proofs.Common.{◌≡◌, true, ap, ◌∙◌, sym, subst, map, Global, List, ℕ, inl, inr}
use Rattle.std.specs.String.{string_bytes}
use Rattle.clap.specs.contracts.error.kind.ErrorKind.{the_type}
use Rattle.clap.specs.declared.error.kind.ErrorKind.TheVariants.{OutOfMemory}
use Rattle.clap.specs.Words.{App, IsAmong, fault_of, is_simple, is_simple_and_free, kind_of, matches_of}
use Rattle.program_words.proofs.Simple.{create_app_is_free, create_app_is_simple}
use Rattle.program_words.proofs.create_command.matches_in.Goals as goal

pub returns-in-Ok-clause-some : goal.returns-in-Ok-clause-some
returns-in-Ok-clause-some c =
    let is = c.in_ok-command.ensures in
    let words : List (List ℕ) = map (string_bytes {Z = Global}) c.args.words.now in (
      ap (λ (a : App). fault_of a words) (sym is) ∙ c.in-Ok.ensures.kinds (ap is_simple_and_free is ∙ create_app_is_free),
      (c.in-Ok.ensures.matches (ap is_simple is ∙ create_app_is_simple)).0 ∙ ap (λ (a : App). matches_of a words) is,
    )

pub returns-else-eq-clause-none : goal.returns-else-eq-clause-none
returns-else-eq-clause-none c =
    let is = c.in_ok-command.ensures in
    let words : List (List ℕ) = map (string_bytes {Z = Global}) c.args.words.now in
    λ _ none. elim (c.in-Err.ensures.kinds (ap is_simple_and_free is ∙ create_app_is_free)) [
      | inl memory ↦
          let same : c.eq.result ≡ true = c.eq.ensures ∙ ap (λ k. sameb the_type k OutOfMemory) (c.kind.ensures ∙ memory) in
          absurd (cc (sym c.if-eq.false ∙ same))
      | inr among ↦ subst (IsAmong (kind_of c.in-Err.error)) (ap (λ (a : App). fault_of a words) is ∙ none) among
    ]
