-- What words say, by what was found out about them.
use Rattle.std.proofs.Common.{◌≡◌, Bool, true, false, cond, List, [], length, Option, None, refl, sym, ap, ◌∙◌}
use Rattle.std.specs.Prelude.{◌≢◌, ◌&&◌, not}
use Rattle.std.proofs.lemmas.Bool.{eqb-true}
use Rattle.std.proofs.lemmas.List.{nil_from_length}
use Rattle.clap.specs.Walk.{is_empty}
use Rattle.clap.specs.Words.{Row, Text, fault_of}
use Rattle.program_words.specs.CreateCommand.{create_app, has_separator, values_in}
use Rattle.program_words.specs.CreateOptions.{options_at, options_of}

pub none_by_separator : (words : List Text) → has_separator words ≡ true → None ≡ options_of words
unfolding options_of
none_by_separator words found = sym (ap (λ (b : Bool). cond (not b && is_empty (fault_of create_app words)) (options_at (values_in words)) None) found)

faulty : {Y : Type 0} (b e : Bool) (found : Option Y) → (e ≡ true → ⊥) → None ≡ cond (not b && e) found None
faulty true e found some = refl
faulty false true found some = absurd (some refl)
faulty false false found some = refl

pub none_by_fault : (words : List Text) → fault_of create_app words ≢ [] → None ≡ options_of words
unfolding options_of
none_by_fault words some =
    let fault = fault_of create_app words in
    faulty (has_separator words) (is_empty fault) (options_at (values_in words)) (λ none. some (nil_from_length fault (eqb-true (length fault) 0 none)))

faultless : {X Y : Type 0} (b : Bool) (fault : List X) (found : Option Y) → b ≡ false → fault ≡ [] → found ≡ cond (not b && is_empty fault) found None
faultless b fault found none right = sym (rw (none, right) refl)

pub by_values : (words : List Text) (rows : List Row) → has_separator words ≡ false → fault_of create_app words ≡ [] → rows ≡ values_in words → options_at rows ≡ options_of words
unfolding options_of
by_values words rows none right is = ap options_at is ∙ faultless (has_separator words) (fault_of create_app words) (options_at (values_in words)) none right
