use Rattle.std.proofs.Common.{ap, sym, ◌∙◌, ◌++◌, ◌≡◌, []}
use Rattle.std.specs.Option.{option_map}
use Rattle.std.proofs.lemmas.Bool.{eqb-true}
use Rattle.std.proofs.lemmas.List.{nil_from_length}
use Rattle.script_text.specs.Escapes.{unescaped}
use Rattle.script_text.specs.Grammar.{formed}
use Rattle.script_text.proofs.Spelled.{none_more}
use Rattle.script_text.proofs.escapes.unescaped.Goals as goal

pub returns : goal.returns
returns c =
    let bytes = c.loop-rest.bytes.items in
    let done : c.loop-rest.rest.now ≡ [] = nil_from_length c.loop-rest.rest.now (eqb-true _ 0 (sym c.loop-rest-test.ensures)) in
    ap formed (c.loop-rest.invariant ∙ ap (λ r. option_map (λ after. bytes ++ after) (unescaped r)) done ∙ none_more bytes)
