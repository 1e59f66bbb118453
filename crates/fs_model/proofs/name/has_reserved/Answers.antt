use Rattle.std.proofs.Common.{◌≡◌, true, false, sym, ap, ◌∙◌}
use Rattle.std.specs.Prelude.{◌||◌, ◌==◌}
use Rattle.std.specs.List.{list_any}
use Rattle.fs_model.specs.Names.{is_zero}
use Rattle.fs_model.proofs.Reserved.{any_of_two}
use Rattle.fs_model.proofs.name.has_reserved.Goals as goal

pub returns-then-has_zero : goal.returns-then-has_zero
returns-then-has_zero c =
    let bs = c.args.bytes.now in
    let zero : list_any is_zero bs ≡ true = sym c.has_zero.ensures ∙ c.if-has_zero.true in
    c.if-has_zero.true ∙ sym (any_of_two is_zero (λ b. b == 47) bs ∙ ap (λ found. found || list_any (λ b. b == 47) bs) zero)

pub returns-else-has_zero : goal.returns-else-has_zero
returns-else-has_zero c =
    let bs = c.args.bytes.now in
    let none : list_any is_zero bs ≡ false = sym c.has_zero.ensures ∙ c.if-has_zero.false in
    c.contains.ensures.value ∙ sym (any_of_two is_zero (λ b. b == 47) bs ∙ ap (λ found. found || list_any (λ b. b == 47) bs) none)
