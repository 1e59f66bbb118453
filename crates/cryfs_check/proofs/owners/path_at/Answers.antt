use Rattle.std.proofs.Common.{◌≡◌, ℕ, ◌-◌, List, [], ◌++◌, take, sym, ◌∙◌, ap, append-nil}
use Rattle.std.specs.Prelude.{reverse, vec_len}
use Rattle.cryfs_check.proofs.owners.path_at.Goals as goal

pub returns : goal.returns
returns c =
    let none : vec_len c.loop-name.names ≡ 0 = c.in_default.ensures.cases.0 in
    let empty : c.loop-name.names.items ≡ [] =
    c.in_default.ensures.items ∙ (append-nil c.pop.new.self.items ∙ (c.in_default.ensures.rest ∙ ap (λ n. take (n - 1) c.loop-name.names.items) none)) in
    sym (append-nil c.loop-name.path) ∙ (ap (λ (xs : List (List ℕ)). c.loop-name.path ++ reverse xs) (sym empty) ∙ (c.loop-name.invariant ∙ ap reverse c.in_ok-names.ensures))
