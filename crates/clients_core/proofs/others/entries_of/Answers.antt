use Rattle.std.proofs.Common.{ℕ, List, [], ◌∷◌, ◌++◌, sym, ap, ◌∙◌}
use Rattle.std.proofs.lemmas.List.{map_push}
use Rattle.std.specs.Map.Iter.{deref_pair}
use Rattle.clients_core.specs.declared.others.Author.{Author}
use Rattle.clients_core.proofs.others.entries_of.Goals as goal

pub loop-author-preserved : goal.loop-author-preserved
loop-author-preserved c =
    c.in_ok-push.ensures.items ∙ ap (λ (es : List (Author × ℕ)). es ++ (c.in-Some.author.now, c.in-Some.version.now) ∷ []) c.loop-author.invariant
    ∙ sym (map_push deref_pair c.loop-author.yielded (c.in-Some.author, c.in-Some.version))
