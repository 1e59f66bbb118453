use Rattle.std.proofs.Common.{List, [], ◌∷◌, ◌++◌, sym, ap, ◌∙◌}
use Rattle.std.proofs.lemmas.List.{map_push}
use Rattle.std.specs.Map.Iter.{deref_pair}
use Rattle.block_id.specs.declared.id.BlockId.{BlockId}
use Rattle.local_state.specs.declared.life.Life.{Life}
use Rattle.local_state.proofs.lives.entries_of.Goals as goal

pub loop-id-preserved : goal.loop-id-preserved
loop-id-preserved c =
    c.in_ok-push.ensures.items ∙ ap (λ (es : List (BlockId × Life)). es ++ (c.in-Some.id.now, c.in-Some.life.now) ∷ []) c.loop-id.invariant
    ∙ sym (map_push deref_pair c.loop-id.yielded (c.in-Some.id, c.in-Some.life))
