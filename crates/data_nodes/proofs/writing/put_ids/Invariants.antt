use Rattle.std.proofs.Common.{◌≡◌, ◌++◌, length, take, All}
use Rattle.std.specs.List.{concat}
use Rattle.data_nodes.specs.Layout.{ids_of}
use Rattle.data_nodes.proofs.writing.put_ids.Given as goal

abbrev pub invariant-loop-id : goal.invariant-loop-id
invariant-loop-id l = record {
  text : l.out.items ≡ l.initial.out.items ++ concat (ids_of (take l.id-index l.ids));
  types : All (λ id. length id.0 ≡ 16) (take l.id-index l.ids);
}
