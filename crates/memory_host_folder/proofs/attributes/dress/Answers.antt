use Rattle.std.proofs.Common.{◌≡◌, List, ℕ, refl, subst}
use Rattle.std.specs.Prelude.{IfOk}
use Rattle.std.specs.Option.{IsSome}
use Rattle.fs_model.proofs.PathLemmas.{not_root}
use Rattle.memory_host_folder.proofs.Dressed.{any_names, set_dressed}
use Rattle.memory_host_folder.proofs.attributes.dress.Goals as goal

pub set-requires-clause-named : goal.set-requires-clause-named
set-requires-clause-named c = not_root c.names-names.result.now (any_names c.names-names.result.now c.is_empty.ensures c.if-is_empty.false)

pub set-requires-clause-there : goal.set-requires-clause-there
set-requires-clause-there c = subst IsSome c.in-Some.ensures refl

pub returns-in-Ok-clause-ok : goal.returns-in-Ok-clause-ok
returns-in-Ok-clause-ok c =
    (set_dressed c.args.table.now c.set.new.self c.names-names.result.now c.args.path.now c.in-Some.old c.args.attr c.set_onto.result c.in-Some.bytes.now c.in-Ok.bytes.items
    c.names-names.ensures c.in-Some.ensures c.set_onto.ensures (subst (λ r. IfOk r (λ copy. copy.items ≡ c.in-Some.bytes.now)) c.in-Ok.is c.copied.ensures) c.set.ensures.tree).0

pub returns-in-Ok-clause-same : goal.returns-in-Ok-clause-same
returns-in-Ok-clause-same c =
    (set_dressed c.args.table.now c.set.new.self c.names-names.result.now c.args.path.now c.in-Some.old c.args.attr c.set_onto.result c.in-Some.bytes.now c.in-Ok.bytes.items
    c.names-names.ensures c.in-Some.ensures c.set_onto.ensures (subst (λ r. IfOk r (λ copy. copy.items ≡ c.in-Some.bytes.now)) c.in-Ok.is c.copied.ensures) c.set.ensures.tree).1
