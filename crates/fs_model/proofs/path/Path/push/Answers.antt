-- The names stay names.
use Rattle.std.proofs.Common.{All, sym, subst}
use Rattle.std.proofs.lemmas.List.Elements.{All-push}
use Rattle.fs_model.specs.Names.{IsName}
use Rattle.fs_model.proofs.path.Path.push.Goals as goal

pub invariant_of-self : goal.invariant_of-self
invariant_of-self c = subst (All IsName) (sym c.in_err-push.ensures.items) c.self.invariant

pub invariant_of-self-2 : goal.invariant_of-self-2
invariant_of-self-2 c =
    let name = subst IsName c.as_slice-bytes.ensures.value c.as_slice-bytes.ensures.name in
    subst (All IsName) (sym c.in_ok-push.ensures.items) (All-push IsName c.self.inside.names.items c.args.name c.self.invariant name)
