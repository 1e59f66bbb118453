use Rattle.std.proofs.Common.{◌≡◌, ◌-◌, length, Some, get_or, sym, ap, ◌∙◌, is_lt, arith}
use Rattle.std.specs.Prelude.{slice_get}
use Rattle.std.proofs.lemmas.Option.{slice_get_within, get_or_from_slice_get}
use Rattle.fs_model.specs.Tree.{name_cmp}
use Rattle.dir_entries.proofs.Bodies.{rises-last}
use Rattle.dir_entries.proofs.decode.comes_after.Goals as goal

pub returns-in-Some : goal.returns-in-Some
returns-in-Some c =
    let entries = c.args.entries.now in
    let last = c.in-Some.last.now in
    let at : slice_get entries (length entries - 1) ≡ Some last = sym c.in-Some.ensures.value in
    let within = slice_get_within entries (length entries - 1) last at in
    let is : get_or entries (length entries - 1) last ≡ last = get_or_from_slice_get entries (length entries - 1) last last at in
    let order : c.is_lt.result ≡ is_lt (name_cmp last.name c.args.name.now) = cc in
    order ∙ ap (λ e. is_lt (name_cmp e.name c.args.name.now)) (sym is) ∙ sym (rises-last entries last c.args.name.now (omega arith))
