use Rattle.std.proofs.Common.{◌≡◌, ◌<◌, length, sym, arith}
use Rattle.std.proofs.lemmas.Bool.Decides.{nat_tests}
use Rattle.fs_model.proofs.PathLemmas.{more_than_none}
use Rattle.fs_model.proofs.paths.+cmp_names.Goals as goal

pub returns-then-is_empty-3 : goal.returns-then-is_empty-3
returns-then-is_empty-3 t c =
    let some : 0 < length c.args.a.now = grind (arith, nat_tests, c.if-is_empty.false, c.is_empty.ensures) in
    let none : length c.args.b.now ≡ 0 = grind (arith, nat_tests, c.if-is_empty-3.true, c.is_empty-2.ensures) in
    sym (more_than_none c.args.a.now c.args.b.now some none)
