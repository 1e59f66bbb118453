use Rattle.std.proofs.Common.{◌≡◌, ◌<◌, length, ap, subst, arith}
use Rattle.std.specs.Prelude.{IfSome}
use Rattle.copy_row.specs.host_folder.Folders.{AreRowsOf}
use Rattle.tree_copy.proofs.Stepping.{bare_told, rows_told}
use Rattle.tree_copy.proofs.exporting.is_bare.Goals as goal

pub returns-then-count-eq0-clause-bare : goal.returns-then-count-eq0-clause-bare
returns-then-count-eq0-clause-bare g c =
    let none : length c.in-Ok.rows ≡ 0 = omega (arith, ap length c.as_slice-count.ensures, c.if-count-eq0.true) in
    bare_told (g.F.Folder.tree c.args.host.now) c.in-Ok.rows c.in-Ok.ensures.tree (subst (λ z. IfSome (g.F.Folder.tree c.args.host.now) (λ t. AreRowsOf t z c.in-Ok.rows)) c.root.ensures c.in-Ok.ensures.ok) none

pub returns-clause-bare : goal.returns-clause-bare
returns-clause-bare g c =
    let some : 0 < length c.in-Ok.rows = omega (arith, ap length c.as_slice-count.ensures, c.if-count-eq0.false) in
    rows_told (g.F.Folder.tree c.args.host.now) c.in-Ok.rows (subst (λ z. IfSome (g.F.Folder.tree c.args.host.now) (λ t. AreRowsOf t z c.in-Ok.rows)) c.root.ensures c.in-Ok.ensures.ok) some
