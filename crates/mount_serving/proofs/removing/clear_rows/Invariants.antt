use Rattle.mount_serving.proofs.removing.clear_rows.Given as goal

abbrev pub invariant-rows : goal.invariant-rows
invariant-rows g l = g.H.Host.hosting.ready l.host
