use Rattle.mount_serving.proofs.rows.read_directory.Given as goal

abbrev pub invariant-rows : goal.invariant-rows
invariant-rows g l = g.H.Host.hosting.ready l.host
