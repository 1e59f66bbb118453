use Rattle.mount_serving.proofs.serving.serve_asked.Given as goal

abbrev pub invariant-turns : goal.invariant-turns
invariant-turns g l = g.H.Host.hosting.ready l.host
