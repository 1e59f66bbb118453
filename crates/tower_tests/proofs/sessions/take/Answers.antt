use Rattle.tower_tests.proofs.sessions.take.Goals as goal

pub begin-requires-clause-few : goal.begin-requires-clause-few
begin-requires-clause-few g c = c.act-done.ensures.few c.requires.1.few
