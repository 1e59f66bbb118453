use Rattle.tower_tests.proofs.changes.give.Goals as goal

pub begin-requires-clause-few : goal.begin-requires-clause-few
begin-requires-clause-few g c = c.put_one-given.ensures.few c.requires.1.few
