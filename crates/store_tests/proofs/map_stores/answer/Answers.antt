use Rattle.store_tests.proofs.map_stores.answer.Goals as goal

pub begin-requires-clause-few : goal.begin-requires-clause-few
begin-requires-clause-few g c = c.requires.1.few
