use Rattle.path_tests.proofs.tower.rooted.Goals as goal

pub returns-clause-few : goal.returns-clause-few
returns-clause-few g c = c.put_one.ensures.few c.requires.few
