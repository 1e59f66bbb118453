use Rattle.block_versions.proofs.Fronts.{whole_judged, whole_seen}
use Rattle.block_versions.proofs.laws.fronts_as_wholes.Goals as goal

pub returns-clause-seen : goal.returns-clause-seen
returns-clause-seen c = λ size most whole fits long. whole_seen size most whole fits long

pub returns-clause-judged : goal.returns-clause-judged
returns-clause-judged c = λ size most id client known whole long. whole_judged size most id client known whole long
