use Rattle.answers.proofs.OneReading.{one_reading}
use Rattle.answers.proofs.law.texts_have_one_reading.Goals as goal

pub returns : goal.returns
returns c = one_reading
