use Rattle.script_text.proofs.OneReading.{one_reading}
use Rattle.script_text.proofs.law.texts_have_one_reading.Goals as goal

pub returns : goal.returns
returns c = one_reading
