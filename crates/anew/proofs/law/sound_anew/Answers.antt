use Rattle.anew.proofs.Sound.{sound_anew}
use Rattle.anew.proofs.law.sound_anew.Goals as goal

pub returns : goal.returns
returns c h file before trace alike no_block client a = sound_anew h file before trace alike no_block client a
