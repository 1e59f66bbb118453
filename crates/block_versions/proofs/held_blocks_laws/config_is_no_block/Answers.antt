use Rattle.block_versions.proofs.ConfigReads.{read_sound, read_content, read_forgeries}
use Rattle.block_versions.proofs.held_blocks_laws.config_is_no_block.Goals as goal

pub returns-clause-sound : goal.returns-clause-sound
returns-clause-sound c = read_sound

pub returns-clause-content : goal.returns-clause-content
returns-clause-content c = read_content

pub returns-clause-forgeries : goal.returns-clause-forgeries
returns-clause-forgeries c = read_forgeries
