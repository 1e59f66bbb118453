use Rattle.memory_host_folder.specs.Told.{told_by}
use Rattle.memory_host_folder.proofs.Growing.{fits_at}
use Rattle.memory_host_folder.proofs.memory_folder.MemoryFolder.row.Goals as goal

pub returns-clause-link : goal.returns-clause-link
returns-clause-link c = fits_at (told_by c.self.inside.table) c.names.result.now c.row_at.result c.row_at.ensures c.self.invariant
