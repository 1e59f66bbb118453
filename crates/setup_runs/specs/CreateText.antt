-- What `create` prints.
use Rattle.std.specs.Prelude.{◌≡◌, ℕ, List, ◌++◌, codes, Result, Ok, Err}
use Rattle.block_id.specs.declared.id.BlockId.{BlockId}
use Rattle.block_id.specs.Name.{name_of}
use Rattle.run_frame.specs.line_io.Streams.{Stream, Untouched}
use Rattle.run_frame.specs.mount_stores.declared.error.OpenError.{OpenError}
use Rattle.run_frame.specs.Statuses.{opening_status}
use Rattle.run_status.specs.declared.status.Status.{Status}
use Rattle.mount_migrating.specs.script_text.Texts.{line}
use Rattle.setup_runs.specs.Printing.{Printed}

-- what is printed
abbrev pub created_text : List ℕ → List ℕ
created_text fs_id = line (codes "created " ++ name_of fs_id)

-- the id of a file system that was made was printed; the error of one that wasn't is the status
abbrev pub Reports : Result BlockId OpenError → Stream → Status → Type 0
Reports (Ok id) output status = Printed output (created_text id.0) status
Reports (Err error) output status = (status ≡ opening_status error) × Untouched output
