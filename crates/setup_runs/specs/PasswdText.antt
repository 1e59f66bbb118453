-- What `passwd` prints.
use Rattle.std.specs.Prelude.{◌≡◌, ℕ, List, codes, Result, Ok, Err}
use Rattle.run_frame.specs.line_io.Streams.{Stream, Untouched}
use Rattle.run_frame.specs.Statuses.{closing_status}
use Rattle.run_status.specs.declared.status.Status.{Status}
use Rattle.mount_migrating.specs.script_text.Texts.{line}
use Rattle.mount_migrating.specs.record_saver.declared.saver.SyncError.{SyncError}
use Rattle.setup_runs.specs.Printing.{Printed}

-- what is printed
abbrev pub changed_text : List ℕ
changed_text = line (codes "changed")

-- after a change it was printed; the error of one that failed is told
abbrev pub Reports : Result Unit SyncError → Stream → Status → Type 0
Reports (Ok _) output told = Printed output changed_text told
Reports (Err error) output told = (told ≡ closing_status (Err error)) × Untouched output
