-- A text that is written at the end of a run.
use Rattle.std.specs.Prelude.{◌≡◌, ℕ, List}
use Rattle.outside.specs.Streams.{appends}
use Rattle.run_frame.specs.line_io.Streams.{Stream, HasFailed, Cut}
use Rattle.run_frame.specs.session_lines.Driven.{IsUnfailed}
use Rattle.run_status.specs.declared.status.Status.{Status}
use Rattle.run_status.specs.declared.status.Status.TheVariants.{Done, OutputFault}

-- the text was written whole, or a part of it from its front where the sink failed
abbrev pub Printed : Stream → List ℕ → Status → Type 0
Printed output text Done = (output.new ≡ appends output.old text) × IsUnfailed output
Printed output text OutputFault = Cut output.old output.new text × HasFailed output
Printed output text status = ⊥
