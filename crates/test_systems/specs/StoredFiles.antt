-- Stored files that are changed without a call.
use Rattle.std.specs.Prelude.{ℕ, List, [], ◌∷◌, ◌++◌}
use Rattle.std.specs.declared.option.Option.{Option}
use Rattle.std.specs.declared.option.Option.TheVariants.{None, Some}
use Rattle.outside.specs.Changes.{FileChanges}
use Rattle.outside.specs.Trace.{At}
use Rattle.memory_outside.specs.Vaults.{without}

-- the files, of which this one has these bytes and stands behind the others, or isn't there
abbrev pub with_file : At → Option (List ℕ) → FileChanges → FileChanges
with_file name None files = without name files
with_file name (Some bytes) files = without name files ++ (name, Some bytes) ∷ []
