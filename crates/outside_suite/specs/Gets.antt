-- What gets that gave what was wanted add to a trace.
use Rattle.std.specs.Prelude.{ℕ, List, [], ◌∷◌, Vec}
use Rattle.std.specs.BTreeMap.{get, BTreeMap}
use Rattle.std.specs.declared.alloc.Global.{Global}
use Rattle.std.specs.declared.option.Option.{Option}
use Rattle.outside.specs.declared.change.FileName.{FileName}
use Rattle.outside.specs.contracts.change.FileNameOrd.TheImpl as ord
use Rattle.outside.specs.Changes.{cut}
use Rattle.outside.specs.Trace.{Call, got, adds}
use Rattle.outside.specs.View.{at_of, bytes_of}

-- a get of at most so many bytes gave the front of these
abbrev pub gave : FileName → ℕ → Option (List ℕ) → Call
gave name max bytes = got (at_of name) max (cut max bytes)

-- the bytes that a map has for a name
abbrev pub file_in : BTreeMap FileName (Vec ℕ Global) → FileName → Option (List ℕ)
file_in files name = bytes_of (get ord.ghosts.cmp files name)

-- the trace after a get of each of these names gave the front of its file
abbrev pub after_gets : (FileName → Option (List ℕ)) → ℕ → List FileName → Option (List Call) → Option (List Call)
after_gets file max [] trace = trace
after_gets file max (name ∷ names) trace = after_gets file max names (adds trace (gave name max (file name)))
