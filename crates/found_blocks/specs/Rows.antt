-- Found blocks, each with the client and the version that its file names.
use Rattle.std.specs.Prelude.{ℕ, List, map}
use Rattle.std.specs.FinMap.{find}
use Rattle.std.specs.declared.option.Option.{Option}
use Rattle.block_id.specs.declared.id.BlockId.{BlockId}
use Rattle.store_api.specs.Content.{Id, id_cmp}
use Rattle.found_blocks.specs.declared.rows.FoundRow.{FoundRow}

-- a client and a version
abbrev pub Author : Type 0
Author = ℕ × ℕ

-- blocks by rising ids, each with its author
abbrev pub Authors : Type 0
Authors = List (Id × Author)

abbrev pub author_of : FoundRow → Author
author_of row = (row.client, row.version)

abbrev pub row_entry : FoundRow → Id × Author
row_entry row = (row.id.0, author_of row)

-- the author of this block, if it was found
abbrev pub author_in : Authors → Id → Option Author
author_in rows id = find id_cmp id rows

abbrev pub ids_in : Authors → List Id
ids_in rows = map (λ row. row.0) rows

-- the entries of a tree of rows
abbrev pub entry_in : BlockId × FoundRow → Id × Author
entry_in entry = (entry.0.0, author_of entry.1)

abbrev pub entries_in : List (BlockId × FoundRow) → Authors
entries_in entries = map entry_in entries
