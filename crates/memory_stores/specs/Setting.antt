-- Changes that are set one after another.
use Rattle.std.specs.Prelude.{ℕ, List, [], ◌∷◌, Option}
use Rattle.std.specs.FinMap as fin
use Rattle.store_api.specs.Content.{Id, Changes}

abbrev pub put_all : List (Id × Option (List ℕ)) → Changes → Changes
put_all [] rows = rows
put_all (entry ∷ entries) rows = put_all entries (fin.insert rows entry.0 entry.1)
