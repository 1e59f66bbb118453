-- The IVs of a batch: for each payload, by rising ids, 16 bytes that were drawn.
use Rattle.std.specs.Prelude.{◌≡◌, ℕ, zero, suc, List, [], ◌∷◌, take, drop, map, length}
use Rattle.std.specs.FinMap as fin
use Rattle.std.specs.declared.option.Option.{Option}
use Rattle.std.specs.declared.option.Option.TheVariants.{None, Some}
use Rattle.rand_core.specs.Stream.{Stream, fill_bytes}
use Rattle.outside.specs.Trace.{At, block}
use Rattle.outside.specs.Changes.{change_at}
use Rattle.store_api.specs.Content.{Id, Changes}

-- so many fills of 16 bytes, and what is left of the stream
abbrev pub draws : ℕ → Stream → List (List ℕ) × Stream
draws zero stream = ([], stream)
draws (suc n) stream =
    let first = fill_bytes 16 stream in
    let others = draws n first.1 in
    (first.0 ∷ others.0, others.1)

-- the ids that get a payload
abbrev pub given_in : List (Id × Option (List ℕ)) → List Id
given_in [] = []
given_in ((id, Some payload) ∷ entries) = id ∷ given_in entries
given_in ((id, None) ∷ entries) = given_in entries

-- the same, by rising ids
abbrev pub given_ids : Changes → List Id
given_ids changes = given_in (fin.entries changes)

-- bytes 16 to 31 of a file
abbrev pub iv_in : List ℕ → List ℕ
iv_in file = take 16 (drop 16 file)

-- the IV of the file that waits
abbrev pub iv_of : Option (Option (List ℕ)) → List ℕ
iv_of None = []
iv_of (Some None) = []
iv_of (Some (Some file)) = iv_in file

-- the IVs of the files that wait for a batch's payloads, by rising ids, are what was drawn, and this is left of the stream
abbrev pub AreDrawn : Changes → List (At × Option (List ℕ)) → Stream → Stream → Type 0
AreDrawn changes list stream left = (map (λ id. iv_of (change_at (block id) list)) (given_ids changes), left) ≡ draws (length (given_ids changes)) stream
