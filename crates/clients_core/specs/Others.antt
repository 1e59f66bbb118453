-- The greatest versions that other clients are known to have written: a finite map from blocks and clients.
use Rattle.std.specs.Prelude.{ℕ, Bool, List, map, unwrap_or, ◌&&◌, ◌==◌}
use Rattle.std.specs.List.{IsDistinct}
use Rattle.std.specs.Map.{keys_of}
use Rattle.std.specs.Str.{bytes_eq}
use Rattle.std.specs.Coded.{Coded, coded×, coded_ℕ, coded_list}
use Rattle.std.specs.FinMap as fin
use Rattle.std.specs.declared.cmp.Ordering.{Ordering}
use Rattle.std.specs.Ordering.{nat_cmp, on, then_cmp}
use Rattle.std.specs.Cmp.Lexicographic.{slice_cmp}
use Rattle.clients_core.specs.declared.others.Author.{Author}

-- a block and a client
abbrev pub Key : Type 0
Key = List ℕ × ℕ

-- by the bytes of ids, then by clients
abbrev pub key_cmp : Key → Key → Ordering
key_cmp = then_cmp (on (λ k. k.0) (slice_cmp nat_cmp)) (on (λ k. k.1) nat_cmp)

abbrev pub OtherVersions : Type 0
OtherVersions = fin.FinMap key_cmp ℕ

abbrev pub others_code : Coded OtherVersions
others_code = fin.code (coded× (coded_list coded_ℕ) coded_ℕ) coded_ℕ

abbrev pub plain_key : Author → Key
plain_key a = (a.id.0, a.client)

abbrev pub plain_entry : Author × ℕ → Key × ℕ
plain_entry e = (plain_key e.0, e.1)

abbrev pub others_of : List (Author × ℕ) → OtherVersions
others_of es = fin.from_entries (map plain_entry es)

-- the greatest version, and 0 where none is known
abbrev pub other_version : OtherVersions → List ℕ → ℕ → ℕ
other_version others id client = unwrap_or (fin.get others (id, client)) 0

-- what `==` answers at authors
abbrev pub same_author : Author → Author → Bool
same_author a b = bytes_eq a.id.0 b.id.0 && a.client == b.client

-- no two entries of the program's map are of one block and client
abbrev pub HaveDistinctAuthors : List (Author × ℕ) → Type 0
HaveDistinctAuthors es = IsDistinct same_author (keys_of es)
