-- What taking several versions makes of a client's numbers and of its list. The newest stands first; each is judged by the numbers at the start.
use Rattle.std.specs.Prelude.{◌≡◌, ◌<◌, ℕ, ◌+◌, Bool, true, false, ◌||◌, ◌==◌, List, [], ◌∷◌, if◌then◌else◌}
use Rattle.std.specs.Option.{option_map}
use Rattle.std.specs.Str.{bytes_eq}
use Rattle.std.specs.declared.option.Option.{Option}
use Rattle.std.specs.declared.option.Option.TheVariants.{None, Some}
use Rattle.std.specs.FinMap as fin
use Rattle.local_state.specs.Known.{Lives}
use Rattle.clients_core.specs.Judging.{judge_by, known_in}
use Rattle.clients_core.specs.Others.{OtherVersions}
use Rattle.clients_core.specs.Taking.{list_after}
use Rattle.clients_core.specs.Versions.{Version, is_superseded}

abbrev pub has_block : List Version → List ℕ → Bool
has_block [] id = false
has_block (v ∷ vs) id = bytes_eq id v.id || has_block vs id

abbrev pub lives_taken : ℕ → Lives → List Version → Lives
lives_taken own lives [] = lives
lives_taken own lives (t ∷ found) =
    if t.client == own then lives_taken own lives found
    else fin.insert (lives_taken own lives found) t.id (record { version = known_in (fin.get lives t.id) + 1; live = true })

abbrev pub others_taken : ℕ → OtherVersions → List Version → OtherVersions
others_taken own others [] = others
others_taken own others (t ∷ found) = if t.client == own then others_taken own others found else fin.insert (others_taken own others found) (t.id, t.client) t.version

-- the version under which one of another client is sealed anew
abbrev pub sealed_for : ℕ → Lives → Version → Option ℕ
sealed_for own lives t = if t.client == own then None else Some (known_in (fin.get lives t.id) + 1)

abbrev pub list_of_all : ℕ → Lives → List Version → List Version → List Version
list_of_all own lives [] h = h
list_of_all own lives (t ∷ found) h = list_after own t (sealed_for own lives t) (list_of_all own lives found h)

-- nothing is wrong with any, and each is of a block of its own
abbrev pub AreGood : ℕ → Lives → OtherVersions → List Version → Type 0
AreGood own lives others [] = Unit {0}
AreGood own lives others (t ∷ found) = (judge_by own lives others t ≡ None) × (0 < t.version) × (has_block found t.id ≡ false) × AreGood own lives others found

-- none was overtaken in the list as it was when it was taken
abbrev pub NoneOvertaken : ℕ → Lives → List Version → List Version → Type 0
NoneOvertaken own lives [] h = Unit {0}
NoneOvertaken own lives (t ∷ found) h = (is_superseded (list_of_all own lives found h) t ≡ false) × NoneOvertaken own lives found h

-- the same blocks are used, at the same versions; which of them are dead may differ
abbrev pub SameVersions : Lives → Lives → Type 0
SameVersions old new = (id : List ℕ) → option_map (λ life. life.version) (fin.get new id) ≡ option_map (λ life. life.version) (fin.get old id)
