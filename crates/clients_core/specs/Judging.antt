-- What is wrong with a version that came for a block, by what a client has seen: the first that holds.
use Rattle.std.specs.Prelude.{ℕ, Bool, false, not, ◌&&◌, ◌==◌, nat_lt, if◌then◌else◌}
use Rattle.std.specs.declared.option.Option.{Option}
use Rattle.std.specs.declared.option.Option.TheVariants.{None, Some}
use Rattle.std.specs.FinMap as fin
use Rattle.local_state.specs.declared.life.Life.{Life}
use Rattle.local_state.specs.Known.{Lives}
use Rattle.clients_core.specs.declared.seen.Seen.{Seen}
use Rattle.clients_core.specs.declared.stale.Stale.{Stale}
use Rattle.clients_core.specs.declared.stale.Stale.TheVariants.{Lower, Ahead, Replaced, Deleted}
use Rattle.clients_core.specs.Others.{OtherVersions, other_version}
use Rattle.clients_core.specs.Versions.{Version}

-- the version, and 0 of an id that isn't used
abbrev pub known_in : Option Life → ℕ
known_in None = 0
known_in (Some life) = life.version

abbrev pub is_dead : Option Life → Bool
is_dead None = false
is_dead (Some life) = not life.live

-- of the own client: a removed block; a lower version than the known one; a higher one
abbrev pub judge_own : Option Life → ℕ → Option Stale
judge_own life found =
    if is_dead life && found == known_in life then Some Deleted
    else if nat_lt found (known_in life) then Some (Lower (known_in life) found)
    else if nat_lt (known_in life) found then Some (Ahead (known_in life) found)
    else None

-- of another client, of which this version is noted: a lower one; the same, which was sealed anew
abbrev pub judge_other : ℕ → Option Life → ℕ → ℕ → Option Stale
judge_other own life noted found =
    if nat_lt found noted then Some (Lower noted found)
    else if found == noted && nat_lt 0 noted then Some (Replaced own (known_in life))
    else None

abbrev pub judge_by : ℕ → Lives → OtherVersions → Version → Option Stale
judge_by own lives others t =
    if t.client == own then judge_own (fin.get lives t.id) t.version
    else judge_other own (fin.get lives t.id) (other_version others t.id t.client) t.version

abbrev pub judge : Seen → Version → Option Stale
judge seen t = judge_by seen.own seen.known.lives seen.others t
