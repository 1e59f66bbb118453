-- Versions of other clients as a list, in the order of a record.
use Rattle.std.specs.Prelude.{◌≡◌, ◌≢◌, ◌^◌, ◌<◌, ℕ, Bool, true, List, [], ◌∷◌, length, map}
use Rattle.std.specs.List.{AllByRecursion}
use Rattle.std.specs.Ordering.{is_lt}
use Rattle.std.specs.declared.option.Option.{Option}
use Rattle.std.specs.declared.option.Option.TheVariants.{None, Some}
use Rattle.std.specs.FinMap as fin
use Rattle.clients_core.specs.Others.{Key, key_cmp, OtherVersions}
use Rattle.clients_core.specs.Versions.{Version}

-- a block and a client, with the version
abbrev pub listed_entry : Version → Key × ℕ
listed_entry v = ((v.id, v.client), v.version)

-- what a list notes
abbrev pub listed_in : List Version → OtherVersions
listed_in vs = fin.from_entries (map listed_entry vs)

-- by rising ids, and of one block by rising clients
abbrev pub comes_by : Option Version → Version → Bool
comes_by None v = true
comes_by (Some u) v = is_lt (key_cmp (u.id, u.client) (v.id, v.client))

abbrev pub RiseBy : Option Version → List Version → Type 0
RiseBy previous [] = Unit {0}
RiseBy previous (v ∷ vs) = (comes_by previous v ≡ true) × RiseBy (Some v) vs

-- its fields fit those of a record
pub record IsInRange (v : Version) : Type 0 where
  pub id : length v.id ≡ 16
  pub client : v.client < 2 ^ 32
  pub version : v.version < 2 ^ 64

-- a version of another client, as it can stand in a record
pub record FitsOther (own : ℕ) (v : Version) : Type 0 where
  pub range : IsInRange v
  pub foreign : v.client ≢ own

-- these can stand in the record of this client
pub record FitsOthers (own : ℕ) (vs : List Version) : Type 0 where
  pub each : AllByRecursion (FitsOther own) vs
  pub order : RiseBy None vs
  pub count : length vs < 2 ^ 64

-- no version of the own client is noted
abbrev pub HasNoOwn : ℕ → OtherVersions → Type 0
HasNoOwn own others = (id : List ℕ) → fin.get others (id, own) ≡ None
