-- What is shown of a record, and what is kept of one that is given.
use Rattle.std.specs.Prelude.{◌≡◌, ℕ, ◌-◌, drop, ◌==◌, Bool, true, false, ◌&&◌, List, [], ◌++◌, length, take, slice_set, nat_eq, if◌then◌else◌}
use Rattle.std.specs.List.{starts_with}
use Rattle.std.specs.Option.{option_map}
use Rattle.std.specs.declared.option.Option.{Option}
use Rattle.std.specs.declared.option.Option.TheVariants.{None, Some}
use Rattle.local_state.specs.Record.{magic_of}
use Rattle.local_state.specs.declared.state.Form.TheVariants.{Newer}
use Rattle.std.proofs.Common.{ap}
use Rattle.outside.specs.Plain.{IsPlain}
use Rattle.local_state.specs.Reading.{◌>>=◌}
use Rattle.shared_records.specs.Scan.{are_others, front_past, split_at}

-- the place of the digit that is the form's number
abbrev pub digit_place : ℕ
digit_place = 17

-- of a record of several clients the front, as a record of one
abbrev pub front_of : Option ℕ → List ℕ → List ℕ
front_of None bytes = bytes
front_of (Some n) bytes = take n (slice_set bytes digit_place 50)

abbrev pub shown : List ℕ → List ℕ
shown bytes = front_of (split_at bytes) bytes

abbrev pub shows : Option (List ℕ) → Option (List ℕ)
shows kept = option_map shown kept

-- whether a record is kept that is one of several clients, and the versions of others in it
abbrev pub is_split : Option ℕ → Bool
is_split None = false
is_split (Some n) = true

abbrev pub is_shared_kept : Option (List ℕ) → Bool
is_shared_kept None = false
is_shared_kept (Some bytes) = is_split (split_at bytes)

abbrev pub behind : Option ℕ → List ℕ → List ℕ
behind None bytes = []
behind (Some n) bytes = drop n bytes

abbrev pub entries_kept : Option (List ℕ) → List ℕ
entries_kept None = []
entries_kept (Some bytes) = behind (split_at bytes) bytes

-- these entries behind it, as a record of several clients
abbrev pub with_entries : List ℕ → List ℕ → List ℕ
with_entries entries bytes = slice_set bytes digit_place 51 ++ entries

-- the entries begin there, where the whole is a record of several clients
abbrev pub splits_so : Option ℕ → ℕ → Bool
splits_so None n = false
splits_so (Some m) n = m == n

-- a record of one client, which the entries make one of several
abbrev pub may_join : List ℕ → List ℕ → Bool
may_join entries bytes = starts_with nat_eq bytes (magic_of Newer) && splits_so (split_at (with_entries entries bytes)) (length bytes)

-- what is kept of a record that is given
abbrev pub joined : List ℕ → List ℕ → List ℕ
joined entries bytes = if may_join entries bytes then with_entries entries bytes else bytes

-- a keeper below, whether its record is one of several clients, whether that was found out, the entries, and how long a record may be
pub record SharedView (K : Type 0) : Type 0 where
  pub keeper : K
  pub shared : Bool
  pub loaded : Bool
  pub entries : List ℕ
  pub room : ℕ

-- what the first load finds
pub record FoundFirst {K : Type 0} (kept : Option (List ℕ)) (new : SharedView K) : Type 0 where
  pub loaded : new.loaded ≡ true
  pub shared : new.shared ≡ is_shared_kept kept
  pub entries : new.entries ≡ entries_kept kept

-- all but how long a record may be, and the keeper below
pub record StaysBut {K : Type 0} (old new : SharedView K) : Type 0 where
  pub shared : new.shared ≡ old.shared
  pub loaded : new.loaded ≡ old.loaded
  pub entries : new.entries ≡ old.entries

-- bytes that begin otherwise are no record of several clients
pub plain_splits : (bytes : List ℕ) → IsPlain bytes → split_at bytes ≡ None
unfolding split_at
plain_splits bytes plain = ap (λ (b : Bool). if b then (front_past (drop 19 bytes) >>= (λ front. if are_others front.0 front.1 then Some (length bytes - length front.1) else None)) else None) plain
