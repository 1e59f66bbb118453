-- The local record: a state and the unwritten list, as bytes. Numbers stand low byte first.
use Rattle.std.specs.Prelude.{◌≡◌, ℕ, ◌^◌, ◌<◌, ◌≤◌, Bool, true, false, List, [], ◌∷◌, ◌++◌, length, codes, Option, Some, None}
use Rattle.std.specs.Int.{w32, w64, to_le_bytes}
use Rattle.std.specs.List.{flat_map, AllByRecursion}
use Rattle.std.specs.Ordering.{nat_cmp, is_lt}
use Rattle.std.specs.Cmp.Lexicographic.{slice_cmp}
use Rattle.std.specs.FinMap as fin
use Rattle.std.specs.Global.{Vec}
use Rattle.outside.specs.declared.change.Pending.{Pending}
use Rattle.outside.specs.View.{list_of}
use Rattle.outside.specs.Trace.{At, config, block}
use Rattle.local_state.specs.declared.life.Life.{Life}
use Rattle.local_state.specs.declared.state.State.{State}
use Rattle.local_state.specs.declared.state.Form.{Form}
use Rattle.local_state.specs.declared.state.Form.TheVariants.{Older, Newer}
use Rattle.local_state.specs.Known.{Lives, FitLives, is_live_in, is_dead_in}

-- ---- what a record holds

-- a state without where it lies in memory
pub record PlainState : Type 0 where
  pub marked : Bool
  -- the least format of blocks' files that are taken
  pub least : ℕ
  pub fs_id : List ℕ
  pub key_salt : List ℕ
  pub key_digest : List ℕ
  pub client : ℕ
  pub lives : Lives

abbrev pub plain_state : State → PlainState
plain_state s = record { marked = s.marked; least = s.least; fs_id = s.fs_id.0; key_salt = s.key_salt; key_digest = s.key_digest; client = s.client; lives = s.known.lives }

-- the same state with its mark set
abbrev pub with_mark : PlainState → PlainState
with_mark s = record s { marked = true }

-- a file and its change: new bytes, or none for a removal
abbrev pub ListEntry : Type 0
ListEntry = At × Option (List ℕ)

abbrev pub plain_record : State × Vec Pending → PlainState × List ListEntry
plain_record x = (plain_state x.0, list_of x.1.items)

-- ---- its bytes

-- `cryfs.localstate;1` or `cryfs.localstate;2`, and a zero byte
abbrev pub magic_of : Form → List ℕ
magic_of Older = codes "cryfs.localstate;1" ++ 0 ∷ []
magic_of Newer = codes "cryfs.localstate;2" ++ 0 ∷ []

-- the least format, where the form says it
abbrev pub least_bytes : Form → ℕ → List ℕ
least_bytes Older least = []
least_bytes Newer least = least ∷ []

-- a least format: 1 or 2
pub record IsLeast (n : ℕ) : Type 0 where
  pub from_one : 1 ≤ n
  pub to_two : n ≤ 2

-- what a record of this form may be of
abbrev pub Allows : Form → ℕ → Type 0
Allows Older least = least ≡ 1
Allows Newer least = Unit {0}

abbrev pub flag : Bool → ℕ
flag false = 0
flag true = 1

-- a known block: id, version, and whether it lives
abbrev pub life_bytes : List ℕ × Life → List ℕ
life_bytes e = e.0 ++ (to_le_bytes w64 e.1.version ++ flag e.1.live ∷ [])

-- the number of known blocks, and these
abbrev pub known_bytes : List (List ℕ × Life) → List ℕ
known_bytes es = to_le_bytes w64 (length es) ++ flat_map life_bytes es

-- by rising ids
abbrev pub lives_bytes : Lives → List ℕ
lives_bytes lives = known_bytes (fin.entries lives)

abbrev pub name_bytes : At → List ℕ
name_bytes config = 0 ∷ []
name_bytes (block id) = 1 ∷ id

-- a removal, or the length of the new bytes and these
abbrev pub change_bytes : Option (List ℕ) → List ℕ
change_bytes None = 0 ∷ []
change_bytes (Some bytes) = 1 ∷ (to_le_bytes w32 (length bytes) ++ bytes)

abbrev pub entry_bytes : ListEntry → List ℕ
entry_bytes e = name_bytes e.0 ++ change_bytes e.1

abbrev pub list_bytes : List ListEntry → List ℕ
list_bytes list = to_le_bytes w64 (length list) ++ flat_map entry_bytes list

-- what stands before the known blocks
unfoldable pub head_bytes : Form → PlainState → List ℕ
head_bytes f s = magic_of f ++ (flag s.marked ∷ (least_bytes f s.least ++ (s.fs_id ++ (s.key_salt ++ (s.key_digest ++ to_le_bytes w32 s.client)))))

unfoldable pub bytes_by : Form → PlainState → List ListEntry → List ℕ
bytes_by f s list = head_bytes f s ++ (lives_bytes s.lives ++ list_bytes list)

-- the record that is written
abbrev pub record_bytes : PlainState → List ListEntry → List ℕ
record_bytes = bytes_by Newer

-- ---- which states and lists have a record

-- the configuration comes first and has no removal; a block's bytes stand for a live id, its removal for a dead one
abbrev pub may_change : Lives → At → Bool → Bool
may_change lives config has_bytes = has_bytes
may_change lives (block id) true = is_live_in lives id
may_change lives (block id) false = is_dead_in lives id

-- blocks come after the configuration, by rising ids
abbrev pub comes_after : Option At → At → Bool
comes_after None name = true
comes_after (Some config) config = false
comes_after (Some config) (block id) = true
comes_after (Some (block other)) config = false
comes_after (Some (block other)) (block id) = is_lt (slice_cmp nat_cmp other id)

abbrev pub Rise : Option At → List ListEntry → Type 0
Rise previous [] = Unit {0}
Rise previous (e ∷ es) = (comes_after previous e.0 ≡ true) × Rise (Some e.0) es

abbrev pub FitsName : At → Type 0
FitsName config = Unit {0}
FitsName (block id) = length id ≡ 16

abbrev pub FitsBytes : Option (List ℕ) → Type 0
FitsBytes None = Unit {0}
FitsBytes (Some bytes) = length bytes < 2 ^ 32

abbrev pub has_bytes : Option (List ℕ) → Bool
has_bytes None = false
has_bytes (Some bytes) = true

pub record FitsEntry (lives : Lives) (e : ListEntry) : Type 0 where
  pub name : FitsName e.0
  pub bytes : FitsBytes e.1
  pub change : may_change lives e.0 (has_bytes e.1) ≡ true

pub record FitsList (lives : Lives) (list : List ListEntry) : Type 0 where
  pub each : AllByRecursion (FitsEntry lives) list
  pub order : Rise None list
  pub count : length list < 2 ^ 64

-- what stands before the known blocks, but for that the client is from 1
pub record FitsHead (s : PlainState) : Type 0 where
  pub fs_id : length s.fs_id ≡ 16
  pub key_salt : length s.key_salt ≡ 32
  pub key_digest : length s.key_digest ≡ 32
  pub client : s.client < 2 ^ 32

pub record FitsState (s : PlainState) : Type 0 where
  pub head : FitsHead s
  pub least : IsLeast s.least
  pub client : 0 < s.client
  pub lives : FitLives s.lives
  pub count : fin.len s.lives < 2 ^ 64

-- the state and the list have a record
pub record HasRecord (s : PlainState) (list : List ListEntry) : Type 0 where
  pub state : FitsState s
  pub entries : FitsList s.lives list

-- these bytes are a record of the state and the list, in either form
pub record IsRecord (s : PlainState) (list : List ListEntry) (bytes : List ℕ) : Type 0 where
  pub has : HasRecord s list
  pub form : Form
  pub allows : Allows form s.least
  pub is : bytes ≡ bytes_by form s list
