-- What is known of ids: a finite map to their lives: a version, and whether the block lives. An id is a list of 16 bytes.
use Rattle.std.specs.Prelude.{◌≡◌, ◌≢◌, ℕ, ◌+◌, ◌^◌, ◌<◌, ◌-◌, ◌==◌, Bool, true, false, not, ◌&&◌, List, length, map, filter, is_some, is_none, IfSome, IfNone, Option, None, Some, refl, if◌then◌else◌}
use Rattle.std.specs.Coded.{Coded, code_by, coded×, coded_ℕ, coded_bool, coded_list}
use Rattle.std.specs.FinMap as fin
use Rattle.std.specs.Option.{option_map, option_map_or}
use Rattle.std.specs.List.{IsDistinct}
use Rattle.std.specs.Map.{keys_of}
use Rattle.std.specs.Str.{bytes_eq}
use Rattle.std.specs.Ordering.{nat_cmp, is_lt}
use Rattle.std.specs.Cmp.Lexicographic.{slice_cmp}
pub use Rattle.block_id.specs.Fresh.{zero_id, nth_id}
use Rattle.block_id.specs.declared.id.BlockId.{BlockId}
use Rattle.local_state.specs.declared.life.Life.{Life}

-- ids to their lives, in the order of the bytes of ids
abbrev pub Lives : Type 0
Lives = fin.FinMap (slice_cmp nat_cmp) Life

-- the lives, and how many new ids can be raised before memory is needed
pub record KnownTable : Type 0 where
  pub lives : Lives
  pub spare : ℕ

abbrev pub life_code : Coded Life
life_code = code_by (ℕ × Bool) (coded× coded_ℕ coded_bool) (λ m. (m.version, m.live)) (λ p. record { version = p.0; live = p.1 }) (λ _. refl)

abbrev pub table_code : Coded KnownTable
table_code = code_by (Lives × ℕ) (coded× (fin.code (coded_list coded_ℕ) life_code) coded_ℕ) (λ t. (t.lives, t.spare)) (λ p. record { lives = p.0; spare = p.1 }) (λ _. refl)

abbrev pub life_at : KnownTable → List ℕ → Option Life
life_at known id = fin.get known.lives id

abbrev pub version_at : KnownTable → List ℕ → Option ℕ
version_at known id = option_map (λ m. m.version) (life_at known id)

abbrev pub is_live_in : Lives → List ℕ → Bool
is_live_in lives id = option_map_or (λ m. m.live) (fin.get lives id) false

abbrev pub is_dead_in : Lives → List ℕ → Bool
is_dead_in lives id = is_some (fin.get lives id) && not (is_live_in lives id)

-- the live ids, in the order of ids
abbrev pub live_ids : Lives → List (List ℕ)
live_ids lives = map (λ e. e.0) (filter (λ e. e.1.live) (fin.entries lives))

-- the version, where the id lives
abbrev pub version_if_live : Option Life → Option ℕ
version_if_live None = None
version_if_live (Some life) = if life.live then Some life.version else None

-- a version at the end of its type
abbrev pub is_last : Option Life → Bool
is_last None = false
is_last (Some life) = life.version == 2 ^ 64 - 1

abbrev pub is_live_at : KnownTable → List ℕ → Bool
is_live_at known id = is_live_in known.lives id

abbrev pub is_used_at : KnownTable → List ℕ → Bool
is_used_at known id = is_some (life_at known id)

-- an entry of the program's map as plain data
abbrev pub plain_entry : BlockId × Life → List ℕ × Life
plain_entry e = (e.0.0, e.1)

abbrev pub lives_of : List (BlockId × Life) → Lives
lives_of es = fin.from_entries (map plain_entry es)

-- what `==` answers at ids
abbrev pub same_id : BlockId → BlockId → Bool
same_id a b = bytes_eq a.0 b.0

abbrev pub HaveDistinctIds : List (BlockId × Life) → Type 0
HaveDistinctIds es = IsDistinct same_id (keys_of es)

-- the version that a raise gives: the first, or one more
abbrev pub raised_version : Option Life → ℕ
raised_version life = option_map_or (λ m. m.version + 1) life 1

-- what a raise needs: the id isn't zero, a known one lives, and of a new one there is room
pub record CanRaise (known : KnownTable) (id : List ℕ) : Type 0 where
  pub not_zero : id ≢ zero_id
  pub not_dead : IfSome (life_at known id) (λ life. life.live ≡ true)
  pub room : IfNone (life_at known id) (0 < known.spare)

-- an id and what its life may be
pub record FitsLife (id : List ℕ) (life : Life) : Type 0 where
  pub length : length id ≡ 16
  pub not_zero : id ≢ zero_id
  pub from_one : 0 < life.version
  pub below : life.version < 2 ^ 64

-- what may come after an id in a record
pub record IsNext (previous id : List ℕ) (life : Life) : Type 0 where
  pub length : length id ≡ 16
  pub after : is_lt (slice_cmp nat_cmp previous id) ≡ true
  pub from_one : 0 < life.version
  pub below : life.version < 2 ^ 64

-- each used id is one, with a version from 1
abbrev pub FitLives : Lives → Type 0
FitLives lives = (id : List ℕ) → IfSome (fin.get lives id) (FitsLife id)

-- neither used nor zero
abbrev pub is_free : Lives → List ℕ → Bool
is_free lives id = is_none (fin.get lives id) && not (bytes_eq id zero_id)

-- the first free id among the drawn one, the next one and so on
pub record IsFirstFree (lives : Lives) (drawn id : List ℕ) : Type 0 where
  pub free : is_free lives id ≡ true
  pub steps : ℕ
  pub reached : id ≡ nth_id drawn steps
  pub first : (n : ℕ) → n < steps → is_free lives (nth_id drawn n) ≡ false
