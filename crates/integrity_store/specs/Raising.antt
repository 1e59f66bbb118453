-- What a batch does to the lives of ids, one entry after another.
use Rattle.std.specs.Prelude.{◌≡◌, ◌≢◌, ℕ, ◌+◌, Bool, true, false, ◌||◌, List, [], ◌∷◌, IfSome, is_none, if◌then◌else◌}
use Rattle.std.specs.FinMap as fin
use Rattle.std.specs.Option.{option_map_or}
use Rattle.std.specs.declared.option.Option.{Option}
use Rattle.std.specs.declared.option.Option.TheVariants.{None, Some}
use Rattle.block_versions.specs.local_state.declared.life.Life.{Life}
use Rattle.block_versions.specs.local_state.Known.{Lives, zero_id, is_last}
use Rattle.store_api.specs.Content.{Id}
use Rattle.integrity_store.specs.Applied.{life_after}

abbrev pub BatchEntry : Type 0
BatchEntry = Id × Option (List ℕ)

-- ---- before a batch

-- whether a payload is to be had where the version can't rise
abbrev pub is_spent_at : Option (List ℕ) → Option Life → Bool
is_spent_at (Some payload) life = is_last life
is_spent_at None life = false

abbrev pub some_spent_in : Lives → List BatchEntry → Bool
some_spent_in lives [] = false
some_spent_in lives (e ∷ es) = is_spent_at e.1 (fin.get lives e.0) || some_spent_in lives es

abbrev pub one_if_new : Option Life → ℕ
one_if_new life = if is_none life then 1 else 0

-- how many of the ids aren't known
abbrev pub count_new_in : Lives → List BatchEntry → ℕ
count_new_in lives [] = 0
count_new_in lives (e ∷ es) = one_if_new (fin.get lives e.0) + count_new_in lives es

-- ---- one entry

pub record MayRaise (id : Id) (life : Option Life) : Type 0 where
  pub not_zero : id ≢ zero_id
  pub not_dead : IfSome life (λ m. m.live ≡ true)
  pub not_last : is_last life ≡ false

-- a payload may come where the id can be raised, a removal where it lives
abbrev pub MayCome : Id → Option (List ℕ) → Option Life → Type 0
MayCome id (Some payload) life = MayRaise id life
MayCome id None life = option_map_or (λ m. m.live) life false ≡ true

abbrev pub with_life_at : Lives → Id → Option Life → Lives
with_life_at lives id None = lives
with_life_at lives id (Some life) = fin.insert lives id life

-- the lives after one entry
abbrev pub lives_after_one : Lives → BatchEntry → Lives
lives_after_one lives e = with_life_at lives e.0 (life_after (Some e.1) (fin.get lives e.0))

-- ---- all entries, in order

abbrev pub lives_after_each : Lives → List BatchEntry → Lives
lives_after_each lives [] = lives
lives_after_each lives (e ∷ es) = lives_after_each (lives_after_one lives e) es

abbrev pub MayComeEach : Lives → List BatchEntry → Type 0
MayComeEach lives [] = Unit {0}
MayComeEach lives (e ∷ es) = MayCome e.0 e.1 (fin.get lives e.0) × MayComeEach (lives_after_one lives e) es

-- how many ids are new on the way
abbrev pub count_new_each : Lives → List BatchEntry → ℕ
count_new_each lives [] = 0
count_new_each lives (e ∷ es) = one_if_new (fin.get lives e.0) + count_new_each (lives_after_one lives e) es
