-- Reading an entry from left to right, as functions of the bytes: a value, and the bytes after it.
use Rattle.std.specs.Prelude.{ℕ, suc, List, [], ◌∷◌, Bool, true, take, drop, Option, Some, None, option_and_then, nat_lt, nat_le, ◌==◌, if◌then◌else◌}
use Rattle.std.specs.Option.{option_map}
use Rattle.std.specs.List.{position}
use Rattle.std.specs.Int.{w32, w64}
use Rattle.std.specs.Ordering.{is_lt}
use Rattle.byte_fields.specs.Fields.{front_at, number_at}
use Rattle.fs_model.specs.declared.attr.Attr.{Attr}
use Rattle.fs_model.specs.declared.attr.Kind.{Kind}
use Rattle.fs_model.specs.declared.limits.TheConstants.{MAX_MODE, NANOS_PER_SEC}
use Rattle.fs_model.specs.Instant.{Instant}
use Rattle.fs_model.specs.Names.{is_name}
use Rattle.fs_model.specs.Tree.{name_cmp}
use Rattle.fs_model.specs.Kinds.{kind_at}
use Rattle.dir_entries.specs.Layout.{EntryTarget, Listing}

abbrev pub Reader : Type 0 → Type 0
Reader A = List ℕ → Option (A × List ℕ)

-- one after the other
abbrev pub then_at : {A B : Type 0} → Reader A → Reader B → Reader (A × B)
then_at first second bytes = option_and_then (λ a. option_map (λ b. ((a.0, b.0), b.1)) (second a.1)) (first bytes)

-- only what passes the test
abbrev pub where_at : {A : Type 0} → (A → Bool) → Reader A → Reader A
where_at test reader bytes = option_and_then (λ a. if test a.0 then Some a else None) (reader bytes)

abbrev pub map_at : {A B : Type 0} → (A → B) → Reader A → Reader B
map_at f reader bytes = option_map (λ a. (f a.0, a.1)) (reader bytes)

unfoldable pub kind_of : Reader Kind
kind_of [] = None
kind_of (byte ∷ rest) = option_map (λ kind. (kind, rest)) (kind_at byte)

-- what stands before the first zero, and after it
unfoldable pub text_at : Reader (List ℕ)
text_at bytes = option_map (λ end. (take end bytes, drop (suc end) bytes)) (position (λ byte. byte == 0) bytes)

unfoldable pub moment_at : Reader Instant
moment_at bytes =
    map_at (λ p. record { secs = p.0; nanos = p.1 }) (then_at (number_at w64) (where_at (λ n. nat_lt n NANOS_PER_SEC) (number_at w32))) bytes

-- kind and mode, uid and gid, the three moments
abbrev pub Parts : Type 0
Parts = (Kind × ℕ) × ((ℕ × ℕ) × (Instant × (Instant × Instant)))

abbrev pub attr_of : Parts → Attr
attr_of p = record { kind = p.0.0; mode = p.0.1; uid = p.1.0.0; gid = p.1.0.1; atime = p.1.1.0; mtime = p.1.1.1.0; ctime = p.1.1.1.1 }

unfoldable pub access_at : Reader (Kind × ℕ)
access_at bytes = then_at kind_of (where_at (λ mode. nat_le mode MAX_MODE) (number_at w32)) bytes

unfoldable pub owner_at : Reader (ℕ × ℕ)
owner_at bytes = then_at (number_at w32) (number_at w32) bytes

unfoldable pub times_at : Reader (Instant × (Instant × Instant))
times_at bytes = then_at moment_at (then_at moment_at moment_at) bytes

unfoldable pub attr_at : Reader Attr
attr_at bytes = map_at attr_of (then_at access_at (then_at owner_at times_at)) bytes

unfoldable pub entry_at : Reader (List ℕ × EntryTarget)
entry_at bytes =
    map_at (λ p. (p.1.0, record { attr = p.0; blob = p.1.1 })) (then_at attr_at (then_at (where_at is_name text_at) (front_at 16))) bytes

-- the name of an entry and what follows the entry, by the layout's lengths: 49 bytes of attributes, the name and its zero, 16 of the id
unfoldable pub name_at : Reader (List ℕ)
name_at bytes = map_at (λ p. p.1.0) (then_at (front_at 49) (then_at text_at (front_at 16))) bytes

-- whether a name is above that of the last entry
abbrev pub rises : Listing → List ℕ → Bool
rises [] name = true
rises (e ∷ []) name = is_lt (name_cmp e.0 name)
rises (e ∷ f ∷ listing) name = rises (f ∷ listing) name
