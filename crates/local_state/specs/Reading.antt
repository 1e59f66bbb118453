-- Reading a local record from left to right: a value and the bytes after it, or nothing.
use Rattle.std.specs.Prelude.{◌≡◌, ℕ, zero, suc, Bool, true, false, ◌&&◌, List, [], ◌∷◌, ◌++◌, length, drop, Option, Some, None, Result, Ok, Err, nat_eq, nat_lt, ◌==◌, if◌then◌else◌}
use Rattle.std.specs.Int.{w32, w64}
use Rattle.std.specs.List.{starts_with}
use Rattle.std.specs.Ordering.{nat_cmp, is_lt}
use Rattle.std.specs.Cmp.Lexicographic.{slice_cmp}
use Rattle.std.specs.FinMap as fin
use Rattle.byte_fields.specs.Fields.{front_at, number_at}
use Rattle.outside.specs.Trace.{At, config, block}
use Rattle.local_state.specs.declared.life.Life.{Life}
use Rattle.local_state.specs.declared.state.StateError.{StateError}
use Rattle.local_state.specs.declared.state.Form.{Form}
use Rattle.local_state.specs.declared.state.Form.TheVariants.{Older, Newer}
use Rattle.local_state.specs.declared.state.StateError.TheVariants as errors
use Rattle.local_state.specs.Known.{Lives, zero_id}
use Rattle.local_state.specs.Record.{PlainState, ListEntry, magic_of, comes_after, may_change, has_bytes}

infixl 10 ◌>>=◌
abbrev pub ◌>>=◌ : {A B : Type 0} → Option A → (A → Option B) → Option B
None >>= f = None
(Some x) >>= f = f x

-- what a function returned, seen by view, is what reading gives, unless memory ran out
abbrev pub Fails : {Y : Type 0} → StateError → Option Y → Type 0
Fails errors.Memory read = Unit {0}
Fails errors.BadState read = read ≡ None

abbrev pub Gives : {X Y : Type 0} → (X → Y) → Result X StateError → Option Y → Type 0
Gives view (Ok x) read = read ≡ Some (view x)
Gives view (Err e) read = Fails e read

abbrev pub flag_at : List ℕ → Option (Bool × List ℕ)
flag_at [] = None
flag_at (zero ∷ rest) = Some (false, rest)
flag_at (suc zero ∷ rest) = Some (true, rest)
flag_at (suc (suc b) ∷ rest) = None

-- a known block, whose id comes after the previous one
unfoldable pub known_at : List ℕ → List ℕ → Option ((List ℕ × Life) × List ℕ)
known_at previous bytes = do
  id ← front_at 16 bytes
  version ← number_at w64 id.1
  live ← flag_at version.1
  if is_lt (slice_cmp nat_cmp previous id.0) && nat_lt 0 version.0 then Some ((id.0, record { version = version.0; live = live.0 }), live.1) else None

-- so many known blocks, put to the lives before
unfoldable pub lives_at : ℕ → List ℕ → Lives → List ℕ → Option (Lives × List ℕ)
lives_at zero previous lives bytes = Some (lives, bytes)
lives_at (suc n) previous lives bytes = do
  e ← known_at previous bytes
  lives_at n e.0.0 (fin.insert lives e.0.0 e.0.1) e.1

unfoldable pub table_at : List ℕ → Option (Lives × List ℕ)
table_at bytes = do
  n ← number_at w64 bytes
  lives_at n.0 zero_id fin.empty n.1

unfoldable pub name_at : List ℕ → Option (At × List ℕ)
name_at bytes = do
  is_block ← flag_at bytes
  if is_block.0 then front_at 16 is_block.1 >>= (λ id. Some (block id.0, id.1)) else Some (config, is_block.1)

unfoldable pub change_at : List ℕ → Option (Option (List ℕ) × List ℕ)
change_at bytes = do
  has_bytes ← flag_at bytes
  if has_bytes.0 then number_at w32 has_bytes.1 >>= (λ n. front_at n.0 n.1 >>= (λ new. Some (Some new.0, new.1))) else Some (None, has_bytes.1)

-- a list entry, whose name comes after the previous one
unfoldable pub entry_at : Lives → Option At → List ℕ → Option (ListEntry × List ℕ)
entry_at lives previous bytes = do
  name ← name_at bytes
  change ← change_at name.1
  if comes_after previous name.0 && may_change lives name.0 (has_bytes change.0) then Some ((name.0, change.0), change.1) else None

-- so many list entries after those before
unfoldable pub entries_at : Lives → ℕ → Option At → List ListEntry → List ℕ → Option (List ListEntry × List ℕ)
entries_at lives zero previous before bytes = Some (before, bytes)
entries_at lives (suc n) previous before bytes = do
  e ← entry_at lives previous bytes
  entries_at lives n (Some e.0.0) (before ++ e.0 ∷ []) e.1

unfoldable pub list_at : Lives → List ℕ → Option (List ListEntry × List ℕ)
list_at lives bytes = do
  n ← number_at w64 bytes
  entries_at lives n.0 None [] n.1

-- the form, by the magic bytes, and the bytes after these
abbrev pub form_at : List ℕ → Option (Form × List ℕ)
form_at bytes = if starts_with nat_eq bytes (magic_of Older) then Some (Older, drop 19 bytes) else (if starts_with nat_eq bytes (magic_of Newer) then Some (Newer, drop 19 bytes) else None)

-- the least format as one byte
abbrev pub least_in : List ℕ → Option (ℕ × List ℕ)
least_in [] = None
least_in (n ∷ rest) = if nat_lt 0 n && nat_lt n 3 then Some (n, rest) else None

-- in the older form it is 1, and stands nowhere
abbrev pub least_at : Form → List ℕ → Option (ℕ × List ℕ)
least_at Older bytes = Some (1, bytes)
least_at Newer bytes = least_in bytes

-- what stands before the known blocks: a state that knows none
unfoldable pub head_at : List ℕ → Option (PlainState × List ℕ)
head_at bytes = do
  start ← form_at bytes
  marked ← flag_at start.1
  least ← least_at start.0 marked.1
  fs_id ← front_at 16 least.1
  key_salt ← front_at 32 fs_id.1
  key_digest ← front_at 32 key_salt.1
  client ← number_at w32 key_digest.1
  if nat_lt 0 client.0 then Some (record { marked = marked.0; least = least.0; fs_id = fs_id.0; key_salt = key_salt.0; key_digest = key_digest.0; client = client.0; lives = fin.empty }, client.1) else None

-- a state, a list, and no more bytes
unfoldable pub record_at : List ℕ → Option (PlainState × List ListEntry)
record_at bytes = do
  head ← head_at bytes
  known ← table_at head.1
  list ← list_at known.0 known.1
  if length list.1 == 0 then Some (record head.0 { lives = known.0 }, list.0) else None
