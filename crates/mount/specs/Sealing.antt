-- Where each change comes from that waits for the directory or is made there: from before, or a file sealed since, with an IV that was drawn for it alone, and under an id that
-- was known before or comes of a seed that was drawn; and which blocks are asked for and removed.
use Rattle.std.specs.Prelude.{◌≡◌, ◌⊎◌, ℕ, true, List, [], ◌∷◌, ◌++◌}
use Rattle.std.specs.List.{AllByRecursion}
use Rattle.std.specs.declared.option.Option.{Option}
use Rattle.std.specs.declared.option.Option.TheVariants.{None, Some}
use Rattle.outside.specs.Changes.{FileChanges, change_at}
use Rattle.outside.specs.Trace.{At, Call, block, config, put, got, removed}
use Rattle.rand_core.specs.Stream.{Stream, fill_bytes}
use Rattle.mount_stores.specs.integrity_store.Draws.{iv_in}
use Rattle.store_api.specs.Content.{Id}
use Rattle.store_api.specs.Draws.{IsLater}
use Rattle.store_api.specs.Holdings.{has_id}
use Rattle.store_api.specs.Ids.{AreIdsOf, chacha20}
use Rattle.store_api.specs.Lists.{with_config}
use Rattle.mount_stores.specs.Identities.{KeepsRecord}
use Rattle.mount_stores.specs.Opening.{IsLoaded}
use Rattle.mount_stores.specs.Tower.{tower_durables, tower_holdings}
use Rattle.local_state.specs.Record.{PlainState}
use Rattle.mount.specs.declared.mount.Mount.{Mount}
use Rattle.mount.specs.Telling.{store_of, calls_of}

-- ---- what is drawn

-- a draw of a stream: a seed, from which these ids come, the newest first; or the IV of this file, which was sealed under this id
pub data Draw : Type 0 where
  seed : List Id → Draw
  vector : Id → List ℕ → Draw

-- the ids that are known after such draws
abbrev pub known_after : List Id → List Draw → List Id
known_after known [] = known
known_after known (seed ids ∷ draws) = known_after (ids ++ known) draws
known_after known (vector id file ∷ draws) = known_after known draws

-- Each of these is a fill, the oldest first, fill behind fill: a seed one of 32 bytes, an IV one of 16. Others may lie between them, and behind them. A seed's ids are
-- the next free ones from fills of 16 bytes of its own generator on: passed over are only ids that are zero, known, or drawn before. A file's id is known by then.
abbrev pub AreDraws : List Id → List Draw → Stream → Stream → Type 0
AreDraws known [] stream left = IsLater stream left
AreDraws known (seed ids ∷ draws) stream left =
    (before : Stream) × IsLater stream before × ((after : Stream) × AreIdsOf known ids (chacha20 (fill_bytes 32 before).0) after) × AreDraws (ids ++ known) draws (fill_bytes 32 before).1 left
AreDraws known (vector id file ∷ draws) stream left =
    (before : Stream) × IsLater stream before × (has_id known id ≡ true) × (iv_in file ≡ (fill_bytes 16 before).0) × AreDraws known draws (fill_bytes 16 before).1 left

-- one of these draws is the IV of this file, sealed under this id
abbrev pub IsDrawnFor : List Draw → Id → List ℕ → Type 0
IsDrawnFor [] id bytes = ⊥
IsDrawnFor (seed ids ∷ draws) id bytes = IsDrawnFor draws id bytes
IsDrawnFor (vector other file ∷ draws) id bytes = ((id ≡ other) × (bytes ≡ file)) ⊎ IsDrawnFor draws id bytes

-- none of them is a seed
abbrev pub AreVectors : List Draw → Type 0
AreVectors [] = Unit {0}
AreVectors (seed ids ∷ draws) = ⊥
AreVectors (vector id file ∷ draws) = AreVectors draws

-- ---- what waits and what was called

-- at one moment: the unwritten list, the calls on the directory where they are told, and the ids that were ever in use
pub record View : Type 0 where
  pub list : FileChanges
  pub calls : Option (List Call)
  pub known : List Id

abbrev pub view_of : {V : Type 0} → {K : Type 0} → (V → Option (List Call)) → Mount V K → View
view_of trace mount = record { list = (tower_durables trace).list (store_of mount); calls = calls_of trace mount; known = (tower_holdings trace).used (store_of mount) }

-- where nothing is opened, nothing waits and no id is known
abbrev pub view_closed : Option (List Call) → View
view_closed calls = record { list = []; calls = calls; known = [] }

-- the id was known before, or was drawn since
abbrev pub IsNamed : List Draw → View → Id → Type 0
IsNamed drawn before id = has_id (known_after before.known drawn) id ≡ true

-- Where what waits for a name comes from: a block's file was sealed under the block's id, or waited; a removal is of an id that was known or drawn, or waited; and the
-- configuration's file waited.
abbrev pub ComesFrom : List Draw → View → At → Option (List ℕ) → Type 0
ComesFrom drawn before (block id) (Some bytes) = IsDrawnFor drawn id bytes ⊎ (change_at (block id) before.list ≡ Some (Some bytes))
ComesFrom drawn before (block id) None = IsNamed drawn before id ⊎ (change_at (block id) before.list ≡ Some None)
ComesFrom drawn before config change = change_at config before.list ≡ Some change

-- this is a record, and what waits in it comes so
pub record HoldsSealed (drawn : List Draw) (before : View) (kept : Option (List ℕ)) : Type 0 where
  pub state : PlainState
  pub waiting : FileChanges
  pub keeps : KeepsRecord kept state waiting
  pub sealed : (name : At) (change : Option (List ℕ)) → change_at name waiting ≡ Some change → ComesFrom drawn before name change

-- so does what the call puts or removes, and the block that it asks for was known or drawn
abbrev pub PutsSealed : List Draw → View → Call → Type 0
PutsSealed drawn before (put name bytes ok) = ComesFrom drawn before name (Some bytes)
PutsSealed drawn before (removed name ok) = ComesFrom drawn before name None
PutsSealed drawn before (got (block id) max answer) = IsNamed drawn before id
PutsSealed drawn before (got config max answer) = Unit {0}

-- so each call that was added, where calls are told; what isn't told stays so
abbrev pub AddsSealed : List Draw → View → Option (List Call) → Option (List Call) → Type 0
AddsSealed drawn before None new = new ≡ None
AddsSealed drawn before (Some old) new = (calls : List Call) × (new ≡ Some (calls ++ old)) × AllByRecursion (PutsSealed drawn before) calls

-- what waits afterwards, or was put or removed since, comes so; each block that was asked for was known or drawn; and so is each id that is known afterwards
pub record AreSealed (drawn : List Draw) (before after : View) : Type 0 where
  pub waits : (name : At) (change : Option (List ℕ)) → change_at name after.list ≡ Some change → ComesFrom drawn before name change
  pub adds : AddsSealed drawn before before.calls after.calls
  pub known : (id : Id) → has_id after.known id ≡ true → IsNamed drawn before id

-- Each block's file that waits afterwards, or was put since, waited before, or was sealed since: with a fill of this stream that served nothing else, and under an id that
-- was known before, or that comes of such a fill. So does each id that is known afterwards, and that was asked for or removed.
pub record SealsFresh (stream left : Stream) (before after : View) : Type 0 where
  pub drawn : List Draw
  pub draws : AreDraws before.known drawn stream left
  pub sealed : AreSealed drawn before after

-- the same, and no seed was drawn: each file that was sealed is under an id that was known before
pub record SealsKnown (stream left : Stream) (before after : View) : Type 0 where
  pub fresh : SealsFresh stream left before after
  pub unnamed : AreVectors fresh.drawn

-- ---- where a session begins

-- the list of the record that is kept, or none
abbrev pub IsKeptList : Option (List ℕ) → FileChanges → Type 0
IsKeptList kept list = (list ≡ []) ⊎ ((state : PlainState) × IsLoaded kept state list)

-- nothing was sealed: what was put or removed is of the list that was kept, and no block was asked for but what is known then
abbrev pub OpensSealed : Option (List ℕ) → Option (List Call) → View → Type 0
OpensSealed kept calls after = (list : FileChanges) × IsKeptList kept list × AreSealed [] (record { list = list; calls = calls; known = after.known }) after

-- ---- where the configuration's file is replaced

-- these bytes wait for it
abbrev pub view_replaced : List ℕ → View → View
view_replaced bytes view = record view { list = with_config bytes view.list }

-- ---- where a file system is made

-- its configuration's file waits, and its root's id is known
abbrev pub view_made : List ℕ → Id → Option (List Call) → View
view_made bytes root calls = record { list = with_config bytes []; calls = calls; known = root ∷ [] }

-- nothing was sealed, or one file under the root's id, whose IV are the next 16 bytes of the stream; and nothing else was drawn
abbrev pub IsRootDraw : Id → List Draw → Stream → Stream → Type 0
IsRootDraw root [] stream left = Unit {0}
IsRootDraw root (seed ids ∷ draws) stream left = ⊥
IsRootDraw root (vector id file ∷ draws) stream left = (id ≡ root) × (iv_in file ≡ (fill_bytes 16 stream).0) × (left ≡ (fill_bytes 16 stream).1) × (draws ≡ [])

-- What was put since, and what waits in what is kept then, is this configuration's file or that block's; no other block's file was put, removed or asked for.
pub record SealsRoot (bytes : List ℕ) (root : Id) (stream left : Stream) (calls new_calls : Option (List Call)) (was now : Option (List ℕ)) : Type 0 where
  pub drawn : List Draw
  pub draws : IsRootDraw root drawn stream left
  pub sealed : AreSealed drawn (view_made bytes root calls) (view_closed new_calls)
  pub kept : (now ≡ was) ⊎ HoldsSealed drawn (view_made bytes root calls) now
