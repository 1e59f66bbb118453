-- Where each change comes from that a run makes in the directory, or leaves waiting in its record: from before, or a file sealed in it, with an IV that was drawn for this
-- file alone, and under an id that the record knew before or that comes of a seed that was drawn; and which blocks it asks for and removes.
use Rattle.std.specs.Prelude.{◌≡◌, ◌⊎◌, ℕ, Bool, true, false, List, [], ◌∷◌, ◌++◌, is_some}
use Rattle.std.specs.FinMap as fin
use Rattle.std.specs.List.{AllByRecursion}
use Rattle.std.specs.declared.option.Option.{Option}
use Rattle.std.specs.declared.option.Option.TheVariants.{None, Some}
use Rattle.mount.specs.local_state.Record.{PlainState}
use Rattle.mount.specs.Sealing.{Draw, known_after, AreDraws, AreVectors, IsDrawnFor, IsRootDraw}
use Rattle.run_frame.specs.mount_stores.Identities.{KeepsRecord}
use Rattle.outside.specs.Changes.{FileChanges, change_at}
use Rattle.outside.specs.Trace.{At, Call, block, config, put, got, removed}
use Rattle.rand_core.specs.Stream.{Stream}
use Rattle.session_laws.specs.Runs.{Outside}
use Rattle.mount.specs.store_api.Content.{Id}
use Rattle.mount.specs.store_api.Holdings.{has_id}

-- a record is kept, marked or not, by whose list this change waits for the name
pub record WaitsAs (kept : Option (List ℕ)) (name : At) (change : Option (List ℕ)) : Type 0 where
  pub state : PlainState
  pub list : FileChanges
  pub keeps : KeepsRecord kept state list
  pub waits : change_at name list ≡ Some change

-- a record is kept, marked or not, that knows the id: a block has it, or had it
pub record KnowsId (kept : Option (List ℕ)) (id : Id) : Type 0 where
  pub state : PlainState
  pub list : FileChanges
  pub keeps : KeepsRecord kept state list
  pub knows : is_some (fin.get state.lives id) ≡ true

-- what a run may put, remove and ask for: ids that were known, what was drawn, what was kept before, and the configuration's file that it sealed, if any
pub record Origin : Type 0 where
  pub known : List Id
  pub drawn : List Draw
  pub kept : Option (List ℕ)
  pub config : Option (List ℕ)

-- the id was known before the run, or was drawn in it
abbrev pub IsNamed : Origin → Id → Type 0
IsNamed o id = has_id (known_after o.known o.drawn) id ≡ true

-- this is the configuration's file that the run sealed
abbrev pub IsSealedConfig : Option (List ℕ) → Option (List ℕ) → Type 0
IsSealedConfig (Some file) (Some bytes) = bytes ≡ file
IsSealedConfig (Some file) None = ⊥
IsSealedConfig None change = ⊥

-- Where a change comes from: a block's file was sealed in the run under the block's id, a removal is of an id that was known or drawn, and a configuration's file is the one
-- that the run sealed; or it waited in what was kept.
abbrev pub ComesSince : Origin → At → Option (List ℕ) → Type 0
ComesSince o (block id) (Some bytes) = IsDrawnFor o.drawn id bytes ⊎ WaitsAs o.kept (block id) (Some bytes)
ComesSince o (block id) None = IsNamed o id ⊎ WaitsAs o.kept (block id) None
ComesSince o config change = IsSealedConfig o.config change ⊎ WaitsAs o.kept config change

-- so does what the call puts or removes, and the block that it asks for was known or drawn
abbrev pub CallsSince : Origin → Call → Type 0
CallsSince o (put name bytes ok) = ComesSince o name (Some bytes)
CallsSince o (removed name ok) = ComesSince o name None
CallsSince o (got (block id) max answer) = IsNamed o id
CallsSince o (got config max answer) = Unit {0}

-- so each call that was added, where calls are told; what isn't told stays so
abbrev pub AddsSince : Origin → Option (List Call) → Option (List Call) → Type 0
AddsSince o None new = new ≡ None
AddsSince o (Some old) new = (calls : List Call) × (new ≡ Some (calls ++ old)) × AllByRecursion (CallsSince o) calls

-- so does each change that the run made in the directory, and each that waits in what is kept at its end
pub record AreSince (o : Origin) (before after : Outside) : Type 0 where
  pub calls : AddsSince o before.calls after.calls
  pub waits : (name : At) (change : Option (List ℕ)) → WaitsAs after.kept name change → ComesSince o name change

-- Each block's file that the run put, and each that waits in the record at its end, was sealed in it, or waited in the record before it. Each that was sealed has as its
-- IV 16 bytes of the stream that serve nothing else. Its id is one that the record knew before, or comes of 32 bytes of the stream, which serve nothing else either. So is
-- each id under which a block was asked for or removed, and no configuration's file was put but what waited.
pub record DrawsVectors (stream left : Stream) (before after : Outside) : Type 0 where
  pub known : List Id
  pub knows : (id : Id) → has_id known id ≡ true → KnowsId before.kept id
  pub drawn : List Draw
  pub draws : AreDraws known drawn stream left
  pub since : AreSince (record { known = known; drawn = drawn; kept = before.kept; config = None }) before after

-- the same, and no seed was drawn: each file that was sealed is under an id that the record knew before
pub record DrawsNoNames (stream left : Stream) (before after : Outside) : Type 0 where
  pub vectors : DrawsVectors stream left before after
  pub unnamed : AreVectors vectors.drawn

-- the one or the other, by whether blocks are only written anew
abbrev pub DrawsAs : Bool → Stream → Stream → Outside → Outside → Type 0
DrawsAs true stream left before after = DrawsNoNames stream left before after
DrawsAs false stream left before after = DrawsVectors stream left before after

-- No block's file was sealed: each change that the run made, and each that waits at its end, waited in the record before, but for this file of the configuration, where one
-- was sealed. Each block that was asked for the record knew.
pub record SealsNone (file : Option (List ℕ)) (before after : Outside) : Type 0 where
  pub known : List Id
  pub knows : (id : Id) → has_id known id ≡ true → KnowsId before.kept id
  pub since : AreSince (record { known = known; drawn = []; kept = before.kept; config = file }) before after

-- Under the root's id one block's file was sealed at most, with the next 16 bytes of the stream as its IV, and this file of the configuration. Nothing else was put, removed
-- or left waiting, but what waited before, and no other block was asked for.
pub record SealsFirst (file : List ℕ) (root : Id) (stream left : Stream) (before after : Outside) : Type 0 where
  pub drawn : List Draw
  pub draws : IsRootDraw root drawn stream left
  pub since : AreSince (record { known = root ∷ []; drawn = drawn; kept = before.kept; config = Some file }) before after
