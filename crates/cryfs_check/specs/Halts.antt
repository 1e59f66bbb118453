-- Why visits stop.
use Rattle.std.specs.Prelude.{◌≡◌, ℕ, true, List, length, map, is_some}
use Rattle.check_rules.specs.store_outcome.Meanings.{Meanings}
use Rattle.check_rules.specs.data_tree.Stored.{BlobTree}
use Rattle.check_rules.specs.data_tree.Trees.{NoDoubles}
use Rattle.check_rules.specs.fs_blobs.Headers.{blob}
use Rattle.fs_model.specs.declared.attr.Kind.{Kind}
use Rattle.check_rules.specs.store_api.Content.{Id, Content}
use Rattle.check_rules.specs.store_api.Holdings.{Holdings, has_id}
use Rattle.check_rules.specs.store_api.Loads.{LoadAnswer}
use Rattle.check_rules.specs.check_walk.declared.flaw.Flaw.{Flaw}
use Rattle.check_rules.specs.check_walk.declared.flaw.Flaw.TheVariants.{BadBlob, Parent}
use Rattle.check_rules.specs.check_walk.declared.flaw.Halt.{Halt}
use Rattle.check_rules.specs.check_walk.Given.{Asked, AskedBy, IsLoad, given_of, content_of}
use Rattle.check_rules.specs.check_walk.Halts.{FlawAt, Halted, OnFound}
use Rattle.check_rules.specs.check_walk.Marks.{MarkList, owner_of}
use Rattle.check_rules.specs.check_walk.Needs.{top, Leads}
use Rattle.check_rules.specs.Flaws.{FitsBody, HasFlaw}
use Rattle.cryfs_check.specs.declared.place.Visit.{Visit}

-- these blocks are a tree, but not that of a blob of this kind with a fitting body
pub record IsNoBlob (payload : ℕ) (C : Content) (id : Id) (kind : Kind) : Type 0 where
  pub bytes : List ℕ
  pub ids : List Id
  pub tree : BlobTree payload C id bytes ids
  pub unfit : (other : Id) (body : List ℕ) → length other ≡ 16 → bytes ≡ blob kind other body → FitsBody kind body → ⊥

-- the blob is of this kind, and names another parent
pub record NamesAnother (payload : ℕ) (C : Content) (id : Id) (kind : Kind) (parent : Id) : Type 0 where
  pub other : Id
  pub wide : length other ≡ 16
  pub body : List ℕ
  pub ids : List Id
  pub tree : BlobTree payload C id (blob kind other body) ids
  pub differs : other ≡ parent → ⊥

-- the flaw is of the blob that was to be visited, or of a node of its tree
abbrev pub VisitFlaw : ℕ → Content → MarkList → Content → Id → Kind → Id → Flaw → Type 0
VisitFlaw payload C marks held id kind parent (BadBlob bad) = (bad.0 ≡ id) × IsNoBlob payload C id kind
VisitFlaw payload C marks held id kind parent (Parent bad) = (bad.0 ≡ id) × NamesAnother payload C id kind parent
VisitFlaw payload C marks held id kind parent flaw = FlawAt payload C marks held (Leads C id top) flaw

-- a visit stopped
abbrev pub IsHalted : {S : Type 0} → Meanings S → Holdings S → (S → S → Id → LoadAnswer → Type 0) → ℕ → Visit → S → S → MarkList → MarkList → Halt → Type 0
IsHalted M H loads owner what a b old new halt =
    Halted (IsLoad M H loads) owner a b old new halt (λ C flaw. VisitFlaw (H.payload a) C old (H.content a) what.id.0 what.kind what.parent.0 flaw)

-- Blocks were asked for, each once and none that has no mark. A flaw that was found is one of what they gave, where the marks are of the live ids and these are held.
pub record IsStopped {S : Type 0} (loads : S → S → Id → LoadAnswer → Type 0) (payload : ℕ) (root : Id) (held : Content) (a b : S) (old : MarkList) (halt : Halt) : Type 0 where
  pub asked : Asked
  pub by : AskedBy loads a asked b
  pub once : NoDoubles (map (λ q. q.0) asked)
  pub marked : (id : Id) → has_id (map (λ q. q.0) asked) id ≡ true → is_some (owner_of old id) ≡ true
  pub why : (live : List Id) → ((id : Id) → is_some (owner_of old id) ≡ has_id live id) → ((id : Id) → is_some (held id) ≡ has_id live id) → OnFound halt (HasFlaw payload root live (content_of (given_of asked)))
