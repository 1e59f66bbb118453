-- Why a walk stopped, and what it did before.
use Rattle.std.specs.Prelude.{◌≡◌, ◌<◌, ◌⊎◌, ℕ, suc, false, List, map, reverse, Some, None, is_some}
use Rattle.data_tree.specs.data_nodes.Layout.{NodeText, inner}
use Rattle.data_tree.specs.Trees.{NoDoubles}
use Rattle.data_tree.specs.store_api.Content.{Id, Content}
use Rattle.data_tree.specs.store_api.Holdings.{Holdings}
use Rattle.data_tree.specs.store_api.Loads.{LoadAnswer}
use Rattle.check_walk.specs.declared.flaw.Flaw.{Flaw}
use Rattle.check_walk.specs.declared.flaw.Flaw.TheVariants.{BadNode, Twice, NotLive}
use Rattle.check_walk.specs.declared.flaw.Halt.{Halt}
use Rattle.check_walk.specs.declared.flaw.Halt.TheVariants.{Found, Failing}
use Rattle.check_walk.specs.Given.{Asked, AskedBy, AgreesWith, given_of}
use Rattle.check_walk.specs.Marks.{MarkList, MarkedAll, owner_of}
use Rattle.check_walk.specs.Needs.{NodeNeed, fills, ServesAs, Serves, LeadsAmong}

-- which ways lead to which nodes, and what is needed of these
abbrev pub Leading : Type 1
Leading = List ℕ → Id → NodeNeed → Type 0

-- a node is needed whose block holds something else
pub record IsBadNode (payload : ℕ) (C : Content) (leads : Leading) (id : Id) : Type 0 where
  pub way : List ℕ
  pub need : NodeNeed
  pub reached : leads way id need
  pub text : List ℕ
  pub there : C id ≡ Some text
  pub unfit : Serves payload need text → ⊥

-- the block has an owner
abbrev pub IsOwned : MarkList → Id → Type 0
IsOwned marks id = (n : ℕ) × ((0 < n) × (owner_of marks id ≡ Some n))

-- a node is needed whose block has an owner already, or is needed in another place as well
pub record IsTwice (marks : MarkList) (leads : Leading) (id : Id) : Type 0 where
  pub way : List ℕ
  pub need : NodeNeed
  pub reached : leads way id need
  pub again : IsOwned marks id ⊎ ((other : List ℕ) × ((wanted : NodeNeed) × (leads other id wanted × (other ≡ way → ⊥))))

-- a node is needed whose block has no mark, or isn't held
pub record IsNotLive (marks : MarkList) (held : Content) (leads : Leading) (id : Id) : Type 0 where
  pub way : List ℕ
  pub need : NodeNeed
  pub reached : leads way id need
  pub absent : (owner_of marks id ≡ None) ⊎ (is_some (held id) ≡ false)

-- the flaw is that of a node that is needed
abbrev pub FlawAt : ℕ → Content → MarkList → Content → Leading → Flaw → Type 0
FlawAt payload C marks held leads (BadNode id) = IsBadNode payload C leads id.0
FlawAt payload C marks held leads (Twice id) = IsTwice marks leads id.0
FlawAt payload C marks held leads (NotLive id) = IsNotLive marks held leads id.0
FlawAt payload C marks held leads _ = ⊥

-- the ways from the children of a node on, of which this is needed
abbrev pub LeadsBelow : Content → NodeText → NodeNeed → Leading
LeadsBelow C node need way x wanted = (depth : ℕ) × ((children : List Id) × ((node ≡ inner (suc depth) children) × LeadsAmong C depth (fills need) children way x wanted))

-- the block of this id holds this node, which isn't what is needed
abbrev pub OwnFlaw : ℕ → Id → NodeText → NodeNeed → Flaw → Type 0
OwnFlaw payload id node need (BadNode bad) = (bad.0 ≡ id) × (ServesAs payload need node → ⊥)
OwnFlaw payload id node need _ = ⊥

-- the flaw is that of this node itself, or of one that its children lead to
abbrev pub FlawIn : ℕ → Content → MarkList → Content → Id → NodeText → NodeNeed → Flaw → Type 0
FlawIn payload C marks held id node need flaw = OwnFlaw payload id node need flaw ⊎ FlawAt payload C marks held (LeadsBelow C node need) flaw

-- what holds of a flaw that was found
abbrev pub OnFound : Halt → (Flaw → Type 0) → Type 0
OnFound (Found flaw) P = P flaw
OnFound (Failing fail) P = Unit {0}

-- Blocks were asked for, each once, and got this owner. Of each content in which they have what was given `Why` says why a flaw was found.
pub record Halted {S : Type 0} (loads : S → S → Id → LoadAnswer → Type 0) (owner : ℕ) (a b : S) (old new : MarkList) (halt : Halt) (Why : Content → Flaw → Type 0) : Type 0 where
  pub asked : Asked
  pub by : AskedBy loads a asked b
  pub ids : List Id
  pub once : map (λ q. q.0) asked ≡ reverse ids
  pub alone : NoDoubles ids
  pub marked : MarkedAll old new ids owner
  pub why : (C : Content) → AgreesWith C (given_of asked) → OnFound halt (Why C)

-- the same of a walk over a store of blocks, where these ways lead to nodes
abbrev pub HaltedAt : {S : Type 0} → Holdings S → (S → S → Id → LoadAnswer → Type 0) → ℕ → S → S → MarkList → MarkList → (Content → Leading) → Halt → Type 0
HaltedAt H loads owner a b old new leads halt = Halted loads owner a b old new halt (λ C flaw. FlawAt (H.payload a) C old (H.content a) (leads C) flaw)
