-- What a check answers.
use Rattle.std.specs.Prelude.{◌≡◌, ℕ, T, true, List, map, is_some, Result, Ok, Err}
use Rattle.std.specs.FinMap.{get, is_sorted}
use Rattle.check_rules.specs.blob_api.BlobMap.{BlobMap}
use Rattle.check_rules.specs.data_nodes.Layout.{ids_of}
use Rattle.check_rules.specs.data_tree.Stored.{StoresBlobs}
use Rattle.check_rules.specs.data_tree.Trees.{NoDoubles}
use Rattle.check_rules.specs.path_walks.Shows.{ShowsTree}
use Rattle.fs_model.specs.Tree.{Tree}
use Rattle.block_id.specs.declared.fail.Fail.{Fail}
use Rattle.block_id.specs.declared.id.BlockId.{BlockId}
use Rattle.check_rules.specs.check_walk.declared.flaw.Flaw.{Flaw}
use Rattle.check_rules.specs.check_walk.declared.flaw.Halt.{Halt}
use Rattle.check_rules.specs.check_walk.declared.flaw.Halt.TheVariants.{Found, Failing}
use Rattle.check_rules.specs.check_walk.Given.{Given, GaveBy, Asked, AskedBy, given_of, content_of}
use Rattle.check_rules.specs.check_walk.Marks.{unmarked}
use Rattle.check_rules.specs.Certificates.{Owners, Certifies}
use Rattle.check_rules.specs.Flaws.{HasFlaw, Refutes}
use Rattle.check_rules.specs.store_api.Content.{Id, Content, id_cmp}
use Rattle.check_rules.specs.store_api.Holdings.{has_id}
use Rattle.check_rules.specs.store_api.Loads.{LoadAnswer}
use Rattle.cryfs_check.specs.declared.checking.Checked.{Checked}
use Rattle.cryfs_check.specs.declared.checking.Checked.TheVariants.{Yes, No}

-- what a check answers where a visit stopped
abbrev pub answer_to : Halt → Result Checked Fail
answer_to (Found flaw) = Ok (No flaw)
answer_to (Failing fail) = Err fail

abbrev pub IsYes : Checked → Type 0
IsYes (Yes owners) = Unit {0}
IsYes (No flaw) = ⊥

abbrev pub OnYes : Checked → (Owners → Type 0) → Type 0
OnYes (Yes owners) P = P owners
OnYes (No flaw) P = Unit {0}

abbrev pub OnNo : Checked → (Flaw → Type 0) → Type 0
OnNo (Yes owners) P = Unit {0}
OnNo (No flaw) P = P flaw

-- these are the live ids, exactly, and they rise
pub record ListsLive (content : Content) (list : List BlockId) : Type 0 where
  pub order : T (is_sorted id_cmp (map unmarked list))
  pub live : (id : Id) → has_id (ids_of list) id ≡ is_some (content id)

-- the blocks show some tree
pub record ShowsSome (payload : ℕ) (root : Id) (content : Content) : Type 0 where
  pub map : BlobMap
  pub stores : StoresBlobs payload content (get map)
  pub tree : Tree
  pub shows : ShowsTree map root tree

-- nothing but loads led from the one store to the other, of live blocks and of each once at most
pub record AsksOnce {S : Type 0} (loads : S → S → Id → LoadAnswer → Type 0) (live : List Id) (a b : S) : Type 0 where
  pub asked : Asked
  pub by : AskedBy loads a asked b
  pub once : NoDoubles (map (λ q. q.0) asked)
  pub lives : (id : Id) → has_id (map (λ q. q.0) asked) id ≡ true → has_id live id ≡ true

-- loads gave each live block once, and what they gave shows a tree from this root on, in which these own the blocks
pub record IsCertified {S : Type 0} (loads : S → S → Id → LoadAnswer → Type 0) (payload : ℕ) (root : Id) (live : List Id) (a b : S) (list : Owners) : Type 0 where
  pub given : Given
  pub gave : GaveBy loads a given b
  pub certifies : Certifies payload root live given list

-- what the loads gave has this flaw, and no content with it shows a tree from this root on
pub record IsRefuted {S : Type 0} (loads : S → S → Id → LoadAnswer → Type 0) (payload : ℕ) (root : Id) (live : List Id) (a b : S) (flaw : Flaw) : Type 0 where
  pub asks : AsksOnce loads live a b
  pub flawed : HasFlaw payload root live (content_of (given_of asks.asked)) flaw
  pub refutes : Refutes payload root live (given_of asks.asked)
