-- What visits in a row did and found.
use Rattle.std.specs.Prelude.{◌≡◌, ℕ, ◌+◌, true, List, [], ◌++◌, length, map, Some, is_some}
use Rattle.std.specs.List.{slice_get}
use Rattle.check_rules.specs.data_tree.Stored.{BlobTree}
use Rattle.check_rules.specs.data_tree.Trees.{NoDoubles}
use Rattle.check_rules.specs.dir_entries.Layout.{Listing}
use Rattle.fs_model.specs.declared.attr.Kind.{Kind}
use Rattle.check_rules.specs.store_api.Content.{Id, Content}
use Rattle.check_rules.specs.store_api.Holdings.{has_id}
use Rattle.check_rules.specs.store_api.Loads.{LoadAnswer}
use Rattle.check_rules.specs.check_walk.Fronts.{FrontState}
use Rattle.check_rules.specs.check_walk.Given.{Given, GaveBy, AgreesWith}
use Rattle.check_rules.specs.check_walk.Marks.{MarkList, owner_of}
use Rattle.check_rules.specs.check_walk.Walks.{Walked}
use Rattle.cryfs_check.specs.Rows.{IsRowBlob, most_kept}
use Rattle.cryfs_check.specs.Places.{PlaceText, AreBehind, placed, sites_of}
use Rattle.cryfs_check.specs.Seats.{Site, Seat, sites, text_of, Among, AreFound}

-- the blob of the place of this number was walked, and its entries were put behind the places
pub record IsVisited {S : Type 0} (loads : S → S → Id → LoadAnswer → Type 0) (payload number : ℕ) (id : Id) (kind : Kind) (parent : Id) (a b : S) (old new : MarkList) (before after : List PlaceText) : Type 0 where
  pub listing : Listing
  pub back : FrontState
  pub walked : Walked loads (number + 1) a b old new (record { bytes = []; most = most_kept kind }) back (λ C w ids. BlobTree payload C id w ids) (IsRowBlob kind parent listing)
  pub places : after ≡ before ++ placed number listing

-- A block that was reached has the number of the seat that it is of, and one more; these are the blocks that were loaded, each once.
pub record AreOwned (old marks : MarkList) (seats : List Seat) (given : Given) : Type 0 where
  pub same : (q : Id) → is_some (owner_of marks q) ≡ is_some (owner_of old q)
  pub owned : (q : Id) (i : ℕ) → owner_of marks q ≡ Some (i + 1) → (s : Seat) × ((slice_get seats i ≡ Some s) × (has_id s.ids q ≡ true))
  pub owns : (q : Id) (i : ℕ) (s : Seat) → slice_get seats i ≡ Some s → has_id s.ids q ≡ true → owner_of marks q ≡ Some (i + 1)
  pub loaded : (q : Id) → has_id (map (λ g. g.0) given) q ≡ true → (i : ℕ) × (owner_of marks q ≡ Some (i + 1))
  pub gave : (q : Id) (i : ℕ) → owner_of marks q ≡ Some (i + 1) → has_id (map (λ g. g.0) given) q ≡ true
  pub once : NoDoubles (map (λ g. g.0) given)

-- so many places were visited
pub record Visited {S : Type 0} (loads : S → S → Id → LoadAnswer → Type 0) (payload : ℕ) (root : Id) (a b : S) (old new : MarkList) (places : List PlaceText) (number : ℕ) : Type 0 where
  pub seats : List Seat
  pub pending : List Site
  pub count : length seats ≡ number
  pub table : sites_of root places ≡ sites seats pending
  pub behind : AreBehind places
  pub found : AreFound root seats pending
  pub given : Given
  pub gave : GaveBy loads a given b
  pub trees : (B : Content) → AgreesWith B given → (s : Seat) → Among seats s → BlobTree payload B s.id (text_of s) s.ids
  pub owned : AreOwned old new seats given

-- all places were visited
pub record VisitedAll {S : Type 0} (loads : S → S → Id → LoadAnswer → Type 0) (payload : ℕ) (root : Id) (a b : S) (old new : MarkList) (places : List PlaceText) : Type 0 where
  pub number : ℕ
  pub visited : Visited loads payload root a b old new places number
  pub none : visited.pending ≡ []
