-- Calls on one tree, as calls on a blob.
use Rattle.std.proofs.Common.{◌≡◌, ◌≤◌, ◌+◌, List, [], ℕ, length, subst, arith}
use Rattle.std.specs.Prelude.{Result}
use Rattle.std.specs.FinMap.{insert, remove, len}
use Rattle.block_id.specs.declared.fail.Fail.{Fail}
use Rattle.block_id.specs.declared.id.BlockId.{BlockId}
use Rattle.block_id.specs.Contents.{pieces}
use Rattle.blob_api.specs.store_outcome.Meanings.{Meanings}
use Rattle.blob_api.specs.store_outcome.Lift.{lifted}
use Rattle.blob_api.specs.store_outcome.Outcome.{Outcome, first_}
use Rattle.store_api.specs.declared.tx.Tx.{Tx}
use Rattle.store_api.specs.Content.{Id}
use Rattle.store_api.specs.Holdings.{Holdings, Stays}
use Rattle.data_tree.specs.data_nodes.Layout.{room}
use Rattle.data_tree.specs.Trees.{Replaces}
use Rattle.data_tree.specs.Needs.{KeepsShape}
use Rattle.data_tree.specs.Roots.{IsRoot, IsNewRoot}
use Rattle.store_api.specs.Txs.{changes_in, tx_holdings, tx_meanings}
use Rattle.data_ranges.specs.Ranges.{IsInside}
use Rattle.blob_api.specs.BlobMap.{StandsForMap, Has, IsNew, IsSparing}
use Rattle.blob_store.specs.declared.store.BlobStore.{BlobStore}
use Rattle.blob_store.specs.Meanings.{meanings_by, holdings_by, StoresMap}
use Rattle.blob_store.proofs.Standing.{stands_on, stands_replaced, fresh_root, stands_made, stands_dropped}

abbrev tx_in : {B : Type 0} → BlobStore B → Tx B
tx_in s = s.tx

-- of a store of blocks the meanings and holdings with changes over it
module _ {B : Type 0} (M : Meanings B) (H : Holdings B) where
  abbrev over_it : Meanings (Tx B)
  over_it = tx_meanings M H

  abbrev held : Holdings (Tx B)
  held = tx_holdings H

  -- the tree of a blob
  abbrev root_of : (a : BlobStore B) (id : Id) → Has (holdings_by tx_in changes_in held) a id → IsRoot held a.tx id
  root_of a id n =
      let own = n.stands.1.blob id n.bytes n.there in
      record { bytes = n.bytes; ids = n.stands.1.ids id; depth = own.depth; small = n.fits; deep = own.deep; tree = own.tree; alone = own.alone }

  keeps_of : (a b : Tx B) → Stays H a.store b.store → KeepsShape held a b
  keeps_of a b below = record { told = below.told; payload = below.payload }

  -- a call that only looks at a tree
  pub looked : {T : Type 0} (Q : List ℕ → T → Type 0) (a b : BlobStore B) (id : Id) (r : Result T Fail) → Outcome over_it (IsRoot held a.tx id) a.tx b.tx r (λ n x. Q n.bytes x) → Stays held a.tx b.tx
      → Outcome (meanings_by tx_in over_it) (Has (holdings_by tx_in changes_in held) a id) a b r (λ n x. StoresMap held b.tx n.map × Q n.bytes x)
  looked Q a b id r o stays = lifted tx_in (λ x. Unit {0}) a b tt (first_ (root_of a id) o (λ n x q. (stands_on held a.tx b.tx n.map stays n.stands, q)))

  -- a call that puts another tree in the place of one
  pub replaced : (w : List ℕ → List ℕ) (a b : BlobStore B) (id : Id) (r : Result Unit Fail) → Outcome over_it (IsRoot held a.tx id) a.tx b.tx r (λ n x. IsNewRoot held a.tx b.tx id n.ids (w n.bytes)) → Stays H a.tx.store b.tx.store
      → Outcome (meanings_by tx_in over_it) (Has (holdings_by tx_in changes_in held) a id) a b r (λ n x. StoresMap held b.tx (insert n.map id (w n.bytes)))
  replaced w a b id r o below = lifted tx_in (λ x. Unit {0}) a b tt (first_ (root_of a id) o (λ n x q. stands_replaced held a.tx b.tx n.map id n.bytes (w n.bytes) n.stands n.there (keeps_of a.tx b.tx below) q))

  -- a call that drops a tree
  pub dropped : (a b : BlobStore B) (id : Id) (r : Result Unit Fail) → Outcome over_it (IsRoot held a.tx id) a.tx b.tx r (λ n x. Replaces (held.content a.tx) (held.content b.tx) n.ids []) → Stays H a.tx.store b.tx.store
      → Outcome (meanings_by tx_in over_it) (Has (holdings_by tx_in changes_in held) a id) a b r (λ n x. StoresMap held b.tx (remove n.map id))
  dropped a b id r o below = lifted tx_in (λ x. Unit {0}) a b tt (first_ (root_of a id) o (λ n x q. stands_dropped held a.tx b.tx n.map id n.stands n.bytes n.there (keeps_of a.tx b.tx below) q))

  -- a call that makes a tree
  pub made : (w : List ℕ) (a b : BlobStore B) (r : Result BlockId Fail) → Outcome over_it (Unit {0}) a.tx b.tx r (λ n root. IsNewRoot held a.tx b.tx root.0 [] w) → Stays H a.tx.store b.tx.store
      → Outcome (meanings_by tx_in over_it) (StandsForMap (holdings_by tx_in changes_in held) a) a b r (λ n root. IsNew (holdings_by tx_in changes_in held) b n.map root.0 w)
  made w a b r o below = lifted tx_in (λ x. Unit {0}) a b tt (first_ (λ n. tt) o (λ n root q. record {
    fresh = fresh_root held a.tx b.tx n.map root.0 w n.stands q;
    stands = stands_made held a.tx b.tx n.map root.0 w n.stands (keeps_of a.tx b.tx below) q;
  }))

  -- a write inside a tree that changes few blocks
  pub sparing : (a b : BlobStore B) (id : Id) (from n : ℕ)
      → (IsInside held a.tx id from n → over_it.sound a.tx → over_it.forgeries b.tx ≤ over_it.forgeries a.tx → len b.tx.overlay ≤ len a.tx.overlay + (pieces n (room (held.payload a.tx)) + 1))
      → (blob : Has (holdings_by tx_in changes_in held) a id) → over_it.sound a.tx → over_it.forgeries b.tx ≤ over_it.forgeries a.tx → IsSparing (holdings_by tx_in changes_in held) a b (length blob.bytes) from n
  sparing a b id from n few blob sound unforged l told some fits =
      let same : room (held.payload a.tx) ≡ l = cc in
      subst (λ x. len b.tx.overlay ≤ len a.tx.overlay + pieces n x + 1) same (omega (arith, few (record { tree = root_of a id blob; some = omega arith; fits = fits }) sound unforged))
