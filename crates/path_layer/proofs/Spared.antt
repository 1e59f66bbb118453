-- How few blocks a write changes, from the blobs to the blocks.
use Rattle.std.proofs.Common.{◌≡◌, ℕ, ◌+◌, ◌≤◌, List, refl, arith}
use Rattle.std.specs.Prelude.{Some}
use Rattle.std.specs.FinMap as fin
use Rattle.path_contents.specs.store_outcome.Meanings.{Meanings}
use Rattle.blob_store.specs.store_api.Content.{Changes}
use Rattle.blob_store.specs.store_api.Holdings.{Holdings, Steady}
use Rattle.blob_store.specs.blob_api.BlobMap.{BlobHoldings}
use Rattle.blob_store.specs.Meanings.{holdings_by}
use Rattle.blob_store.specs.data_nodes.Layout.{room}
use Rattle.fs_model.specs.declared.command.Command.{Command}
use Rattle.fs_model.specs.declared.command.Command.TheVariants.{Write}
use Rattle.fs_model.specs.Tree.{Tree}
use Rattle.path_contents.specs.path_walks.Showing.{BlobsShow as NeedsTree}
use Rattle.path_layer.specs.Sparing.{IsSparingIn, OnWriteInside}
use Rattle.path_layer.specs.Performing.{Shown}
use Rattle.path_layer.specs.Showing.{ShowsFiles}

joined : (x y a b : ℕ) → y ≤ x + a + b + 2 → y ≤ x + (a + b + 2)
joined x y a b h = omega arith

by_pieces : {S : Type 0} (H : BlobHoldings S) (a b : S) (payload : ℕ) (t : Tree) → H.piece a ≡ Some (room payload) → (command : Command) → IsSparingIn H a b t command
    → OnWriteInside payload t command (λ most. H.changed b ≤ H.changed a + most)
by_pieces H a b payload t told (Write p from bytes) spared = λ row there file least most. joined _ _ _ _ (spared row there file (room payload) told least most)
by_pieces H a b payload t told _ spared = tt

-- a command on blobs that blocks store was as sparing with blocks
pub spared_blocks : {S : Type 0} (M : Meanings S) (H : Holdings S) (steady : Steady M H) {A : Type 0} (f : A → S) (g : S → Changes) (a b : A) (root : List ℕ) (command : Command)
    → ((n : NeedsTree (holdings_by f g H) a root) → M.sound (f a) → M.forgeries (f b) ≤ M.forgeries (f a) → IsSparingIn (holdings_by f g H) a b n.tree command)
    → (n : Shown (ShowsFiles (H.payload (f a)) root) (H.content (f a))) → M.sound (f a) → M.forgeries (f b) ≤ M.forgeries (f a)
    → OnWriteInside (H.payload (f a)) n.tree command (λ most. fin.len (g (f b)) ≤ fin.len (g (f a)) + most)
spared_blocks M H steady f g a b root command spared n sound few =
    by_pieces (holdings_by f g H) a b (H.payload (f a)) n.tree refl command
    (spared (record { map = n.shown.map; stands = (steady.sound_told (f a) sound, n.shown.stores); tree = n.tree; ids = n.shown.shows.0; shows = n.shown.shows.1 }) sound few)
