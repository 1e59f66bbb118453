-- What a store of blobs over a store of blocks means.
use Rattle.std.specs.Prelude.{◌≡◌, ◌≤◌, ℕ, true}
use Rattle.std.proofs.Common.{ap, arith}
use Rattle.std.specs.FinMap as fin
use Rattle.std.specs.FinMap.{get}
use Rattle.std.specs.declared.option.Option.TheVariants.{Some}
use Rattle.blob_api.specs.store_outcome.Meanings.{Meanings, Lawful}
use Rattle.blob_api.specs.store_outcome.Lift.{lift, lawful}
use Rattle.block_id.specs.declared.sizes.TheConstants.{MIN_PAYLOAD}
use Rattle.data_tree.specs.data_nodes.Layout.{room}
use Rattle.store_api.specs.Content.{Changes}
use Rattle.store_api.specs.Holdings.{Holdings, Steady}
use Rattle.data_tree.specs.Stored.{StoresBlobs}
use Rattle.blob_api.specs.BlobMap.{BlobMap, BlobHoldings, BlobsSteady}
use Rattle.blob_store.specs.OneMap.{one_map}

-- those of the store of blocks, f
abbrev pub meanings_by : {A B : Type 0} → (A → B) → Meanings B → Meanings A
meanings_by f M = lift f (λ a. Unit {0}) M

pub lawful_by : {A B : Type 0} (f : A → B) (M : Meanings B) → Lawful M → Lawful (meanings_by f M)
lawful_by f M laws = lawful f (λ a. Unit {0}) M laws

-- the payloads are told, and the blocks are exactly the trees of these blobs
abbrev pub StoresMap : {B : Type 0} → Holdings B → B → BlobMap → Type 0
StoresMap H b m = (H.told b ≡ true) × StoresBlobs (H.payload b) (H.content b) (get m)

-- f is the store of blocks, and g are the changes that it shows
abbrev pub holdings_by : {A B : Type 0} → (A → B) → (B → Changes) → Holdings B → BlobHoldings A
holdings_by f g H = record {
  stands_for = λ a m. StoresMap H (f a) m;
  changed = λ a. fin.len (g (f a));
  piece = λ a. Some (room (H.payload (f a)));
}

some_room : (payload l : ℕ) → MIN_PAYLOAD ≤ payload → Some (room payload) ≡ Some l → 1 ≤ l
some_room payload l least e = let same : room payload ≡ l = cc in omega (arith, same)

pub steady_by : {A B : Type 0} (f : A → B) (g : B → Changes) (M : Meanings B) (H : Holdings B) → Steady M H → BlobsSteady (meanings_by f M) (holdings_by f g H)
steady_by f g M H st = record {
  one_map = λ a m n h k. one_map (H.payload (f a)) (H.content (f a)) m n h.1 k.1;
  piece_some = λ a l i e. some_room (H.payload (f a)) l (st.at_least (f a) i.0) e;
  piece_stays = λ a b h. ap (λ p. Some (room p)) (st.loaded_payload (f a) (f b) h);
}
