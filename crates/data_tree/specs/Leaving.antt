-- What the calls on trees leave of the changes of a command: a before the call, b after it.
use Rattle.std.specs.Prelude.{◌≡◌, ◌≤◌, ◌<◌, ◌+◌, ◌*◌, ℕ, true, false, is_some}
use Rattle.std.specs.FinMap as fin
use Rattle.store_api.specs.declared.tx.Tx.{Tx}
use Rattle.store_api.specs.Content.{Id, same_id}
use Rattle.store_api.specs.Holdings.{Holdings, Stays}
use Rattle.store_api.specs.Txs.{content_of}

-- blocks were made at most: the store wasn't asked, and each block that was there is there with what the changes said of it
pub record AddsBlocks {S : Type 0} (H : Holdings S) (a b : Tx S) : Type 0 where
  pub store : b.store ≡ a.store
  pub seed : b.seed ≡ a.seed
  pub there : (q : Id) → is_some (content_of H a q) ≡ true → is_some (content_of H b q) ≡ true
  pub kept : (q : Id) → is_some (content_of H a q) ≡ true → fin.get b.overlay q ≡ fin.get a.overlay q

-- one block got a payload at most: the store wasn't asked, and the changes say of every other id what they said
pub record PutsOne {S : Type 0} (a b : Tx S) (id : Id) : Type 0 where
  pub store : b.store ≡ a.store
  pub seed : b.seed ≡ a.seed
  pub others : (q : Id) → same_id q id ≡ false → fin.get b.overlay q ≡ fin.get a.overlay q
  pub few : fin.len b.overlay ≤ fin.len a.overlay + 1

-- the store below was loaded at most, and no block went
pub record KeepsBlocks {S : Type 0} (H : Holdings S) (a b : Tx S) : Type 0 where
  pub below : Stays H a.store b.store
  pub there : (q : Id) → is_some (content_of H a q) ≡ true → is_some (content_of H b q) ≡ true

-- the store below was loaded at most, and no block came
pub record DropsBlocks {S : Type 0} (H : Holdings S) (a b : Tx S) : Type 0 where
  pub below : Stays H a.store b.store
  pub fewer : (q : Id) → is_some (content_of H b q) ≡ true → is_some (content_of H a q) ≡ true

-- so many trees of this room, of which there are at most so many, are no more than the bytes need
pub record IsCountFor (count bytes room most : ℕ) : Type 0 where
  pub some : 0 < bytes → 0 < count
  pub under : count * room < bytes + room
  pub few : count ≤ most
