-- A store of rows: an id with its payload, or with none once it was removed. So the used ids are those of the rows.
use Rattle.std.specs.Prelude.{◌≡◌, ◌≤◌, ◌+◌, ◌^◌, ℕ, true, false, List, T, length, map, filter, is_some, Option, Some, None, refl}
use Rattle.std.proofs.Common.{sym, ◌∙◌, ap, arith}
use Rattle.std.specs.FinMap as fin
use Rattle.std.specs.FinMap.{contains_key-keys, is_sorted}
use Rattle.block_id.specs.Fresh.{zero_id}
use Rattle.block_id.specs.declared.id.BlockId.{BlockId}
use Rattle.store_api.specs.declared.batch.BatchChange.{BatchChange}
use Rattle.store_api.specs.Entries.{change_view}
use Rattle.block_id.specs.declared.sizes.TheConstants.{MIN_PAYLOAD, MAX_BLOCK}
use Rattle.store_api.specs.store_outcome.Meanings.{Meanings, Lawful}
use Rattle.store_api.specs.store_outcome.InMemory.{in_memory, in_memory_lawful}
use Rattle.store_api.specs.Content.{Id, Content, Changes, id_cmp, or_else}
use Rattle.store_api.specs.Loads.{LoadAnswer, GivesPayload}
use Rattle.store_api.specs.Holdings.{Holdings, Steady, Stays, has_id}

abbrev pub content_of : Changes → Content
content_of rows id = or_else (fin.get rows id) None

-- what every store of rows keeps: each payload has this length, and no row is of the zero id
pub record Kept (payload : ℕ) (rows : Changes) : Type 0 where
  pub at_least : MIN_PAYLOAD ≤ payload
  pub at_most : payload ≤ MAX_BLOCK
  pub sized : (id bytes : List ℕ) → fin.get rows id ≡ Some (Some bytes) → length bytes ≡ payload
  pub no_zero : fin.get rows zero_id ≡ None

-- the change, or the row where there is none
abbrev pub newer : Option (Option (List ℕ)) → Option (Option (List ℕ)) → Option (Option (List ℕ))
newer None row = row
newer (Some change) row = Some change

-- these rows are the old ones with the changes
abbrev pub AreWith : Changes → Changes → Changes → Type 0
AreWith changes old new = (id : Id) → fin.get new id ≡ newer (fin.get changes id) (fin.get old id)

-- the ids of the entries that have a payload
abbrev pub living_in : List (BlockId × BatchChange) → List BlockId
living_in entries = map (λ e. e.0) (filter (λ e. is_some (change_view e.1)) entries)

-- the ids strictly rise
abbrev pub AreRising : List BlockId → Type 0
AreRising ids = T (is_sorted {X = ℕ} id_cmp (map (λ id. (id.0, 0)) ids))

-- the ids are those in the content
abbrev pub AreLiving : Changes → List BlockId → Type 0
AreLiving rows ids = (id : Id) → has_id (map (λ x. x.0) ids) id ≡ is_some (content_of rows id)

-- p is the length of each payload, and r are the rows
abbrev pub meanings_of : {S : Type 0} → (S → ℕ) → (S → Changes) → Meanings S
meanings_of p r = in_memory (λ s. Kept (p s) (r s)) (λ a b. (p b ≡ p a) × (r b ≡ r a))

abbrev pub holdings_of : {S : Type 0} → (S → ℕ) → (S → Changes) → Holdings S
holdings_of p r = record {
  content = λ s. content_of (r s);
  told = λ s. true;
  used = λ s. fin.keys (r s);
  spent = λ s id. false;
  version = λ s id. 0;
  payload = p;
}

abbrev pub applied_of : {S : Type 0} → (S → ℕ) → (S → Changes) → S → S → Changes → Type 0
applied_of p r a b changes = (p b ≡ p a) × AreWith changes (r a) (r b)

-- a load leaves the rows, and gives what they have
abbrev pub loads_of : {S : Type 0} → (S → ℕ) → (S → Changes) → S → S → Id → LoadAnswer → Type 0
loads_of p r a b id answer = (p b ≡ p a) × (r b ≡ r a) × GivesPayload (content_of (r a) id) answer

pub lawful_of : {S : Type 0} (p : S → ℕ) (r : S → Changes) → Lawful (meanings_of p r)
lawful_of p r = in_memory_lawful (λ s. Kept (p s) (r s)) (λ a b. (p b ≡ p a) × (r b ≡ r a)) (λ a. (refl, refl)) (λ a b c h k. (k.0 ∙ h.0, k.1 ∙ h.1))

-- an id is used where it has a row
pub has_id-keys : (rows : Changes) (id : Id) → has_id (fin.keys rows) id ≡ is_some (fin.get rows id)
has_id-keys rows id = sym (contains_key-keys rows id)

false_is_true : false ≡ true → ⊥
false_is_true e = cc

one_not_last : 0 + 1 ≡ 2 ^ 64 → ⊥
one_not_last e = omega arith

content_rows : (o : Option (Option (List ℕ))) → is_some (or_else o None) ≡ true → is_some o ≡ true
content_rows None h = h
content_rows (Some change) h = refl

payload_row : (o : Option (Option (List ℕ))) (bytes : List ℕ) → or_else o None ≡ Some bytes → o ≡ Some (Some bytes)
payload_row None bytes h = absurd (cc)
payload_row (Some change) bytes h = ap Some h

pub steady_of : {S : Type 0} (p : S → ℕ) (r : S → Changes) → Steady (meanings_of p r) (holdings_of p r)
steady_of p r = record {
  sound_told = λ a s. refl;
  at_least = λ a i. i.at_least;
  at_most = λ a i. i.at_most;
  content_used = λ a id i h. has_id-keys (r a) id ∙ content_rows (fin.get (r a) id) h;
  zero_unused = λ a i. has_id-keys (r a) zero_id ∙ ap is_some i.no_zero;
  sized = λ a id bytes i t h. i.sized id bytes (payload_row (fin.get (r a) id) bytes h);
  spent_used = λ a id i h. absurd (false_is_true h);
  spent_last = λ a id i h. absurd (false_is_true h);
  last_spent = λ a id i h. absurd (one_not_last h);
  unused_version = λ a id i h. refl;
  loaded_payload = λ a b h. h.0;
  loaded_version = λ a b id h. refl;
}

pub settled_of : {S : Type 0} (p : S → ℕ) (r : S → Changes) (a b : S) → (p b ≡ p a) × (r b ≡ r a) → Stays (holdings_of p r) a b
settled_of p r a b h = record {
  ids = λ id. ap (λ rows. is_some (content_of rows id)) h.1;
  content = λ t id. ap (λ rows. content_of rows id) h.1;
  told = refl;
  used = ap (λ rows. fin.keys rows) h.1;
  spent = λ id. refl;
  version = λ id. refl;
  payload = h.0;
}
