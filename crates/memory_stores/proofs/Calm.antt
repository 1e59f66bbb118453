-- A call of a store over no outside that goes well.
use Rattle.std.proofs.Common.{refl}
use Rattle.std.specs.declared.result.Result.TheVariants.{Ok, Err}
use Rattle.block_id.specs.declared.fail.Fail.TheVariants.{Violation}
use Rattle.block_id.specs.declared.fail.Why.TheVariants.{Structure}
use Rattle.blob_api.specs.store_outcome.Outcome.{Outcome}
use Rattle.memory_stores.specs.BlobsRows.{meanings_of}

pub went_well : {S T N : Type 0} {P : N → T → Type 0} (a b : S) (x : T) → ((n : N) → P n x) → Outcome (meanings_of {S = S}) N a b (Ok x) P
went_well a b x f = record { intact = tt; loaded = tt; sound = λ s l. tt; met = tt; fault = tt; quiet = refl; noticed = λ why g. absurd g; value = λ n s l. f n; structure = λ n s l. tt }

-- a refusal, which can't be where the needs hold
pub refused : {S T N : Type 0} {P : N → T → Type 0} (a b : S) → (N → ⊥) → Outcome (meanings_of {S = S}) {T = T} N a b (Err (Violation Structure)) P
refused a b f = record { intact = tt; loaded = tt; sound = λ s l. tt; met = tt; fault = tt; quiet = refl; noticed = λ why g. absurd g; value = λ n s l. tt; structure = λ n s l. f n }
