-- How a look begins: the configuration under a password, and the blocks that its root leads to.
use Rattle.std.specs.Prelude.{◌≡◌, ◌≤◌, ℕ, false, List, []}
use Rattle.std.specs.declared.option.Option.{Option}
use Rattle.std.specs.declared.option.Option.TheVariants.{Some}
use Rattle.outside.specs.Causes.{RoseBy}
use Rattle.outside.specs.Trace.{Call, adds, config, got}
use Rattle.scrypt_kdf.specs.Cost.{Cost}
use Rattle.found_blocks.specs.Finding.{Finding}
use Rattle.found_blocks.specs.Searching.{Discovered}
use Rattle.found_blocks.specs.Stores.{holdings_by, meanings_by}
use Rattle.found_blocks.specs.Views.{IsIdle, finding_by}
use Rattle.found_blocks.specs.declared.store.FoundStore.{FoundStore}
use Rattle.mount_answering.specs.store_api.Holdings.{Holdings}
use Rattle.mount_answering.specs.store_outcome.Meanings.{Meanings}
use Rattle.session_laws.specs.Resting.{OnlyAsked, OnlyGot}
use Rattle.session_laws.specs.aes_gcm.Gcm.{opened_of}
use Rattle.session_laws.specs.config_file.ConfigOf.{ConfigOf, opened}
use Rattle.session_laws.specs.config_file.Settings.{Settings}
use Rattle.session_laws.specs.config_file.declared.config.Cipher.{Cipher}
use Rattle.session_laws.specs.mount_stores.Opening.{ConfigCause}
use Rattle.session_laws.specs.mount_stores.declared.error.OpenError.{OpenError}
use Rattle.session_laws.specs.mount_stores.declared.error.OpenError.TheVariants.{Memory, FaultDirectory}
use Rattle.session_laws.specs.mount_stores.declared.opening.TheConstants.{MAX_CONFIG}
use Rattle.looking.specs.Hosting.{IsReady, store_of}
use Rattle.looking.specs.declared.finding.Unbegun.{Unbegun}
use Rattle.looking.specs.declared.host.Looked.{Looked}

-- ---- found blocks as a store

-- what was found, by what this cipher opens
abbrev pub finding_in : {V : Type 0} → FoundStore V Cipher → Finding
finding_in store = finding_by (λ cipher key extra text. opened_of key extra text) store

abbrev pub calls_in : {V : Type 0} → (V → Option (List Call)) → FoundStore V Cipher → Option (List Call)
calls_in trace store = trace store.sealed.vault.vault

abbrev pub faults_in : {V : Type 0} → (V → ℕ) → FoundStore V Cipher → ℕ
faults_in faults store = faults store.sealed.vault.vault

abbrev pub found_meanings : {V : Type 0} → (V → Option (List Call)) → (V → ℕ) → Meanings (FoundStore V Cipher)
found_meanings trace faults = meanings_by finding_in (calls_in trace) (faults_in faults) (λ s. IsIdle s.sealed 16)

abbrev pub found_holdings : {V : Type 0} → Holdings (FoundStore V Cipher)
found_holdings = holdings_by finding_in

-- ---- the beginning

-- one call gave the configuration's file, which opens to this configuration under the password
pub record GaveSettings (password : List ℕ) (old new : Option (List Call)) (c : Settings) : Type 0 where
  pub file : List ℕ
  pub cost : Cost
  pub came : new ≡ adds old (got config MAX_CONFIG (Some file))
  pub opens : ConfigOf password file (opened c cost)

-- Under this configuration blocks were asked for, each once, and found from the root on, and they are what is looked at.
pub record BeginsUnder {V : Type 0} (trace : V → Option (List Call)) (faults : V → ℕ) (c : Settings) (vault : V) (l : Looked (FoundStore V Cipher)) : Type 0 where
  pub none : Finding
  pub empty : none.rows ≡ []
  pub discovered : Discovered none (finding_in (store_of l)) (trace vault) (calls_in trace (store_of l))
  pub size : (finding_in (store_of l)).size ≡ c.block_size
  pub opens : (finding_in (store_of l)).opens ≡ opened_of c.key
  pub root : l.root.0 ≡ c.root
  pub ready : IsReady (found_meanings trace faults) found_holdings l
  pub fresh : l.violated ≡ false
  pub asked : OnlyGot (trace vault) (calls_in trace (store_of l))
  pub quiet : faults_in faults (store_of l) ≡ faults vault

-- the same from the directory on, behind one call for the configuration
pub record BeginsLook {V : Type 0} (trace : V → Option (List Call)) (faults : V → ℕ) (password : List ℕ) (vault : V) (l : Looked (FoundStore V Cipher)) : Type 0 where
  pub c : Settings
  pub mid : V
  pub config : GaveSettings password (trace vault) (trace mid) c
  pub calm : faults mid ≡ faults vault
  pub begins : BeginsUnder trace faults c mid l

-- a search stops for want of memory, or just where a call failed
abbrev pub SearchCause : OpenError → ℕ → ℕ → Type 0
SearchCause Memory before now = now ≡ before
SearchCause FaultDirectory before now = RoseBy 1 before now
SearchCause error before now = ⊥

-- it stopped
pub record FindsNone {V : Type 0} (trace : V → Option (List Call)) (faults : V → ℕ) (vault : V) (u : Unbegun V) : Type 0 where
  pub cause : SearchCause u.error (faults vault) (faults u.vault)
  pub grows : faults vault ≤ faults u.vault
  pub asked : OnlyGot (trace vault) (trace u.vault)

-- Nothing is looked at: the configuration isn't taken, for this cause, or the search behind it stopped.
pub record IsUnbegun {V : Type 0} (trace : V → Option (List Call)) (faults : V → ℕ) (password : List ℕ) (vault : V) (u : Unbegun V) : Type 0 where
  pub first : Option (List Call)
  pub cause : ConfigCause password [] (trace vault) first (faults vault) (faults u.vault) u.error
  pub grows : faults vault ≤ faults u.vault
  pub asked : OnlyAsked (trace vault) (trace u.vault)
