-- What opening a store is given.
use Rattle.std.proofs.Common.{◌≡◌, ℕ, List, take, false, sym, ◌∙◌, ap, subst, arith}
use Rattle.std.specs.declared.option.Option.{Option}
use Rattle.std.specs.declared.option.Option.TheVariants.{None, Some}
use Rattle.std.proofs.lemmas.Option.{same_Some, none-some}
use Rattle.outside.specs.Changes.{FileChanges}
use Rattle.outside.specs.Trace.{Call, config}
use Rattle.record_saver.specs.local_state.Record.{PlainState, record_bytes, HasRecord, IsRecord}
use Rattle.record_saver.proofs.local_state_lemmas.Records.{one_reading, written_record}
use Rattle.integrity_store.specs.block_versions.Held.{Held}
use Rattle.config_file.specs.aes_gcm.Gcm.{opened_of}
use Rattle.integrity_store.specs.redo_vault.Redo.{Gave}
use Rattle.integrity_store.specs.block_versions.Standing.{Configures, identity_of, records}
use Rattle.integrity_store.specs.block_versions.Stores.{IsNoBlock}
use Rattle.config_file.proofs.Waiting.{form_waits}
use Rattle.config_file.specs.Format.{HasForm}
use Rattle.config_file.specs.Settings.{Settings}
use Rattle.record_saver.specs.Saving.{KeptConfigures}
use Rattle.mount_stores.specs.declared.error.OpenError.{OpenError}
use Rattle.mount_stores.specs.declared.error.OpenError.TheVariants.{Memory, NoState, BadState, Exists, Marked, Mismatch, NoConfig, Config as OfConfig, FaultDirectory, FaultState}
use Rattle.mount_stores.specs.Opening.{ConfigCause, OpenCause, IsOf, ReadsConfigOnce}
use Rattle.mount_stores.specs.Identities.{holder_of, identity_for}
use Rattle.mount_stores.proofs.Reading.{reads_configures, short_cut}

pub config_open : (password : List ℕ) (state : PlainState) (list : FileChanges) (old new : Option (List Call)) (v0 v1 : ℕ) (e : OpenError) → ConfigCause password list old new v0 v1 e → OpenCause password state list old new v0 v1 e
config_open password state list old new v0 v1 Memory h = h
config_open password state list old new v0 v1 NoState h = h
config_open password state list old new v0 v1 BadState h = h
config_open password state list old new v0 v1 Exists h = h
config_open password state list old new v0 v1 Marked h = h
config_open password state list old new v0 v1 (Mismatch a b) h = absurd h
config_open password state list old new v0 v1 NoConfig h = h
config_open password state list old new v0 v1 (OfConfig x) h = h
config_open password state list old new v0 v1 FaultDirectory h = h
config_open password state list old new v0 v1 FaultState h = h

-- the configuration's file, by what the record that is kept says
pub config_start : (kept : Option (List ℕ)) (last : List ℕ) (t0 t : Option (List Call)) (bytes : List ℕ) → kept ≡ Some last → ReadsConfigOnce t0 t → KeptConfigures records kept t0 bytes → Configures last t bytes
config_start kept last t0 t bytes is reads k = reads_configures last bytes t0 t reads (subst (λ r. Configures r t0 bytes) (same_Some _ _ (sym k.1 ∙ is)) k.2)

-- what a store holds whose record is that of a state and a list
pub state_is : (h : Held) (state : PlainState) (list : FileChanges) → HasRecord h.state h.list → HasRecord state list → record_bytes h.state h.list ≡ record_bytes state list → h.state ≡ state
state_is h state list had has same =
    (one_reading h.state state h.list list (record_bytes h.state h.list) (written_record h.state h.list had) (subst (λ bytes. IsRecord state list bytes) (sym same) (written_record state list has))).0

-- a configuration may wait where it was found
pub no_block : (w : Option (Option (List ℕ))) (t0 t : Option (List Call)) (answer : List ℕ) → Gave w t0 t config 1127 (Some answer) → HasForm answer → IsNoBlock w
no_block None t0 t answer gave form = tt
no_block (Some None) t0 t answer gave form = absurd (none-some answer (sym gave.1))
no_block (Some (Some bytes)) t0 t answer gave form =
    let is : bytes ≡ answer = short_cut 1127 answer bytes (same_Some _ _ gave.1) (omega (arith, form.size)) in
    λ magic. (form_waits answer form).1 (ap (take 14) (sym is) ∙ magic)

pub identity_is : (h : Held) (c : Settings) (state : PlainState) → h.size ≡ c.block_size → h.opens ≡ opened_of c.key → h.state ≡ state → state.marked ≡ false → IsOf state c → identity_of h ≡ identity_for c (holder_of state)
identity_is h c state size opens is unmarked of = λ i. record {
  marked = (ap (λ (p : PlainState). p.marked) is ∙ unmarked) i;
  fs_id = (ap (λ (p : PlainState). p.fs_id) is ∙ of.fs_id) i;
  key_salt = (is i).key_salt;
  key_digest = (ap (λ (p : PlainState). p.key_digest) is ∙ of.digest) i;
  client = (is i).client;
  size = size i;
  opens = opens i;
}
