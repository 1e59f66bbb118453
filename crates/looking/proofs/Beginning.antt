-- How a look begins, by the steps of its beginning.
use Rattle.std.proofs.Common.{◌≡◌, ◌≤◌, ℕ, false, List, [], refl, sym, ◌∙◌, ap, subst, arith}
use Rattle.std.specs.declared.option.Option.{Option}
use Rattle.outside.specs.Causes.{RoseBy}
use Rattle.outside.specs.Trace.{Call}
use Rattle.found_blocks.specs.Searching.{Discovered}
use Rattle.found_blocks.specs.declared.store.FoundStore.{FoundStore}
use Rattle.found_blocks.specs.sealed_store.Stores.{block_size_of, key_of}
use Rattle.session_laws.specs.Resting.{OnlyGot}
use Rattle.session_laws.specs.aes_gcm.Gcm.{opened_of}
use Rattle.session_laws.specs.config_file.Settings.{Settings}
use Rattle.session_laws.specs.config_file.declared.config.Cipher.{Cipher}
use Rattle.session_laws.specs.mount_stores.Opening.{ConfigCause, ReadsConfigOnce}
use Rattle.session_laws.specs.mount_stores.declared.error.OpenError.{OpenError}
use Rattle.session_laws.specs.mount_stores.declared.error.OpenError.TheVariants as open_error
use Rattle.looking.specs.Finding.{BeginsUnder, FindsNone, IsUnbegun, SearchCause, calls_in, faults_in, finding_in, found_holdings, found_meanings}
use Rattle.looking.specs.Hosting.{IsReady, store_of}
use Rattle.looking.specs.declared.finding.Unbegun.{Unbegun}
use Rattle.looking.specs.declared.host.Looked.{Looked}
use Rattle.looking.proofs.Asked.{asked_then, config_asked, discovered_got, got_asked}

module _ {V : Type 0} (trace : V → Option (List Call)) (faults : V → ℕ) (vault : V) (a b : FoundStore V Cipher) (same : a.sealed.vault.vault ≡ vault)
    (d : Discovered (finding_in a) (finding_in b) (calls_in trace a) (calls_in trace b)) where
  found_from : Discovered (finding_in a) (finding_in b) (trace vault) (calls_in trace b)
  found_from = subst (λ (v : V). Discovered (finding_in a) (finding_in b) (trace v) (calls_in trace b)) same d

  pub search_got : OnlyGot (trace vault) (calls_in trace b)
  search_got = discovered_got (finding_in a) (finding_in b) (trace vault) (calls_in trace b) found_from

  pub stopped : (error : OpenError) (out : V) → out ≡ b.sealed.vault.vault → SearchCause error (faults_in faults a) (faults_in faults b) → faults_in faults a ≤ faults_in faults b
      → FindsNone trace faults vault (record { error = error; vault = out })
  stopped error out e cause grows = subst (λ (v : V). FindsNone trace faults vault (record { error = error; vault = v })) (sym e) (record {
    cause = subst (λ (v : V). SearchCause error (faults v) (faults_in faults b)) same cause;
    grows = subst (λ (v : V). faults v ≤ faults_in faults b) same grows;
    asked = search_got;
  })

  module _ (c : Settings) (size : block_size_of a.sealed ≡ c.block_size) (key : key_of a.sealed ≡ c.key) (empty : a.rows ≡ []) (quiet : faults_in faults b ≡ faults_in faults a)
      (l : Looked (FoundStore V Cipher)) (root : l.root.0 ≡ c.root) (ready : IsReady (found_meanings trace faults) found_holdings l) (fresh : l.violated ≡ false) where
    begins_at : (s : FoundStore V Cipher) → s ≡ b → s ≡ store_of l → BeginsUnder trace faults c vault l
    begins_at s e own = record {
      none = finding_in a;
      empty = empty;
      discovered = subst (λ (s : FoundStore V Cipher). Discovered (finding_in a) (finding_in s) (trace vault) (calls_in trace s)) (sym e ∙ own) found_from;
      size = subst (λ (s : FoundStore V Cipher). (finding_in s).size ≡ c.block_size) (sym e ∙ own) (d.size ∙ size);
      opens = subst (λ (s : FoundStore V Cipher). (finding_in s).opens ≡ opened_of c.key) (sym e ∙ own) (d.opens ∙ ap opened_of key);
      root = root;
      ready = ready;
      fresh = fresh;
      asked = subst (λ (s : FoundStore V Cipher). OnlyGot (trace vault) (calls_in trace s)) (sym e ∙ own) search_got;
      quiet = subst (λ (s : FoundStore V Cipher). faults_in faults s ≡ faults vault) (sym e ∙ own) (quiet ∙ ap faults same);
    }

    pub begins : store_of l ≡ b → BeginsUnder trace faults c vault l
    begins e = begins_at (store_of l) e refl

module _ {V : Type 0} (trace : V → Option (List Call)) (faults : V → ℕ) (password : List ℕ) (vault mid : V) (reads : ReadsConfigOnce (trace vault) (trace mid)) (calm : faults mid ≡ faults vault) where
  search_config : (error : OpenError) (now : ℕ) → SearchCause error (faults mid) now → ConfigCause password [] (trace vault) (trace mid) (faults vault) now error
  search_config open_error.Memory now h = tt
  search_config open_error.FaultDirectory now h = subst (λ (n : ℕ). RoseBy 1 n now) calm h
  search_config _ now h = absurd h

  pub search_stopped : (u : Unbegun V) → FindsNone trace faults mid u → IsUnbegun trace faults password vault u
  search_stopped u none = record {
    first = trace mid;
    cause = search_config u.error (faults u.vault) none.cause;
    grows = omega (arith, none.grows, calm);
    asked = asked_then (trace vault) (trace mid) (trace u.vault) (config_asked (trace vault) (trace mid) reads) (got_asked (trace mid) (trace u.vault) none.asked);
  }
