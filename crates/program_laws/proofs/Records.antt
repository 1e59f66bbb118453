-- One record and one trace call for one content.
use Rattle.std.proofs.Common.{◌≡◌, ◌∙◌, ℕ, List, sym, ap, subst}
use Rattle.std.specs.declared.option.Option.{Option}
use Rattle.std.proofs.lemmas.Option.{same_Some}
use Rattle.mount.specs.blob_api.BlobMap.{BlobMap}
use Rattle.mount.specs.blob_store.OneMap.{one_map}
use Rattle.mount.specs.config_file.Settings.{Settings}
use Rattle.mount.specs.path_walks.Shows.{ShowsTree}
use Rattle.fs_model.specs.Tree.{Tree}
use Rattle.mount.specs.block_versions.Held.{Held, wanted}
use Rattle.mount.specs.block_versions.Standing.{Stands}
use Rattle.mount.proofs.local_state_lemmas.Records.{one_reading}
use Rattle.mount.specs.local_state.Record.{IsRecord}
use Rattle.mount.specs.Representing.{Represents}
use Rattle.mount.specs.mount_stores.Identities.{Holder, identity_for}
use Rattle.outside.specs.Trace.{Call}
use Rattle.mount.specs.store_api.Content.{Content}
use Rattle.mount.specs.store_api.Durables.{Identity}
use Rattle.mount.specs.path_layer.Showing.{ShowsFiles}
use Rattle.program_laws.proofs.Paths.{shown}

-- what is held is the record's state and list, and what the identity says
same_held : (a b : Held) → a.size ≡ b.size → a.opens ≡ b.opens → a.state ≡ b.state → a.list ≡ b.list → a ≡ b
same_held a b sizes opens states lists = λ i. record { size = sizes i; opens = opens i; state = states i; list = lists i }

one_held : (c : Settings) (holder other : Holder) (kept kept2 : List ℕ) (trace : Option (List Call)) (x y : Content) → kept ≡ kept2 → (s : Stands (identity_for c holder) kept trace x) → (r : Stands (identity_for c other) kept2 trace y) → s.held ≡ r.held
one_held c holder other kept kept2 trace x y same s r =
    let reading = one_reading s.held.state r.held.state s.held.list r.held.list kept2 (subst (IsRecord s.held.state s.held.list) same s.is_record) r.is_record in
    same_held s.held r.held
    (ap (λ (i : Identity). i.size) s.same ∙ sym (ap (λ (i : Identity). i.size) r.same))
    (ap (λ (i : Identity). i.opens) s.same ∙ sym (ap (λ (i : Identity). i.opens) r.same))
    reading.0 reading.1

one_content : (c : Settings) (holder other : Holder) (kept kept2 : List ℕ) (trace : Option (List Call)) (x y : Content) → kept ≡ kept2 → Stands (identity_for c holder) kept trace x → Stands (identity_for c other) kept2 trace y → x ≡ y
one_content c holder other kept kept2 trace x y same s r =
    let held = one_held c holder other kept kept2 trace x y same s r in
    λ i id. (sym (s.wants id) ∙ (ap (λ (h : Held). wanted h trace id) held ∙ r.wants id)) i

one_files : (payload : ℕ) (root : List ℕ) (x : Content) (t u : Tree) → ShowsFiles payload root x t → ShowsFiles payload root x u → t ≡ u
one_files payload root x t u s r =
    let map = one_map payload x s.map r.map s.stores r.stores in
    shown r.map root t u (subst (λ (m : BlobMap). ShowsTree m root t) map s.shows) r.shows

pub kept_one : (kept : Option (List ℕ)) (calls : Option (List Call)) (c : Settings) (t u : Tree) → Represents ShowsFiles kept calls c t → Represents ShowsFiles kept calls c u → t ≡ u
kept_one kept calls c t u a b =
    let same = same_Some _ _ (sym a.keeps.represents.1 ∙ b.keeps.represents.1) in
    let contents = one_content c a.holder b.holder a.keeps.represents.0 b.keeps.represents.0 calls a.keeps.content b.keeps.content same a.keeps.represents.2 b.keeps.represents.2 in
    one_files _ _ b.keeps.content t u (subst (λ (x : Content). ShowsFiles _ _ x t) contents a.keeps.shown) b.keeps.shown
