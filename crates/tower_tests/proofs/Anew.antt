-- What a put has in the content, and what a record that is opened anew stands for.
use Rattle.std.proofs.Common.{◌≡◌, ℕ, Bool, true, false, List, refl, sym, ◌∙◌, ap, subst}
use Rattle.std.specs.Prelude.{Option, Some, cond}
use Rattle.std.specs.FinMap as fin
use Rattle.std.specs.FinMap.{get-insert}
use Rattle.std.specs.Cmp.{eq_by_cmp_equiv}
use Rattle.std.specs.Cmp.Lexicographic.{nat_list_cmp_total}
use Rattle.outside.specs.Trace.{Call}
use Rattle.record_saver.specs.local_state.Record.{IsRecord}
use Rattle.record_saver.proofs.local_state_lemmas.Records.{one_reading}
use Rattle.record_saver.specs.store_api.Content.{Content, same_id, or_else, over}
use Rattle.record_saver.specs.store_api.Durables.{Identity}
use Rattle.integrity_store.specs.block_versions.Held.{Held}
use Rattle.integrity_store.specs.block_versions.Standing.{identity_of, Stands}

-- ---- a put

picked : (b : Bool) (payload : List ℕ) (o : Option (Option (List ℕ))) (old : Option (List ℕ)) → b ≡ true → or_else (cond b (Some (Some payload)) o) old ≡ Some payload
picked true payload o old e = refl
picked false payload o old e = absurd (cc)

-- what was put is in the content
pub put_there : (content : Content) (id payload : List ℕ) → over (fin.insert fin.empty id (Some payload)) content id ≡ Some payload
put_there content id payload =
    ap (λ o. or_else o (content id)) (get-insert nat_list_cmp_total fin.empty id (Some payload) id)
    ∙ picked (same_id id id) payload (fin.get fin.empty id) (content id) ((eq_by_cmp_equiv nat_list_cmp_total).refl id)

-- ---- a record that is opened anew

-- under the cipher, the key and the size that it was kept with, a record is opened as what it was kept by
same_identity : (identity : Identity) (kept : List ℕ) (trace : Option (List Call)) (content : Content) (h : Held) → IsRecord h.state h.list kept
    → identity.opens ≡ h.opens → identity.size ≡ h.size → Stands identity kept trace content → identity ≡ identity_of h
same_identity identity kept trace content h is opens size s =
    let reading = one_reading s.held.state h.state s.held.list h.list kept s.is_record is in
    λ i. record {
      marked = (sym (ap (λ (d : Identity). d.marked) s.same) ∙ ap (λ st. st.marked) reading.0) i;
      fs_id = (sym (ap (λ (d : Identity). d.fs_id) s.same) ∙ ap (λ st. st.fs_id) reading.0) i;
      key_salt = (sym (ap (λ (d : Identity). d.key_salt) s.same) ∙ ap (λ st. st.key_salt) reading.0) i;
      key_digest = (sym (ap (λ (d : Identity). d.key_digest) s.same) ∙ ap (λ st. st.key_digest) reading.0) i;
      client = (sym (ap (λ (d : Identity). d.client) s.same) ∙ ap (λ st. st.client) reading.0) i;
      size = size i;
      opens = opens i;
    }

-- it stands for the same, by the store that holds k
pub reopened : (identity : Identity) (kept : List ℕ) (old new : Option (List Call)) (content : Content) (h k : Held) → IsRecord h.state h.list kept
    → identity.opens ≡ h.opens → identity.size ≡ h.size → identity_of k ≡ identity_of h → new ≡ old → Stands identity kept old content → Stands (identity_of k) kept new content
reopened identity kept old new content h k is opens size known trace s =
    subst (λ d. Stands d kept new content) (same_identity identity kept old content h is opens size s ∙ sym known) (subst (λ t. Stands identity kept t content) (sym trace) s)
