-- What making a file system seals: its root's block alone.
use Rattle.std.proofs.Common.{◌≡◌, ◌⊎◌, ◌++◌, ℕ, Bool, true, false, cond, List, [], ◌∷◌, refl, sym, ◌∙◌, ap, subst, inl, inr}
use Rattle.std.specs.Prelude.{is_some, length, map}
use Rattle.std.specs.Cmp.Lexicographic.{nat_list_cmp_total}
use Rattle.std.specs.FinMap as fin
use Rattle.std.specs.FinMap.{get-empty, get-insert, entries-insert, len-empty, len-entries}
use Rattle.std.proofs.lemmas.List.{nil_from_length}
use Rattle.std.proofs.lemmas.Bool.{or_left}
use Rattle.std.specs.declared.option.Option.{Option}
use Rattle.std.specs.declared.option.Option.TheVariants.{None, Some}
use Rattle.rand_core.specs.Stream.{Stream, fill_bytes}
use Rattle.outside.specs.Changes.{FileChanges, change_at}
use Rattle.outside.specs.Trace.{At, Call, block, config}
use Rattle.outside.specs.declared.keeper.Keeper.{Ghosts as KeeperGhosts}
use Rattle.mount.specs.block_versions.Standing.{listed, records}
use Rattle.mount.specs.config_file.declared.config.Cipher.{Cipher}
use Rattle.mount.specs.integrity_store.declared.store.IntegrityStore.{IntegrityStore}
use Rattle.mount.specs.integrity_store.Draws.{AreDrawn, draws, given_in, given_ids, iv_in, iv_of}
use Rattle.mount.specs.integrity_store.WaitingLaws.{in_order}
use Rattle.mount.specs.Sealing.{Draw, vector, known_after, HoldsSealed, View, ComesFrom, AddsSealed, AreSealed, IsRootDraw, SealsRoot, view_closed, view_made}
use Rattle.mount.specs.SealingLaws.{adds_nothing, comes_first, comes_waiting, sealed_then}
use Rattle.mount.proofs.Sealing.{adds_config, adds_reads, batch_waits, closes_sealed, file_at, iv_at, known_vectors, vectors_for, wrote_sealed}
use Rattle.mount.specs.mount_stores.Opening.{ReadsConfigOnce}
use Rattle.mount.specs.mount_stores.Tower.{sealed_held, sealed_trace, sealed_meanings, sealed_holdings, sealed_durables}
use Rattle.mount_opening.specs.Drawing.{MakesNone, MakesRoot}
use Rattle.mount_opening.specs.mount_core.Keeping.{IsSameOrRecord}
use Rattle.mount_opening.specs.record_saver.Saving.{World, world}
use Rattle.mount_opening.specs.store_api.Content.{Id, Changes, id_cmp, same_id}
use Rattle.mount_opening.specs.store_api.Holdings.{has_id}
use Rattle.mount_opening.specs.store_api.Lists.{with_config}
use Rattle.mount.specs.integrity_store.Applied.{Applied}

true_is_false : true ≡ false → ⊥
true_is_false e = cc

-- ---- a batch of one block

none_yet : fin.entries (fin.empty {X = Option (List ℕ)} {R = id_cmp}) ≡ []
none_yet = nil_from_length _ (sym (len-entries (fin.empty {X = Option (List ℕ)} {R = id_cmp})) ∙ len-empty id_cmp (Option (List ℕ)))

one_entry : (changes : Changes) (root payload : List ℕ) → changes ≡ fin.insert fin.empty root (Some payload) → given_ids changes ≡ root ∷ []
one_entry changes root payload one =
    ap (λ m. given_in (fin.entries m)) one ∙ (ap given_in (entries-insert nat_list_cmp_total fin.empty root (Some payload)) ∙ ap (λ es. given_in (fin.put id_cmp root (Some payload) es)) none_yet)

-- it says something of that block alone
said_one : (changes : Changes) (root payload id : List ℕ) → changes ≡ fin.insert fin.empty root (Some payload) → is_some (fin.get changes id) ≡ true → same_id id root ≡ true
said_one changes root payload id one said =
    let got : fin.get changes id ≡ cond (same_id id root) (Some (Some payload)) None =
    ap (λ m. fin.get m id) one ∙ (get-insert nat_list_cmp_total fin.empty root (Some payload) id ∙ ap (λ o. cond (same_id id root) (Some (Some payload)) o) (get-empty id_cmp id)) in
    elim (same_id id root) as (λ b. is_some (cond b (Some (Some payload)) None) ≡ true → b ≡ true) [ true ↦ λ _. refl | false ↦ λ e. absurd (true_is_false (sym e)) ] (ap is_some (sym got) ∙ said)

-- its vector is the next one of the stream
one_drawn : (list : FileChanges) (root : Id) (ids : List Id) (stream left : Stream) → ids ≡ root ∷ [] → (map (λ id. iv_of (change_at (block id) list)) ids, left) ≡ draws (length ids) stream
    → IsRootDraw root (vectors_for list ids ++ []) stream left
one_drawn list root ids stream left same is =
    let at : (map (λ id. iv_of (change_at (block id) list)) (root ∷ []), left) ≡ draws 1 stream = subst (λ l. (map (λ id. iv_of (change_at (block id) list)) l, left) ≡ draws (length l) stream) same is in
    let first : iv_of (change_at (block root) list) ≡ (fill_bytes 16 stream).0 = let ivs = ap (λ (p : List (List ℕ) × Stream). p.0) at in cc in
    subst (λ l. IsRootDraw root (vectors_for list l ++ []) stream left) (sym same) (refl, iv_at (change_at (block root) list) ∙ first, ap (λ (p : List (List ℕ) × Stream). p.1) at, refl)

-- ---- what it seals

module _ {V : Type 0} {K : Type 0} (trace : V → Option (List Call)) (faults : V → ℕ) (G : KeeperGhosts K) where
  abbrev pub W : World (IntegrityStore V Cipher) K
  W = world (sealed_meanings trace faults) (sealed_holdings trace) (sealed_durables trace) records G

abbrev pub applied : {V : Type 0} → (V → Option (List Call)) → IntegrityStore V Cipher → IntegrityStore V Cipher → Changes → Type 0
applied trace a b changes = Applied (sealed_held a) (sealed_held b) (sealed_trace trace a) (sealed_trace trace b) changes

abbrev pub taken : {V : Type 0} → IntegrityStore V Cipher → IntegrityStore V Cipher → Changes → Stream → Stream → Type 0
taken a b changes s t = AreDrawn changes (sealed_held b).list s t

module _ {V : Type 0} {K : Type 0} (trace : V → Option (List Call)) (faults : V → ℕ) (G : KeeperGhosts K) (before : IntegrityStore V Cipher) (bytes : List ℕ) (root : Id) (calls : Option (List Call)) (stream left : Stream) (was kept : Option (List ℕ))
    (unused : (id : Id) → has_id ((sealed_holdings trace).used before) id ≡ false) (empty : (sealed_durables trace).list before ≡ []) (reads : ReadsConfigOnce calls (sealed_trace trace before)) where
  abbrev Start : View
  Start = view_made bytes root calls

  abbrev at : FileChanges → Option (List Call) → View
  at list t = record { list = list; calls = t; known = root ∷ [] }

  asked : AreSealed [] Start (at (with_config bytes []) (sealed_trace trace before))
  asked = record { waits = comes_waiting Start; adds = adds_config Start calls (sealed_trace trace before) reads; known = λ id has. has }

  seals_none : (after : IntegrityStore V Cipher) → MakesNone (W trace faults G) before after was kept → SealsRoot bytes root stream left calls (sealed_trace trace after) was kept
  seals_none after m =
      let mid = at (with_config bytes []) (sealed_trace trace before) in
      let read : AreSealed [] mid (at (with_config bytes []) (sealed_trace trace after)) = record {
        waits = comes_waiting mid;
        adds = subst (λ t. AddsSealed [] mid t (sealed_trace trace after)) m.trace
            (adds_reads (sealed_held m.from) mid (λ id has. absurd (true_is_false (sym has ∙ (ap (λ u. has_id u id) m.used ∙ unused id)))) (sealed_trace trace m.from) (sealed_trace trace after) m.loaded.trace);
        known = λ id has. has;
      } in
      record {
        drawn = [];
        draws = tt;
        sealed = closes_sealed [] Start (at (with_config bytes []) (sealed_trace trace after)) (sealed_then [] [] Start mid (at (with_config bytes []) (sealed_trace trace after)) asked read);
        kept = inl m.same;
      }

  module _ (after : IntegrityStore V Cipher) (m : MakesRoot (W trace faults G) (applied trace) taken before after bytes root was kept stream left) where
    abbrev Vectors : List Draw
    Vectors = vectors_for (sealed_held m.filled).list (given_ids m.changes)

    abbrev First : View
    First = at (with_config bytes []) (sealed_trace trace before)

    abbrev Filled : View
    Filled = at (sealed_held m.filled).list (sealed_trace trace m.filled)

    named : (id : Id) → has_id (root ∷ []) id ≡ true → has_id (known_after (root ∷ []) Vectors) id ≡ true
    named id has = subst (λ k. has_id k id ≡ true) (sym (known_vectors (root ∷ []) (sealed_held m.filled).list (given_ids m.changes))) has

    filled : AreSealed Vectors First Filled
    filled = record {
      waits = batch_waits (sealed_held m.waiting) (sealed_held m.filled) (sealed_trace trace m.waiting) (sealed_trace trace m.filled) m.changes m.makes [] First
          (λ name change is. subst (λ list. change_at name list ≡ Some change) (m.list ∙ ap (with_config bytes) empty) is)
          (λ id said. named id (or_left (same_id id root) false (said_one m.changes root m.payload id m.one said)));
      adds = subst (λ t. AddsSealed Vectors First (sealed_trace trace before) t) (sym (m.makes.trace ∙ m.trace)) (adds_nothing Vectors First (sealed_trace trace before));
      known = named;
    }

    up_to : AreSealed Vectors Start Filled
    up_to = sealed_then [] Vectors Start First Filled asked filled

    written : AreSealed (Vectors ++ []) Start (at ((sealed_durables trace).list after) (sealed_trace trace after))
    written =
        let last = at ((sealed_durables trace).list after) (sealed_trace trace after) in
        sealed_then Vectors [] Start Filled last up_to (wrote_sealed (sealed_durables trace) (λ _. root ∷ []) m.filled after (in_order _ _ m.intact.0.has_record) refl m.wrote)

    listed_waits : (with_list : Bool) (name : At) (change : Option (List ℕ)) → change_at name (listed with_list (sealed_held m.filled).list) ≡ Some change → ComesFrom (Vectors ++ []) Start name change
    listed_waits true name change is = comes_first Vectors [] Start name change (up_to.waits name change is)
    listed_waits false name change is = absurd (cc)

    keeps : IsSameOrRecord (sealed_durables trace) m.filled was kept → (kept ≡ was) ⊎ HoldsSealed (Vectors ++ []) Start kept
    keeps (inl same) = inl same
    keeps (inr (own, with_list, is, is_record)) = inr (record {
      state = (sealed_held m.filled).state;
      waiting = listed with_list (sealed_held m.filled).list;
      keeps = record { bytes = own; kept = is; is_record = is_record };
      sealed = listed_waits with_list;
    })

    seals_one : SealsRoot bytes root stream left calls (sealed_trace trace after) was kept
    seals_one = record {
      drawn = Vectors ++ [];
      draws = one_drawn (sealed_held m.filled).list root (given_ids m.changes) stream left (one_entry m.changes root m.payload m.one) m.draws;
      sealed = closes_sealed (Vectors ++ []) Start (at ((sealed_durables trace).list after) (sealed_trace trace after)) written;
      kept = keeps m.keeps;
    }

  pub seals_root : (after : IntegrityStore V Cipher) → MakesNone (W trace faults G) before after was kept ⊎ MakesRoot (W trace faults G) (applied trace) taken before after bytes root was kept stream left → SealsRoot bytes root stream left calls (sealed_trace trace after) was kept
  seals_root after (inl m) = seals_none after m
  seals_root after (inr m) = seals_one after m

-- nothing was made: the configuration was asked for at most
pub seals_unmade : (bytes : List ℕ) (root : Id) (stream left : Stream) (calls new : Option (List Call)) (was kept : Option (List ℕ)) → ReadsConfigOnce calls new → kept ≡ was → SealsRoot bytes root stream left calls new was kept
seals_unmade bytes root stream left calls new was kept reads same = record {
  drawn = [];
  draws = tt;
  sealed = closes_sealed [] (view_made bytes root calls) (record { list = with_config bytes []; calls = new; known = root ∷ [] })
      (record { waits = comes_waiting (view_made bytes root calls); adds = adds_config (view_made bytes root calls) calls new reads; known = λ id has. has });
  kept = inl same;
}

-- it was made, in the words of what came before
pub seals_made : {V : Type 0} {K : Type 0} (trace : V → Option (List Call)) (faults : V → ℕ) (G : KeeperGhosts K) (before after : IntegrityStore V Cipher) (file bytes : List ℕ) (id root : Id) (calls between : Option (List Call)) (now stream left : Stream)
    (mid was kept : Option (List ℕ)) (last : V) → ((id : Id) → has_id ((sealed_holdings trace).used before) id ≡ false) → (sealed_durables trace).list before ≡ [] → ReadsConfigOnce calls between → sealed_trace trace before ≡ between → file ≡ bytes → id ≡ root
    → now ≡ stream → mid ≡ was → last ≡ after.sealed.vault.vault
    → MakesNone (W trace faults G) before after mid kept ⊎ MakesRoot (W trace faults G) (applied trace) taken before after file id mid kept now left
    → SealsRoot bytes root stream left calls (trace last) was kept
seals_made trace faults G before after file bytes id root calls between now stream left mid was kept last unused empty reads same text named drawn stays end made =
    subst (λ v. SealsRoot bytes root stream left calls (trace v) was kept) (sym end)
    (subst (λ k. SealsRoot bytes root stream left calls (sealed_trace trace after) k kept) stays
    (subst (λ s. SealsRoot bytes root s left calls (sealed_trace trace after) mid kept) drawn
    (subst (λ r. SealsRoot bytes r now left calls (sealed_trace trace after) mid kept) named
    (subst (λ b. SealsRoot b id now left calls (sealed_trace trace after) mid kept) text
    (seals_root trace faults G before file id calls now left mid kept unused empty (subst (ReadsConfigOnce calls) (sym same) reads) after made)))))
