-- What a line, a sync and an opening make of the files that wait and of those that are put.
use Rattle.std.proofs.Common.{◌≡◌, ◌⊎◌, ℕ, Bool, true, false, cond, List, [], ◌∷◌, ◌++◌, length, refl, sym, ◌∙◌, ap, subst, inl, inr}
use Rattle.std.specs.Prelude.{T, map, is_some}
use Rattle.std.specs.FinMap as fin
use Rattle.std.specs.FinMap.{get-entries, entries_sorted, slice_cmp-IsAntisymmetric, nat_cmp-IsAntisymmetric}
use Rattle.std.specs.FinMap.Entries.{find}
use Rattle.std.specs.Cmp.{Equal-is}
use Rattle.std.specs.List.{AllByRecursion}
use Rattle.std.specs.Ordering.{eq_by_cmp}
use Rattle.std.specs.declared.option.Option.{Option}
use Rattle.std.specs.declared.option.Option.TheVariants.{None, Some}
use Rattle.outside.specs.Changes.{FileChanges, IsIncreasing, change_at}
use Rattle.outside.specs.NameLaws.{at_total, at_exact}
use Rattle.outside.specs.Trace.{At, Call, config, block, got, adds}
use Rattle.outside.specs.Writes.{after_writes, call_for, StopsAt}
use Rattle.rand_core.specs.Stream.{Stream, fill_bytes}
use Rattle.store_api.specs.Content.{Id, Changes, id_cmp}
use Rattle.store_api.specs.Draws.{IsLater}
use Rattle.store_api.specs.Durables.{Durables, Identity}
use Rattle.store_api.specs.Holdings.{has_id}
use Rattle.store_api.specs.Ids.{ComeOfSeed}
use Rattle.store_api.proofs.Draws.{later_same}
use Rattle.store_api.proofs.Rising.{ids_total}
use Rattle.mount_stores.specs.record_saver.Saving.{Wrote}
use Rattle.local_state.specs.Record.{PlainState}
use Rattle.local_state.specs.Known.{version_if_live}
use Rattle.local_state.specs.declared.life.Life.{Life}
use Rattle.mount_stores.specs.block_versions.Held.{Held, live_version, waiting}
use Rattle.mount_stores.specs.block_versions.Reads.{AllReads, WentOnByReads}
use Rattle.mount_stores.specs.block_versions.Stores.{OnlyRead}
use Rattle.mount_stores.specs.block_versions.StoreLaws.{has-keys}
use Rattle.mount_stores.specs.block_versions.Standing.{identity_of}
use Rattle.mount_stores.specs.block_versions.BlockRecords.{opened}
use Rattle.mount.specs.Owning.{IsOwnFile, OwnWaits, AddsOwn, KeepsOwn}
use Rattle.mount.specs.OwningLaws.{adds_own_nothing, owns_sealed, owns_then}
use Rattle.mount_stores.specs.integrity_store.Applied.{Applied, WaitsAfter, life_after}
use Rattle.mount_stores.specs.integrity_store.Draws.{AreDrawn, draws, given_in, given_ids, iv_in, iv_of}
use Rattle.mount_stores.proofs.integrity_store_lemmas.Sorted.{all_by, each_found, of_found}
use Rattle.mount_core.specs.Drawing.{DrawsOnce, DrawsSeeded, LineDraws, NamesKnown}
use Rattle.mount_stores.specs.Opening.{IsLoaded, ReadsConfigOnce}
use Rattle.mount_stores.specs.declared.opening.TheConstants.{MAX_CONFIG}
use Rattle.mount_stores.specs.Tower.{Cached, held_in, trace_in, tower_meanings, tower_holdings, tower_durables}
use Rattle.mount.specs.Sealing.{Draw, seed, vector, known_after, AreDraws, AreVectors, IsDrawnFor, IsNamed, View, view_closed, ComesFrom, PutsSealed, AddsSealed, AreSealed, SealsFresh, SealsKnown, OpensSealed}
use Rattle.mount.specs.NamingLaws.{among_later, known_or_drawn}
use Rattle.mount.specs.SealingLaws.{adds_nothing, adds_then, comes_waiting, drawn_later, known_none, known_then, sealed_nothing, sealed_then, seals_then}

-- ---- what is written of a list in order

abbrev SaysSo : FileChanges → At × Option (List ℕ) → Type 0
SaysSo list e = change_at e.0 list ≡ Some e.1

all_front : (P : At × Option (List ℕ) → Type 0) (done left : FileChanges) → AllByRecursion P (done ++ left) → AllByRecursion P done
all_front P [] left all = tt
all_front P (e ∷ done) left all = (all.0, all_front P done left all.1)

all_rest : (P : At × Option (List ℕ) → Type 0) (done left : FileChanges) → AllByRecursion P (done ++ left) → AllByRecursion P left
all_rest P [] left all = all
all_rest P (e ∷ done) left all = all_rest P done left all.1

each : (list : FileChanges) → IsIncreasing list → AllByRecursion (SaysSo list) list
each list rises = each_found at_total list (subst T (sym rises) tt)

call_sealed : (view : View) (e : At × Option (List ℕ)) (ok : Bool) → SaysSo view.list e → PutsSealed [] view (call_for e ok)
call_sealed view (name, Some bytes) ok is = comes_waiting view name (Some bytes) is
call_sealed view (name, None) ok is = comes_waiting view name None is

adds_call : (view : View) (calls : Option (List Call)) (call : Call) → PutsSealed [] view call → AddsSealed [] view calls (adds calls call)
adds_call view None call is = refl
adds_call view (Some calls) call is = (call ∷ [], refl, (is, tt))

adds_writes : (view : View) (changes : FileChanges) (calls : Option (List Call)) → AllByRecursion (SaysSo view.list) changes → AddsSealed [] view calls (after_writes changes calls)
adds_writes view [] calls all = adds_nothing [] view calls
adds_writes view (e ∷ changes) calls all =
    adds_then [] view calls (adds calls (call_for e true)) (after_writes changes (adds calls (call_for e true)))
    (adds_call view calls (call_for e true) (call_sealed view e true all.0)) (adds_writes view changes (adds calls (call_for e true)) all.1)

adds_stops : (view : View) (left : FileChanges) (old new : Option (List Call)) → IsIncreasing view.list → StopsAt view.list old new left → AddsSealed [] view old new
adds_stops view left old new rises s =
    let all = subst (AllByRecursion (SaysSo view.list)) s.parts (each view.list rises) in
    let done = adds_writes view s.done old (all_front (SaysSo view.list) s.done left all) in
    let next = subst (AllByRecursion (SaysSo view.list)) s.stays (all_rest (SaysSo view.list) s.done left all) in
    elim s.trace [
      | inl e ↦ subst (AddsSealed [] view old) (sym e) done
      | inr e ↦ subst (AddsSealed [] view old) (sym e)
          (adds_then [] view old (after_writes s.done old) (adds (after_writes s.done old) (call_for s.next false)) done
          (adds_call view (after_writes s.done old) (call_for s.next false) (call_sealed view s.next false next.0)))
    ]

-- what stays of the list waited before
stays_said : (list left done : FileChanges) (name : At) (change : Option (List ℕ)) → IsIncreasing list → list ≡ done ++ left → change_at name left ≡ Some change → change_at name list ≡ Some change
stays_said list left done name change rises parts found =
    of_found at_total (SaysSo list) at_exact left name change (all_rest (SaysSo list) done left (subst (AllByRecursion (SaysSo list)) parts (each list rises))) found

-- ---- a sync

module _ {S : Type 0} (D : Durables S) (used : S → List Id) where
  abbrev view_in : S → View
  view_in s = record { list = D.list s; calls = D.trace s; known = used s }

  -- what waits afterwards waited, and what was called so did
  module _ (a b : S) (rises : IsIncreasing (D.list a)) where
    wrote_waits : (b ≡ a) ⊎ Wrote D a b → (name : At) (change : Option (List ℕ)) → change_at name (D.list b) ≡ Some change → change_at name (D.list a) ≡ Some change
    wrote_waits (inl same) name change is = subst (λ s. change_at name (D.list s) ≡ Some change) same is
    wrote_waits (inr (inl stops)) name change is = stays_said (D.list a) (D.list b) stops.done name change rises stops.parts is
    wrote_waits (inr (inr all)) name change is = let none : change_at name [] ≡ Some change = subst (λ list. change_at name list ≡ Some change) all.1 is in absurd (cc)

    wrote_adds : (b ≡ a) ⊎ Wrote D a b → AddsSealed [] (view_in a) (D.trace a) (D.trace b)
    wrote_adds (inl same) = subst (λ s. AddsSealed [] (view_in a) (D.trace a) (D.trace s)) (sym same) (adds_nothing [] (view_in a) (D.trace a))
    wrote_adds (inr (inl stops)) = adds_stops (view_in a) (D.list b) (D.trace a) (D.trace b) rises stops
    wrote_adds (inr (inr all)) = subst (AddsSealed [] (view_in a) (D.trace a)) (sym all.0) (adds_writes (view_in a) (D.list a) (D.trace a) (each (D.list a) rises))

  -- it seals nothing
  pub wrote_sealed : (a b : S) → IsIncreasing (D.list a) → used b ≡ used a → (b ≡ a) ⊎ Wrote D a b → AreSealed [] (view_in a) (view_in b)
  wrote_sealed a b rises same wrote = record {
    waits = λ name change is. comes_waiting (view_in a) name change (wrote_waits a b rises wrote name change is);
    adds = wrote_adds a b rises wrote;
    known = λ id has. subst (λ k. has_id k id ≡ true) same has;
  }

-- ---- an opening, and a closing

-- where the session ends, nothing waits
pub closes_sealed : (drawn : List Draw) (a b : View) → AreSealed drawn a b → AreSealed drawn a (view_closed b.calls)
closes_sealed drawn a b sealed = record { waits = λ name change is. absurd (cc); adds = sealed.adds; known = λ id has. absurd (cc has) }

-- what was there before an opening
abbrev view_before : FileChanges → Option (List Call) → List Id → View
view_before list calls known = record { list = list; calls = calls; known = known }

-- the record wasn't taken
pub opens_none : (kept : Option (List ℕ)) (calls : Option (List Call)) → OpensSealed kept calls (view_closed calls)
opens_none kept calls = ([], inl refl, sealed_nothing (view_closed calls))

-- the configuration was asked for at most
pub adds_config : (view : View) (old new : Option (List Call)) → ReadsConfigOnce old new → AddsSealed [] view old new
adds_config view old new (inl same) = subst (AddsSealed [] view old) (sym same) (adds_nothing [] view old)
adds_config view old new (inr (answer, is)) = subst (AddsSealed [] view old) (sym is) (adds_call view old (got config MAX_CONFIG answer) tt)

module _ (kept : Option (List ℕ)) (state : PlainState) (list : FileChanges) (loaded : IsLoaded kept state list) where
  config_sealed : (old new : Option (List Call)) (known : List Id) → ReadsConfigOnce old new → AreSealed [] (view_before list old known) (view_before list new known)
  config_sealed old new known reads = record {
    waits = comes_waiting (view_before list old known);
    adds = adds_config (view_before list old known) old new reads;
    known = λ id has. has;
  }

  -- the configuration wasn't taken
  pub opens_read : (old new : Option (List Call)) → ReadsConfigOnce old new → OpensSealed kept old (view_closed new)
  opens_read old new reads = (list, inr (state, loaded), closes_sealed [] (view_before list old []) (view_before list new []) (config_sealed old new [] reads))

  module _ {S : Type 0} (D : Durables S) (known : List Id) (old : Option (List Call)) (a b : S) (same : D.list a ≡ list) (rises : IsIncreasing (D.list a)) (reads : ReadsConfigOnce old (D.trace a)) (wrote : (b ≡ a) ⊎ Wrote D a b) where
    wrote_opening : AreSealed [] (view_before list old known) (view_before (D.list b) (D.trace b) known)
    wrote_opening =
        sealed_then [] [] (view_before list old known) (view_before list (D.trace a) known) (view_before (D.list b) (D.trace b) known) (config_sealed old (D.trace a) known reads)
        (subst (λ x. AreSealed [] (view_before x (D.trace a) known) (view_before (D.list b) (D.trace b) known)) same (wrote_sealed D (λ _. known) a b rises refl wrote))

    -- what waited was to be written
    pub opens_wrote : OpensSealed kept old (record { list = D.list b; calls = D.trace b; known = known })
    opens_wrote = (list, inr (state, loaded), wrote_opening)

  -- and it wasn't, or the session didn't begin
  pub opens_stopped : {S : Type 0} (D : Durables S) (old : Option (List Call)) (a b : S) → D.list a ≡ list → IsIncreasing (D.list a) → ReadsConfigOnce old (D.trace a) → (b ≡ a) ⊎ Wrote D a b
      → OpensSealed kept old (view_closed (D.trace b))
  opens_stopped D old a b same rises reads wrote =
      (list, inr (state, loaded), closes_sealed [] (view_before list old []) (view_before (D.list b) (D.trace b) []) (wrote_opening D [] old a b same rises reads wrote))

-- ---- loads

-- a block that lives is known
live_known : (life : Option Life) (version : ℕ) → version_if_live life ≡ Some version → is_some life ≡ true
live_known None version live = absurd (cc)
live_known (Some life) version live = refl

read_named : (h : Held) (id : Id) (version : ℕ) → live_version h id ≡ Some version → has_id (fin.keys h.state.lives) id ≡ true
read_named h id version live = has-keys h id ∙ live_known (fin.get h.state.lives id) version live

module _ (h : Held) (view : View) (known : (id : Id) → has_id (fin.keys h.state.lives) id ≡ true → has_id view.known id ≡ true) where
  reads_put_nothing : (reads : List Call) → AllReads h reads → AllByRecursion (PutsSealed [] view) reads
  reads_put_nothing [] all = tt
  reads_put_nothing (call ∷ reads) all =
      (subst (PutsSealed [] view) (sym all.0.is) (known all.0.id (read_named h all.0.id all.0.version all.0.live)), reads_put_nothing reads all.1)

  pub adds_reads : (old new : Option (List Call)) → WentOnByReads h old new → AddsSealed [] view old new
  adds_reads None new reads = reads
  adds_reads (Some old) new reads = (reads.0, reads.1, reads_put_nothing reads.0 reads.2)

-- of a store of blocks
abbrev view_by : Held → Option (List Call) → View
view_by h calls = record { list = h.list; calls = calls; known = fin.keys h.state.lives }

pub read_sealed : (a b : Held) (old new : Option (List Call)) (was now : ℕ) → OnlyRead a b old new was now → AreSealed [] (view_by a old) (view_by b new)
read_sealed a b old new was now read = record {
  waits = λ name change is. comes_waiting (view_by a old) name change (subst (λ (h : Held). change_at name h.list ≡ Some change) read.held is);
  adds = adds_reads a (view_by a old) (λ id has. has) old new read.trace;
  known = λ id has. subst (λ (h : Held). has_id (fin.keys h.state.lives) id ≡ true) read.held has;
}

read_seals : (a b : Held) (old new : Option (List Call)) (was now : ℕ) (stream left : Stream) → OnlyRead a b old new was now → IsLater stream left → SealsKnown stream left (view_by a old) (view_by b new)
read_seals a b old new was now stream left read later = known_none stream left (view_by a old) (view_by b new) later (read_sealed a b old new was now read)

-- ---- a batch

abbrev pub file_at : Option (Option (List ℕ)) → List ℕ
file_at None = []
file_at (Some None) = []
file_at (Some (Some file)) = file

pub iv_at : (change : Option (Option (List ℕ))) → iv_in (file_at change) ≡ iv_of change
iv_at None = refl
iv_at (Some None) = refl
iv_at (Some (Some file)) = refl

-- the IVs of the files that wait for these ids
abbrev pub vectors_for : FileChanges → List Id → List Draw
vectors_for list [] = []
vectors_for list (id ∷ ids) = vector id (file_at (change_at (block id) list)) ∷ vectors_for list ids

pub vectors_drawn : (known : List Id) (list : FileChanges) (ids : List Id) (stream left : Stream) → AllByRecursion (λ id. has_id known id ≡ true) ids
    → (map (λ id. iv_of (change_at (block id) list)) ids, left) ≡ draws (length ids) stream → AreDraws known (vectors_for list ids) stream left
vectors_drawn known list [] stream left all is = ([], ap (λ (p : List (List ℕ) × Stream). p.1) is)
vectors_drawn known list (id ∷ ids) stream left all is =
    let ivs = ap (λ (p : List (List ℕ) × Stream). p.0) is in
    let later = ap (λ (p : List (List ℕ) × Stream). p.1) is in
    let first : iv_of (change_at (block id) list) ≡ (fill_bytes 16 stream).0 = cc in
    let others : map (λ id. iv_of (change_at (block id) list)) ids ≡ (draws (length ids) (fill_bytes 16 stream).1).0 = cc in
    (stream, later_same stream, all.0, iv_at (change_at (block id) list) ∙ first, vectors_drawn known list ids (fill_bytes 16 stream).1 left all.1 (λ i. (others i, later i)))

pub known_vectors : (known : List Id) (list : FileChanges) (ids : List Id) → known_after known (vectors_for list ids) ≡ known
known_vectors known list [] = refl
known_vectors known list (id ∷ ids) = known_vectors known list ids

only_vectors : (list : FileChanges) (ids : List Id) → AreVectors (vectors_for list ids)
only_vectors list [] = tt
only_vectors list (id ∷ ids) = only_vectors list ids

one_more : (list : FileChanges) (e : Id × Option (List ℕ)) (es : List (Id × Option (List ℕ))) (id : Id) (bytes : List ℕ) → IsDrawnFor (vectors_for list (given_in es)) id bytes
    → IsDrawnFor (vectors_for list (given_in (e ∷ es))) id bytes
one_more list (other, Some payload) es id bytes is = inr is
one_more list (other, None) es id bytes is = is

one_here : (list : FileChanges) (e : Id × Option (List ℕ)) (es : List (Id × Option (List ℕ))) (payload : List ℕ) → e.1 ≡ Some payload
    → IsDrawnFor (vectors_for list (given_in (e ∷ es))) e.0 (file_at (change_at (block e.0) list))
one_here list (id, Some other) es payload is = inl (refl, refl)
one_here list (id, None) es payload is = absurd (cc)

-- the file that waits for an id with a payload is one of them
one_given : (list : FileChanges) (es : List (Id × Option (List ℕ))) (id payload : List ℕ) → find id_cmp id es ≡ Some (Some payload)
    → IsDrawnFor (vectors_for list (given_in es)) id (file_at (change_at (block id) list))
one_given list [] id payload found = absurd (cc)
one_given list (e ∷ es) id payload found =
    elim (eq_by_cmp id_cmp id e.0) as (λ b. eq_by_cmp id_cmp id e.0 ≡ b → cond b (Some e.1) (find id_cmp id es) ≡ Some (Some payload)
    → IsDrawnFor (vectors_for list (given_in (e ∷ es))) id (file_at (change_at (block id) list))) [
      | true ↦ λ s here.
          let key : id ≡ e.0 = slice_cmp-IsAntisymmetric nat_cmp-IsAntisymmetric id e.0 ((Equal-is (id_cmp id e.0)).0 s) in
          let value : e.1 ≡ Some payload = cc in
          subst (λ x. IsDrawnFor (vectors_for list (given_in (e ∷ es))) x (file_at (change_at (block x) list))) (sym key) (one_here list e es payload value)
      | false ↦ λ s there. one_more list e es id _ (one_given list es id payload there)
    ] refl found

-- each id that gets a payload is in the changes
given_found : (whole es : List (Id × Option (List ℕ))) → AllByRecursion (λ e. find id_cmp e.0 whole ≡ Some e.1) es → AllByRecursion (λ id. is_some (find id_cmp id whole) ≡ true) (given_in es)
given_found whole [] all = tt
given_found whole ((id, Some payload) ∷ es) all = (ap is_some all.0, given_found whole es all.1)
given_found whole ((id, None) ∷ es) all = given_found whole es all.1

given_known : (changes : Changes) (known : List Id) → ((id : Id) → is_some (fin.get changes id) ≡ true → has_id known id ≡ true) → AllByRecursion (λ id. has_id known id ≡ true) (given_ids changes)
given_known changes known all =
    all_by (λ id. is_some (find id_cmp id (fin.entries changes)) ≡ true) (λ id. has_id known id ≡ true) (given_ids changes) (λ id said. all id (ap is_some (get-entries changes id) ∙ said))
    (given_found (fin.entries changes) (fin.entries changes) (each_found ids_total (fin.entries changes) (entries_sorted changes)))

-- what waits of a batch whose ids are known
module _ (a b : Held) (old new : Option (List Call)) (changes : Changes) (made : Applied a b old new changes) (first : List Draw) (before : View) (waits : (name : At) (change : Option (List ℕ)) → change_at name a.list ≡ Some change → change_at name before.list ≡ Some change)
    (said : (id : Id) → is_some (fin.get changes id) ≡ true → IsNamed (first ++ vectors_for b.list (given_ids changes)) before id) where
  abbrev pub Drawn : List Draw
  Drawn = first ++ vectors_for b.list (given_ids changes)

  batch_block : (id : Id) (change : Option (List ℕ)) (says : Option (Option (List ℕ))) → fin.get changes id ≡ says → WaitsAfter a b id says → waiting b id ≡ Some change → ComesFrom Drawn before (block id) change
  batch_block id (Some bytes) None is after now = inr (waits (block id) (Some bytes) (sym after ∙ now))
  batch_block id None None is after now = inr (waits (block id) None (sym after ∙ now))
  batch_block id (Some bytes) (Some None) is after now = absurd (cc)
  batch_block id None (Some None) is after now = inl (said id (ap is_some is))
  batch_block id (Some bytes) (Some (Some payload)) is after now =
      inl (drawn_later first (vectors_for b.list (given_ids changes)) id bytes
      (subst (IsDrawnFor (vectors_for b.list (given_ids changes)) id) (ap file_at now) (one_given b.list (fin.entries changes) id payload (sym (get-entries changes id) ∙ is))))
  batch_block id None (Some (Some payload)) is after now = absurd (cc)

  pub batch_waits : (name : At) (change : Option (List ℕ)) → change_at name b.list ≡ Some change → ComesFrom Drawn before name change
  batch_waits (block id) change now = batch_block id change (fin.get changes id) refl (made.waits id) now
  batch_waits config change now = waits config change (sym made.config ∙ now)

-- what a batch says nothing of has a life afterwards where it had one
life_or_said : (known : Bool) (said : Option (Option (List ℕ))) (life : Option Life) → (is_some life ≡ true → known ≡ true) → (is_some said ≡ true → known ≡ true) → is_some (life_after said life) ≡ true → known ≡ true
life_or_said known None life lived says some = lived some
life_or_said known (Some change) life lived says some = says refl

module _ (a b : Held) (old new : Option (List Call)) (changes : Changes) (stream left : Stream) (made : Applied a b old new changes) where
  abbrev Vectors : List Draw
  Vectors = vectors_for b.list (given_ids changes)

  abbrev Used : List Id
  Used = fin.keys a.state.lives

  abbrev IsSaid : Id → Type 0
  IsSaid id = is_some (fin.get changes id) ≡ true

  -- an id that is used afterwards was used before, or the batch says something of it
  used_among : (known : List Id) → ((id : Id) → has_id Used id ≡ true → has_id known id ≡ true) → ((id : Id) → IsSaid id → has_id known id ≡ true) → (id : Id) → has_id (fin.keys b.state.lives) id ≡ true → has_id known id ≡ true
  used_among known was says id used =
      life_or_said (has_id known id) (fin.get changes id) (fin.get a.state.lives id) (λ lived. was id (has-keys a id ∙ lived)) (says id) (ap is_some (sym (made.lives id)) ∙ (sym (has-keys b id) ∙ used))

  -- a batch without new ids
  known_batch : ((id : Id) → IsSaid id → has_id Used id ≡ true) → AreDrawn changes b.list stream left → SealsKnown stream left (view_by a old) (view_by b new)
  known_batch known drawn =
      let named : (id : Id) → has_id Used id ≡ true → IsNamed Vectors (view_by a old) id = λ id has. subst (λ k. has_id k id ≡ true) (sym (known_vectors Used b.list (given_ids changes))) has in
      record {
        fresh = record {
          drawn = Vectors;
          draws = vectors_drawn Used b.list (given_ids changes) stream left (given_known changes Used known) drawn;
          sealed = record {
            waits = batch_waits a b old new changes made [] (view_by a old) (λ name change is. is) (λ id said. named id (known id said));
            adds = subst (AddsSealed Vectors (view_by a old) old) (sym made.trace) (adds_nothing Vectors (view_by a old) old);
            known = λ id has. named id (used_among Used (λ q was. was) known id has);
          };
        };
        unnamed = only_vectors b.list (given_ids changes);
      }

  -- one whose new ids come of the seed that was drawn for them
  seeded_batch : (after : Stream) → ComeOfSeed (fill_bytes 32 stream).0 after Used changes → AreDrawn changes b.list (fill_bytes 32 stream).1 left → SealsFresh stream left (view_by a old) (view_by b new)
  seeded_batch after come drawn =
      let known : (id : Id) → IsSaid id → has_id (come.drawn ++ Used) id ≡ true = λ id said. known_or_drawn come.drawn Used id (come.all id said) in
      let draws : List Draw = seed come.drawn ∷ Vectors in
      let named : (id : Id) → has_id (come.drawn ++ Used) id ≡ true → IsNamed draws (view_by a old) id = λ id has. subst (λ k. has_id k id ≡ true) (sym (known_vectors (come.drawn ++ Used) b.list (given_ids changes))) has in
      record {
        drawn = draws;
        draws = (
          stream,
          later_same stream,
          (after, come.come),
          vectors_drawn (come.drawn ++ Used) b.list (given_ids changes) (fill_bytes 32 stream).1 left (given_known changes (come.drawn ++ Used) known) drawn,
        );
        sealed = record {
          waits = batch_waits a b old new changes made (seed come.drawn ∷ []) (view_by a old) (λ name change is. is) (λ id said. named id (known id said));
          adds = subst (AddsSealed draws (view_by a old) old) (sym made.trace) (adds_nothing draws (view_by a old) old);
          known = λ id has. named id (used_among (come.drawn ++ Used) (among_later come.drawn Used) known id has);
        };
      }

-- ---- whose files they are

same_file : {a b : List ℕ} {waits : Option (Option (List ℕ))} → waits ≡ Some (Some a) → waits ≡ Some (Some b) → a ≡ b
same_file x y = cc

-- what a batch seals is the client's of its store
module _ (I : Identity) (a b : Held) (old new : Option (List Call)) (changes : Changes) (same : identity_of b ≡ I) (made : Applied a b old new changes) where
  batch_own : OwnWaits I a.list → (id bytes : List ℕ) (said : Option (Option (List ℕ))) → WaitsAfter a b id said → waiting b id ≡ Some (Some bytes) → IsOwnFile I id bytes
  batch_own own id bytes None waits now = own id bytes (sym waits ∙ now)
  batch_own own id bytes (Some (Some payload)) waits now =
      let mine : IsOwnFile (identity_of b) id bytes = record {
        version = _;
        payload = payload;
        opens = ap (opened b.opens b.size id) (same_file now waits.1) ∙ waits.2.opens;
      } in
      subst (λ (i : Identity). IsOwnFile i id bytes) same mine
  batch_own own id bytes (Some None) waits now = absurd (cc)

  batch_owns : KeepsOwn I (view_by a old) (view_by b new)
  batch_owns = record {
    waits = λ own id bytes now. batch_own own id bytes (fin.get changes id) (made.waits id) now;
    adds = λ own. subst (AddsOwn I old) (sym made.trace) (adds_own_nothing I old);
  }

-- ---- steps over the tower

module _ {V : Type 0} (trace : V → Option (List Call)) (faults : V → ℕ) where
  abbrev pub tower_applied : Cached V → Cached V → Changes → Type 0
  tower_applied a b changes = Applied (held_in a) (held_in b) (trace_in trace a) (trace_in trace b) changes

  abbrev pub tower_drawn : Cached V → Cached V → Changes → Stream → Stream → Type 0
  tower_drawn a b changes stream left = AreDrawn changes (held_in b).list stream left

  abbrev view_at : Cached V → View
  view_at c = view_by (held_in c) (trace_in trace c)

  loads_seal : (a b : Cached V) (stream left : Stream) → (tower_meanings trace faults).loaded a b → IsLater stream left → SealsKnown stream left (view_at a) (view_at b)
  loads_seal a b stream left loaded later = read_seals (held_in a) (held_in b) (trace_in trace a) (trace_in trace b) _ _ stream left loaded later

  -- a sync came first, or nothing
  module _ (a synced b : Cached V) (stream left : Stream) (rises : IsIncreasing (held_in a).list) (wrote : (synced ≡ a) ⊎ Wrote (tower_durables trace) a synced)
      (used : (tower_holdings trace).used synced ≡ (tower_holdings trace).used a) where
    sync_seals : SealsKnown stream stream (view_at a) (view_at synced)
    sync_seals =
        known_none stream stream (view_at a) (view_at synced) (later_same stream) (wrote_sealed (tower_durables trace) (tower_holdings trace).used a synced rises used wrote)

    -- a step without new ids
    known_once : DrawsOnce (tower_meanings trace faults) (NamesKnown (tower_holdings trace)) tower_applied tower_drawn synced b stream left → SealsKnown stream left (view_at synced) (view_at b)
    known_once (inl none) = loads_seal synced b stream left none.0 none.1
    known_once (inr batch) =
        known_then stream stream left (view_at synced) (view_at batch.last) (view_at b) (loads_seal synced batch.last stream stream batch.loaded (later_same stream))
        (known_batch (held_in batch.last) (held_in b) (trace_in trace batch.last) (trace_in trace b) batch.changes stream left batch.makes batch.names batch.draws)

    pub step_seals : DrawsOnce (tower_meanings trace faults) (NamesKnown (tower_holdings trace)) tower_applied tower_drawn synced b stream left → SealsKnown stream left (view_at a) (view_at b)
    step_seals once = known_then stream stream left (view_at a) (view_at synced) (view_at b) sync_seals (known_once once)

    -- one with them
    seeded_once : DrawsSeeded (tower_meanings trace faults) (tower_holdings trace) tower_applied tower_drawn synced b stream left → SealsFresh stream left (view_at synced) (view_at b)
    seeded_once (inl none) = (loads_seal synced b stream left none.0 none.1).fresh
    seeded_once (inr batch) =
        seals_then stream stream left (view_at synced) (view_at batch.last) (view_at b) (loads_seal synced batch.last stream stream batch.loaded (later_same stream)).fresh
        (seeded_batch (held_in batch.last) (held_in b) (trace_in trace batch.last) (trace_in trace b) batch.changes stream left batch.makes batch.names.0 batch.names.1 batch.draws)

    seeded_seals : DrawsSeeded (tower_meanings trace faults) (tower_holdings trace) tower_applied tower_drawn synced b stream left → SealsFresh stream left (view_at a) (view_at b)
    seeded_seals once = seals_then stream stream left (view_at a) (view_at synced) (view_at b) sync_seals.fresh (seeded_once once)

  pub line_seals : (a b : Cached V) (stream left : Stream) → IsIncreasing (held_in a).list
      → LineDraws (tower_meanings trace faults) (tower_holdings trace) (tower_durables trace) tower_applied tower_drawn a b stream left → SealsFresh stream left (view_at a) (view_at b)
  line_seals a b stream left rises line = seeded_seals a line.synced b stream left rises line.wrote line.used line.once

  -- what a line seals is its client's
  pub line_owns : (I : Identity) (a b : Cached V) (stream left : Stream) → (tower_durables trace).identity b ≡ I → IsIncreasing (held_in a).list
      → LineDraws (tower_meanings trace faults) (tower_holdings trace) (tower_durables trace) tower_applied tower_drawn a b stream left → KeepsOwn I (view_at a) (view_at b)
  line_owns I a b stream left same rises line =
      owns_then I (view_at a) (view_at line.synced) (view_at b)
      (owns_sealed I (view_at a) (view_at line.synced) (wrote_sealed (tower_durables trace) (tower_holdings trace).used a line.synced rises line.used line.wrote))
      (elim line.once as (λ _. KeepsOwn I (view_at line.synced) (view_at b)) [
        | inl none ↦ owns_sealed I (view_at line.synced) (view_at b) (read_sealed (held_in line.synced) (held_in b) (trace_in trace line.synced) (trace_in trace b) _ _ none.0)
        | inr batch ↦ owns_then I (view_at line.synced) (view_at batch.last) (view_at b)
            (owns_sealed I (view_at line.synced) (view_at batch.last) (read_sealed (held_in line.synced) (held_in batch.last) (trace_in trace line.synced) (trace_in trace batch.last) _ _ batch.loaded))
            (batch_owns I (held_in batch.last) (held_in b) (trace_in trace batch.last) (trace_in trace b) batch.changes same batch.makes)
      ])
