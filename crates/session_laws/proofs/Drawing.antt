-- What a session draws for the files that it seals, from its lines.
use Rattle.std.proofs.Common.{◌≡◌, ◌++◌, ℕ, Bool, true, false, List, [], ◌∷◌, refl, sym, ap, subst, ◌∙◌, inl, inr, append_assoc}
use Rattle.std.specs.Prelude.{Result, is_some}
use Rattle.std.specs.FinMap as fin
use Rattle.std.proofs.lemmas.Bool.{or_parts}
use Rattle.std.proofs.lemmas.Option.{same_Some}
use Rattle.std.specs.List.{AllByRecursion}
use Rattle.std.specs.declared.option.Option.{Option}
use Rattle.std.specs.declared.option.Option.TheVariants.{None, Some}
use Rattle.run_frame.specs.answers.declared.answer.Answer.{Answer}
use Rattle.run_frame.specs.answers.Hosts.{Ran}
use Rattle.run_frame.specs.answers.Sessions.{Asked, Exchange, is_violation}
use Rattle.fs_model.specs.Instant.{Instant}
use Rattle.mount.specs.block_versions.Standing.{listed}
use Rattle.mount.specs.block_versions.StoreLaws.{has-keys}
use Rattle.mount.proofs.local_state_lemmas.Records.{one_reading}
use Rattle.mount.specs.local_state.Record.{PlainState, IsRecord}
use Rattle.mount.specs.Mounts.{Unopened}
use Rattle.mount.specs.Sealing.{Draw, known_after, AreVectors, ComesFrom, HoldsSealed, IsNamed as IsNamedFrom, View, view_of, view_closed, PutsSealed, AddsSealed, AreSealed, SealsFresh, IsKeptList, OpensSealed}
use Rattle.mount.specs.SealingLaws.{draws_then, holds_marked, holds_more, sealed_then, seals_then, vectors_then}
use Rattle.mount.specs.declared.mount.Halted.{Halted}
use Rattle.mount.specs.declared.mount.Mount.{Mount}
use Rattle.mount.specs.mount_core.Keeping.{IsSameOrRecord}
use Rattle.run_frame.specs.mount_stores.Identities.{KeepsRecord}
use Rattle.run_frame.specs.mount_stores.Tower.{Cached, held_in, tower_durables}
use Rattle.outside.specs.Changes.{FileChanges, change_at}
use Rattle.outside.specs.Trace.{At, Call, block, config, put, got, removed}
use Rattle.outside.specs.declared.keeper.Keeper.{Ghosts as KeeperGhosts}
use Rattle.rand_core.specs.Stream.{Stream}
use Rattle.mount.specs.record_saver.Saving.{IsRecordOf}
use Rattle.mount.specs.record_saver.declared.saver.SyncError.{SyncError}
use Rattle.mount.proofs.store_api_lemmas.Draws.{later_same}
use Rattle.mount.specs.store_api.Content.{Id}
use Rattle.mount.specs.store_api.Holdings.{has_id}
use Rattle.mount.specs.mount_core.Showing.{Showing}
use Rattle.session_laws.specs.Answering.{store_of, kept_of, MountAnswers, mount_hosting, drawing_hosting}
use Rattle.session_laws.specs.Drawing.{Origin, WaitsAs, KnowsId, IsNamed, ComesSince, CallsSince, AddsSince, AreSince, DrawsVectors, DrawsNoNames}
use Rattle.session_laws.specs.Runs.{Outside, outside_of}
use Rattle.session_laws.specs.Turns.{Begun, Closing}

true_is_false : true ≡ false → ⊥
true_is_false e = cc

-- ---- a run that does nothing

abbrev pub origin : List Id → List Draw → Option (List ℕ) → Option (List ℕ) → Origin
origin known drawn kept file = record { known = known; drawn = drawn; kept = kept; config = file }

pub adds_nothing : (o : Origin) (calls : Option (List Call)) → AddsSince o calls calls
adds_nothing o None = refl
adds_nothing o (Some calls) = ([], refl, tt)

all_append : (P : Call → Type 0) (first later : List Call) → AllByRecursion P first → AllByRecursion P later → AllByRecursion P (first ++ later)
all_append P [] later a b = b
all_append P (call ∷ calls) later a b = (a.0, all_append P calls later a.1 b)

pub since_then : (o : Origin) (a b c : Option (List Call)) → AddsSince o a b → AddsSince o b c → AddsSince o a c
since_then o None b c first then = subst (λ x. AddsSince o x c) first then
since_then o (Some old) b c first then =
    let later : AddsSince o (Some (first.0 ++ old)) c = subst (λ x. AddsSince o x c) first.1 then in
    (later.0 ++ first.0, later.1 ∙ ap Some (sym (append_assoc later.0 first.0 old)), all_append (CallsSince o) later.0 first.0 later.2 first.2)

pub waited : (o : Origin) (name : At) (change : Option (List ℕ)) → WaitsAs o.kept name change → ComesSince o name change
waited o (block id) (Some bytes) w = inr w
waited o (block id) None w = inr w
waited o config change w = inr w

pub draws_nothing : (stream : Stream) (o : Outside) → DrawsVectors stream stream o o
draws_nothing stream o = record {
  known = [];
  knows = λ id has. absurd (cc has);
  drawn = [];
  draws = later_same stream;
  since = record { calls = adds_nothing (origin [] [] o.kept None) o.calls; waits = waited (origin [] [] o.kept None) };
}

pub named_nothing : (stream : Stream) (o : Outside) → DrawsNoNames stream stream o o
unfolding draws_nothing
named_nothing stream o = record { vectors = draws_nothing stream o; unnamed = tt }

-- ---- by the record that was kept in place of what waited

module _ (before : View) (o : Origin) (comes : (name : At) (change : Option (List ℕ)) → ComesFrom o.drawn before name change → ComesSince o name change) (named : (id : Id) → IsNamedFrom o.drawn before id → IsNamed o id) where
  puts_since : (call : Call) → PutsSealed o.drawn before call → CallsSince o call
  puts_since (put name bytes ok) is = comes name (Some bytes) is
  puts_since (removed name ok) is = comes name None is
  puts_since (got (block id) max answer) is = named id is
  puts_since (got config max answer) is = tt

  calls_since : (calls : List Call) → AllByRecursion (PutsSealed o.drawn before) calls → AllByRecursion (CallsSince o) calls
  calls_since [] all = tt
  calls_since (call ∷ calls) all = (puts_since call all.0, calls_since calls all.1)

  pub adds_since : (old new : Option (List Call)) → AddsSealed o.drawn before old new → AddsSince o old new
  adds_since None new adds = adds
  adds_since (Some old) new adds = (adds.0, adds.1, calls_since adds.0 adds.2)

-- what comes of the list of the record that was kept
module _ (known : List Id) (drawn : List Draw) (kept sealed : Option (List ℕ)) (list : FileChanges) (calls : Option (List Call)) (is_kept : IsKeptList kept list) where
  abbrev Was : View
  Was = record { list = list; calls = calls; known = known }

  abbrev Own : Origin
  Own = origin known drawn kept sealed

  was_kept : (name : At) (change : Option (List ℕ)) → change_at name list ≡ Some change → WaitsAs kept name change
  was_kept name change waits = elim is_kept as (λ _. WaitsAs kept name change) [
    | inl none ↦ let no : change_at name [] ≡ Some change = subst (λ (l : FileChanges). change_at name l ≡ Some change) none waits in absurd (cc)
    | inr (state, loaded) ↦ record { state = state; list = list; keeps = loaded.keeps; waits = waits }
  ]

  pub comes_since : (name : At) (change : Option (List ℕ)) → ComesFrom drawn Was name change → ComesSince Own name change
  comes_since (block id) (Some bytes) (inl is) = inl is
  comes_since (block id) (Some bytes) (inr waits) = inr (was_kept (block id) (Some bytes) waits)
  comes_since (block id) None (inl is) = inl is
  comes_since (block id) None (inr waits) = inr (was_kept (block id) None waits)
  comes_since config change waits = inr (was_kept config change waits)

-- ---- what waits in the records of a session

pub nothing_waits : (drawn : List Draw) (before : View) (kept : Option (List ℕ)) (state : PlainState) → KeepsRecord kept state [] → HoldsSealed drawn before kept
nothing_waits drawn before kept state keeps = record { state = state; waiting = []; keeps = keeps; sealed = λ name change is. absurd (cc) }

pub waits_of : (drawn : List Draw) (before : View) (kept : Option (List ℕ)) → HoldsSealed drawn before kept → (name : At) (change : Option (List ℕ)) → WaitsAs kept name change → ComesFrom drawn before name change
waits_of drawn before kept k name change w =
    let same : k.keeps.bytes ≡ w.keeps.bytes = let a = k.keeps.kept in let b = w.keeps.kept in cc in
    let one = one_reading w.state k.state w.list k.waiting w.keeps.bytes w.keeps.is_record (subst (λ x. IsRecord k.state k.waiting x) same k.keeps.is_record) in
    k.sealed name change (subst (λ (l : FileChanges). change_at name l ≡ Some change) one.1 w.waits)

module _ {V : Type 0} (trace : V → Option (List Call)) (drawn : List Draw) (before : View) (store : Cached V)
    (each : (name : At) (change : Option (List ℕ)) → change_at name ((tower_durables trace).list store) ≡ Some change → ComesFrom drawn before name change) where
  listed_sealed : (with_list : Bool) (name : At) (change : Option (List ℕ)) → change_at name (listed with_list (held_in store).list) ≡ Some change → ComesFrom drawn before name change
  listed_sealed true name change is = each name change is
  listed_sealed false name change is = absurd (cc)

  -- a record of the store
  pub holds_record : (kept : Option (List ℕ)) → IsRecordOf (tower_durables trace) store kept → HoldsSealed drawn before kept
  holds_record kept (bytes, with_list, is, is_record) = record {
    state = (held_in store).state;
    waiting = listed with_list (held_in store).list;
    keeps = record { bytes = bytes; kept = is; is_record = is_record };
    sealed = listed_sealed with_list;
  }

  -- or what was kept
  pub keeps_or : (old new : Option (List ℕ)) → HoldsSealed drawn before old → IsSameOrRecord (tower_durables trace) store old new → HoldsSealed drawn before new
  keeps_or old new k (inl same) = subst (λ x. HoldsSealed drawn before x) (sym same) k
  keeps_or old new k (inr is) = holds_record new is

-- ---- lines

-- up to here: what waits, in the mount and in its records, was sealed since, or waited at first
pub record SealedSoFar {V : Type 0} {K : Type 0} (trace : V → Option (List Call)) (G : KeeperGhosts K) (first : Stream) (start : View) (now : Stream) (mount : Mount V K) : Type 0 where
  pub fresh : SealsFresh first now start (view_of trace mount)
  pub kept : HoldsSealed fresh.drawn start (kept_of G mount)
  pub last : mount.core.violated ≡ false → HoldsSealed fresh.drawn start (Some mount.core.saver.last.items)

-- the same, and no seed was drawn
pub record KnownSoFar {V : Type 0} {K : Type 0} (trace : V → Option (List Call)) (G : KeeperGhosts K) (first : Stream) (start : View) (now : Stream) (mount : Mount V K) : Type 0 where
  pub far : SealedSoFar trace G first start now mount
  pub unnamed : AreVectors far.fresh.drawn

module _ {V : Type 0} {K : Type 0} (shows : Showing) (trace : V → Option (List Call)) (faults : V → ℕ) (G : KeeperGhosts K) (first : Stream) (start : View) where
  abbrev SoFar : Stream → Mount V K → Type 0
  SoFar now mount = SealedSoFar trace G first start now mount

  module _ (now after : Stream) (old new : Mount V K) (moment : Instant) (asked : Asked) (answer : Answer) (x : SoFar now old) (line : MountAnswers shows trace faults G moment old asked answer new)
      (fresh : SealsFresh now after (view_of trace old) (view_of trace new)) where
    abbrev Keeps : Option (List ℕ) → Type 0
    Keeps kept = HoldsSealed x.fresh.drawn start kept

    or_record : (a b : Option (List ℕ)) → Keeps a → IsSameOrRecord (tower_durables trace) (store_of old) a b → Keeps b
    or_record a b k is = keeps_or trace x.fresh.drawn start (store_of old) x.fresh.sealed.waits a b k is

    kept_on : (stood bad : Bool) → old.core.violated ≡ stood → is_violation answer ≡ bad → Keeps (kept_of G new)
    kept_on true bad s e = subst Keeps (sym (ap (λ c. G.kept c.saver.keeper) (line.line.form.refused s).1)) x.kept
    kept_on false false s e = or_record (kept_of G old) (kept_of G new) x.kept (line.line.keeps.calm e).kept
    kept_on false true s e =
        let m = line.line.keeps.marks e in
        elim m.2 as (λ _. Keeps (kept_of G new)) [
          | inl marked ↦ subst Keeps (sym marked.0) (holds_marked x.fresh.drawn start m.0 (or_record (Some old.core.saver.last.items) (Some m.0) (x.last s) m.1))
          | inr is ↦ or_record (kept_of G old) (kept_of G new) x.kept is
        ]

    last_on : (stood bad : Bool) → old.core.violated ≡ stood → is_violation answer ≡ bad → new.core.violated ≡ false → Keeps (Some new.core.saver.last.items)
    last_on true bad s e v = absurd (true_is_false (sym s ∙ (or_parts (is_violation answer) old.core.violated (sym line.line.form.violated ∙ v)).1))
    last_on false false s e v = or_record (Some old.core.saver.last.items) (Some new.core.saver.last.items) (x.last s) (line.line.keeps.calm e).last
    last_on false true s e v = absurd (true_is_false (sym e ∙ (or_parts (is_violation answer) old.core.violated (sym line.line.form.violated ∙ v)).0))

    sealed_line : SoFar after new
    sealed_line = record {
      fresh = seals_then first now after start (view_of trace old) (view_of trace new) x.fresh fresh;
      kept = holds_more x.fresh.drawn fresh.drawn start (kept_of G new) (kept_on old.core.violated (is_violation answer) refl refl);
      last = λ v. holds_more x.fresh.drawn fresh.drawn start (Some new.core.saver.last.items) (last_on old.core.violated (is_violation answer) refl refl v);
    }

  module _ {H : Type 0} (mount : H → Mount V K) (stream : H → Stream) (chance : H → ℕ) where
    sealed_lines : (old new : H) (es : List Exchange) → SoFar (stream old) (mount old) → Ran (drawing_hosting mount stream chance shows trace faults G) old es new → SoFar (stream new) (mount new)
    sealed_lines old new [] x r = subst (λ (h : H). SoFar (stream h) (mount h)) (sym r) x
    sealed_lines old new (e ∷ es) x r = sealed_line (stream r.0) (stream new) (mount r.0) (mount new) e.at e.asked e.answer (sealed_lines old r.0 es x r.1) r.2.0 r.2.1

-- what draws answers as a mount
pub undrawing : {H : Type 0} {V : Type 0} {K : Type 0} (mount : H → Mount V K) (stream : H → Stream) (chance : H → ℕ) (shows : Showing) (trace : V → Option (List Call)) (faults : V → ℕ) (G : KeeperGhosts K) (old new : H) (es : List Exchange)
    → Ran (drawing_hosting mount stream chance shows trace faults G) old es new → Ran (mount_hosting mount shows trace faults G) old es new
undrawing mount stream chance shows trace faults G old new [] r = r
undrawing mount stream chance shows trace faults G old new (e ∷ es) r = (r.0, undrawing mount stream chance shows trace faults G old r.0 es r.1, r.2.0)

-- ---- a whole session

module _ {V : Type 0} {K : Type 0} (shows : Showing) (trace : V → Option (List Call)) (faults : V → ℕ) (G : KeeperGhosts K) (password : List ℕ) (vault : V) (keeper : K) (stream : Stream) (old : Mount V K)
    (begun : Begun shows trace faults G password vault keeper old) (opens : OpensSealed (G.kept keeper) (trace vault) (view_of trace old)) where
  abbrev Start : View
  Start = record { list = opens.0; calls = trace vault; known = (view_of trace old).known }

  abbrev Loaded : PlainState
  Loaded = begun.attached.state

  -- the store has the state of the record that was kept
  same_state : (held_in (store_of old)).state ≡ Loaded
  same_state =
      let whole = begun.opened.ready.core.whole in
      let bytes = begun.attached.kept.bytes in
      let same : old.core.saver.last.items ≡ bytes = same_Some _ _ (sym (whole.kept begun.opened.unchanged) ∙ begun.attached.kept.kept) in
      let own : IsRecord (held_in (store_of old)).state [] bytes = subst (IsRecord (held_in (store_of old)).state []) same (whole.last begun.opened.unchanged) in
      (one_reading (held_in (store_of old)).state Loaded [] [] bytes own begun.attached.kept.is_record).0

  -- so each id that it knows that record knew
  pub knows : (id : Id) → has_id Start.known id ≡ true → KnowsId (G.kept keeper) id
  knows id has = record {
    state = Loaded;
    list = begun.attached.list;
    keeps = begun.attached.loaded.keeps;
    knows = subst (λ (s : PlainState). is_some (fin.get s.lives id) ≡ true) same_state (sym (has-keys (held_in (store_of old)) id) ∙ has);
  }

  pub sealed_opened : SealedSoFar trace G stream Start stream old
  sealed_opened =
      let nothing = nothing_waits [] Start (kept_of G old) Loaded begun.attached.kept in
      record {
        fresh = record { drawn = []; draws = later_same stream; sealed = opens.2 };
        kept = nothing;
        last = λ _. subst (λ x. HoldsSealed [] Start x) (begun.opened.ready.core.whole.kept begun.opened.unchanged) nothing;
      }

  pub known_opened : KnownSoFar trace G stream Start stream old
  unfolding sealed_opened
  known_opened = record { far = sealed_opened; unnamed = tt }

  module _ (last_vault : V) (last_keeper : K) (left : Stream) (new : Mount V K) (closing : Result Unit SyncError) (closed : Closing shows trace faults G new closing last_vault last_keeper) (x : SealedSoFar trace G stream Start left new) where
    pub kept_closed : (stood : Bool) → new.core.violated ≡ stood → HoldsSealed x.fresh.drawn Start (G.kept last_keeper)
    kept_closed true v = subst (λ k. HoldsSealed x.fresh.drawn Start (G.kept k)) (sym (closed.closes.left (inl v)).2) x.kept
    kept_closed false v = keeps_or trace x.fresh.drawn Start (store_of new) x.fresh.sealed.waits (kept_of G new) (G.kept last_keeper) x.kept (closed.closes.kept v)

    since_closed : AreSince (origin Start.known (x.fresh.drawn ++ []) (G.kept keeper) None) (outside_of trace faults G vault keeper) (outside_of trace faults G last_vault last_keeper)
    since_closed =
        let drawn = x.fresh.drawn ++ [] in
        let all = sealed_then x.fresh.drawn [] Start (view_of trace new) (view_closed (trace last_vault)) x.fresh.sealed closed.closes.sealed in
        let kept = holds_more x.fresh.drawn [] Start (G.kept last_keeper) (kept_closed new.core.violated refl) in
        let comes = comes_since Start.known drawn (G.kept keeper) None opens.0 (trace vault) opens.1 in
        record {
          calls = adds_since Start (origin Start.known drawn (G.kept keeper) None) comes (λ id is. is) (trace vault) (trace last_vault) all.adds;
          waits = λ name change w. comes name change (waits_of drawn Start (G.kept last_keeper) kept name change w);
        }

    pub draws_closed : DrawsVectors stream left (outside_of trace faults G vault keeper) (outside_of trace faults G last_vault last_keeper)
    draws_closed = record {
      known = Start.known;
      knows = knows;
      drawn = x.fresh.drawn ++ [];
      draws = draws_then Start.known x.fresh.drawn [] stream left left x.fresh.draws (later_same left);
      since = since_closed;
    }

    pub named_closed : AreVectors x.fresh.drawn → DrawsNoNames stream left (outside_of trace faults G vault keeper) (outside_of trace faults G last_vault last_keeper)
    unfolding draws_closed
    named_closed vectors = record { vectors = draws_closed; unnamed = vectors_then x.fresh.drawn [] vectors tt }

pub draws_session : {H : Type 0} {V : Type 0} {K : Type 0} (mount : H → Mount V K) (stream : H → Stream) (chance : H → ℕ) (shows : Showing) (trace : V → Option (List Call)) (faults : V → ℕ) (G : KeeperGhosts K) (password : List ℕ)
    (vault last_vault : V) (keeper last_keeper : K) (old new : H) (es : List Exchange) (closing : Result Unit SyncError) → Begun shows trace faults G password vault keeper (mount old) → OpensSealed (G.kept keeper) (trace vault) (view_of trace (mount old))
    → Ran (drawing_hosting mount stream chance shows trace faults G) old es new → Closing shows trace faults G (mount new) closing last_vault last_keeper
    → DrawsVectors (stream old) (stream new) (outside_of trace faults G vault keeper) (outside_of trace faults G last_vault last_keeper)
draws_session mount stream chance shows trace faults G password vault last_vault keeper last_keeper old new es closing begun opens ran closed =
    draws_closed shows trace faults G password vault keeper (stream old) (mount old) begun opens last_vault last_keeper (stream new) (mount new) closing closed
    (sealed_lines shows trace faults G (stream old) (record { list = opens.0; calls = trace vault; known = (view_of trace (mount old)).known }) mount stream chance old new es
    (sealed_opened shows trace faults G password vault keeper (stream old) (mount old) begun opens) ran)

-- where none was opened
module _ {V : Type 0} {K : Type 0} (shows : Showing) (trace : V → Option (List Call)) (faults : V → ℕ) (G : KeeperGhosts K) (password : List ℕ) (vault : V) (keeper : K) (h : Halted V K) (stream : Stream)
    (u : Unopened shows trace faults G password vault keeper h) where
  since_unopened : AreSince (origin [] [] (G.kept keeper) None) (outside_of trace faults G vault keeper) (outside_of trace faults G h.vault h.keeper)
  since_unopened =
      let was : View = record { list = u.fails.sealed.0; calls = trace vault; known = [] } in
      record {
        calls = adds_since was (origin [] [] (G.kept keeper) None) (comes_since [] [] (G.kept keeper) None u.fails.sealed.0 (trace vault) u.fails.sealed.1) (λ id is. is) (trace vault) (trace h.vault) u.fails.sealed.2.adds;
        waits = λ name change w. elim u.leaves.kept as (λ _. ComesSince (origin [] [] (G.kept keeper) None) name change) [
          | inl same ↦ waited (origin [] [] (G.kept keeper) None) name change (subst (λ x. WaitsAs x name change) same w)
          | inr (state, list, loaded, keeps) ↦
              comes_since [] [] (G.kept keeper) None [] (trace vault) (inl refl) name change (waits_of [] (view_closed (trace vault)) (G.kept h.keeper) (nothing_waits [] (view_closed (trace vault)) (G.kept h.keeper) state keeps) name change w)
        ];
      }

  pub draws_unopened : DrawsVectors stream stream (outside_of trace faults G vault keeper) (outside_of trace faults G h.vault h.keeper)
  draws_unopened = record { known = []; knows = λ id has. absurd (cc has); drawn = []; draws = later_same stream; since = since_unopened }

  pub named_unopened : DrawsNoNames stream stream (outside_of trace faults G vault keeper) (outside_of trace faults G h.vault h.keeper)
  unfolding draws_unopened
  named_unopened = record { vectors = draws_unopened; unnamed = tt }
