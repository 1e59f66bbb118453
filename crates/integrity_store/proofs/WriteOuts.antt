-- What writing out a list leaves: the calls for its first entries, which leave it, and perhaps one that failed.
use Rattle.std.proofs.Common.{◌≡◌, ◌⊎◌, inl, inr, ℕ, Bool, true, false, List, [], ◌∷◌, ◌++◌, refl, sym, ◌∙◌, ap, subst, arith}
use Rattle.std.specs.Prelude.{T, is_some, cond, Result, OnOk, OnErr}
use Rattle.std.specs.Cmp.{tied_itself}
use Rattle.std.specs.FinMap.{is_sorted}
use Rattle.std.specs.List.{AllByRecursion}
use Rattle.std.specs.Ordering.{eq_by_cmp}
use Rattle.std.proofs.lemmas.List.{append-nil}
use Rattle.std.specs.declared.result.Result.TheVariants.{Ok, Err}
use Rattle.std.specs.declared.option.Option.{Option}
use Rattle.std.specs.declared.option.Option.TheVariants.{None, Some}
use Rattle.outside.specs.declared.vault.GetFail.{GetFail}
use Rattle.outside.specs.Trace.{At, config, Call, adds}
use Rattle.outside.specs.Names.{same_at, at_cmp}
use Rattle.outside.specs.NameLaws.{same_ties, at_total}
use Rattle.outside.specs.Changes.{FileChanges, change_at}
use Rattle.outside.specs.Honest.{is_lie, count_told}
use Rattle.local_state.specs.Record.{ListEntry, Rise, record_bytes, HasRecord, IsRecord}
use Rattle.local_state.proofs.Records.{written_record}
use Rattle.outside.specs.Writes.{call_for, after_writes, StopsAt}
use Rattle.store_api.specs.Content.{SameContent}
use Rattle.store_api.specs.Durables.{IsConfigured}
use Rattle.store_api.proofs.Rising.{not_below}
use Rattle.integrity_store.specs.EnduringLaws.{configures_of, configured_of}
use Rattle.block_versions.specs.Held.{Held, wanted}
use Rattle.block_versions.specs.Forgeries.{forged}
use Rattle.block_versions.specs.Soundness.{SoundBy}
use Rattle.block_versions.specs.Standing.{identity_of, Stands, Configures}
use Rattle.block_versions.specs.Stores.{IsWhole, IsNoBlock}
use Rattle.block_versions.proofs.Untouched.{same_self}
use Rattle.block_versions.specs.StoreLaws.{sound_is_told}
use Rattle.integrity_store.specs.WaitingLaws.{in_order}
use Rattle.integrity_store.proofs.Sorted.{found_first, first_below, found_later, each_found}
use Rattle.integrity_store.proofs.Waiting.{test_of}
use Rattle.integrity_store.proofs.OneWrite.{same_is, with_list, Leaves, sound_call, wanted_call, configured_call, sound_left, wanted_left, configured_left}

true_is_false : true ≡ false → ⊥
true_is_false e = cc

-- ---- the first entry of a list

tied_back : (name : At) (e : ListEntry) → same_at e.0 name ≡ false → eq_by_cmp at_cmp name e.0 ≡ false
tied_back name e other =
    sym (same_ties name e.0) ∙ elim (same_at name e.0) as (λ b. same_at name e.0 ≡ b → b ≡ false) [
      | true ↦ λ is. sym (same_self e.0) ∙ ap (same_at e.0) (sym (same_is name e.0 is)) ∙ other
      | false ↦ λ is. refl
    ] refl

-- the first entry of a list in order stands in it alone
first_leaves : (e : ListEntry) (rest : FileChanges) → T (is_sorted at_cmp (e ∷ rest)) → Leaves e (e ∷ rest) rest
first_leaves e rest rises = record {
  was = found_first at_total e rest;
  gone = not_below at_total e.0 e.0 rest (tied_itself at_total e.0) (first_below at_total e rest rises);
  others = λ name other. sym (ap (λ b. cond b (Some e.1) (change_at name rest)) (tied_back name e other));
}

-- ---- a list whose first entry is gone

rises_none : (previous : Option At) (list : FileChanges) → Rise previous list → Rise None list
rises_none previous [] rises = tt
rises_none previous (e ∷ list) rises = (refl, rises.1)

rest_has : (h : Held) (e : ListEntry) (rest : FileChanges) → IsWhole (with_list h (e ∷ rest)) → HasRecord h.state rest
rest_has h e rest whole =
    let entries = whole.has_record.entries in
    record { state = whole.has_record.state; entries = record { each = entries.each.1; order = rises_none (Some e.0) rest entries.order.1; count = omega (arith, entries.count) } }

no_block : (e : ListEntry) (rest : FileChanges) → Leaves e (e ∷ rest) rest → IsNoBlock (change_at config (e ∷ rest)) → IsNoBlock (change_at config rest)
no_block e rest leaves fits =
    elim (same_at e.0 config) as (λ b. same_at e.0 config ≡ b → IsNoBlock (change_at config rest)) [
      | true ↦ λ is. subst IsNoBlock (sym (subst (λ name. change_at name rest ≡ None) (same_is e.0 config is) leaves.gone)) tt
      | false ↦ λ is. subst IsNoBlock (sym (leaves.others config is)) fits
    ] refl

in_turn : (h : Held) (list : FileChanges) → IsWhole (with_list h list) → T (is_sorted at_cmp list)
in_turn h list whole = test_of (is_sorted at_cmp list) (in_order h.state list whole.has_record)

rest_leaves : (h : Held) (e : ListEntry) (rest : FileChanges) → IsWhole (with_list h (e ∷ rest)) → Leaves e (e ∷ rest) rest
rest_leaves h e rest whole = first_leaves e rest (in_turn h (e ∷ rest) whole)

rest_whole : (h : Held) (e : ListEntry) (rest : FileChanges) → IsWhole (with_list h (e ∷ rest)) → IsWhole (with_list h rest)
rest_whole h e rest whole = record {
  least = whole.least;
  most = whole.most;
  has_record = rest_has h e rest whole;
  config = no_block e rest (rest_leaves h e rest whole) whole.config;
  alike = whole.alike;
}

-- ---- each entry of a list waits in it

abbrev Waits : FileChanges → ListEntry → Type 0
Waits list e = change_at e.0 list ≡ Some e.1

all_wait : (h : Held) (list : FileChanges) → IsWhole (with_list h list) → AllByRecursion (Waits list) list
all_wait h list whole = each_found at_total list (in_turn h list whole)

-- what waits behind others waits
waits_behind : (h : Held) (done left : FileChanges) (f : ListEntry) → IsWhole (with_list h (done ++ left)) → Waits left f → Waits (done ++ left) f
waits_behind h [] left f whole waits = waits
waits_behind h (e ∷ done) left f whole waits =
    let rest = done ++ left in
    found_later at_total f.0 e rest f.1 (in_turn h (e ∷ rest) whole) (waits_behind h done left f (rest_whole h e rest whole) waits)

first_ones : (P : ListEntry → Type 0) (done left : FileChanges) → AllByRecursion P (done ++ left) → AllByRecursion P done
first_ones P [] left all = tt
first_ones P (e ∷ done) left all = (all.0, first_ones P done left all.1)

-- ---- calls that write what waits

adds_told : (trace : Option (List Call)) (call : Call) → is_some (adds trace call) ≡ is_some trace
adds_told None call = refl
adds_told (Some trace) call = refl

writes_told : (done : FileChanges) (trace : Option (List Call)) → is_some (after_writes done trace) ≡ is_some trace
writes_told [] trace = refl
writes_told (e ∷ done) trace = writes_told done (adds trace (call_for e true)) ∙ adds_told trace (call_for e true)

call_sound : (h : Held) (trace : Option (List Call)) (e : ListEntry) (ok : Bool) → IsWhole h → Waits h.list e → SoundBy h trace → SoundBy h (adds trace (call_for e ok))
call_sound h None e ok whole waits sound = sound
call_sound h (Some trace) e ok whole waits sound = sound_call h trace e ok whole waits sound

call_content : (h : Held) (trace : Option (List Call)) (e : ListEntry) (ok : Bool) → IsWhole h → Waits h.list e → is_some trace ≡ true
    → SameContent (wanted h trace) (wanted h (adds trace (call_for e ok)))
call_content h None e ok whole waits told id = absurd (true_is_false (sym told))
call_content h (Some trace) e ok whole waits told id = wanted_call h trace e ok whole waits id

call_configured : (list : FileChanges) (trace : Option (List Call)) (e : ListEntry) (ok : Bool) (bytes : List ℕ) → Waits list e → IsConfigured list trace bytes
    → IsConfigured list (adds trace (call_for e ok)) bytes
call_configured list None e ok bytes waits c = c
call_configured list (Some trace) e ok bytes waits c = configured_call list trace e ok bytes waits c

writes_sound : (h : Held) (done : FileChanges) (trace : Option (List Call)) → IsWhole h → AllByRecursion (Waits h.list) done → SoundBy h trace → SoundBy h (after_writes done trace)
writes_sound h [] trace whole all sound = sound
writes_sound h (e ∷ done) trace whole all sound = writes_sound h done (adds trace (call_for e true)) whole all.1 (call_sound h trace e true whole all.0 sound)

writes_content : (h : Held) (done : FileChanges) (trace : Option (List Call)) → IsWhole h → AllByRecursion (Waits h.list) done → is_some trace ≡ true
    → SameContent (wanted h trace) (wanted h (after_writes done trace))
writes_content h [] trace whole all told id = refl
writes_content h (e ∷ done) trace whole all told id =
    writes_content h done (adds trace (call_for e true)) whole all.1 (adds_told trace (call_for e true) ∙ told) id ∙ call_content h trace e true whole all.0 told id

writes_configured : (list done : FileChanges) (trace : Option (List Call)) (bytes : List ℕ) → AllByRecursion (Waits list) done → IsConfigured list trace bytes
    → IsConfigured list (after_writes done trace) bytes
writes_configured list [] trace bytes all c = c
writes_configured list (e ∷ done) trace bytes all c = writes_configured list done (adds trace (call_for e true)) bytes all.1 (call_configured list trace e true bytes all.0 c)

-- ---- entries that leave as they are written

leaves_sound : (h : Held) (trace : Option (List Call)) (e : ListEntry) (rest : FileChanges) → IsWhole h → Leaves e h.list rest → SoundBy h (adds trace (call_for e true))
    → SoundBy (with_list h rest) (adds trace (call_for e true))
leaves_sound h None e rest whole leaves sound = sound
leaves_sound h (Some trace) e rest whole leaves sound = sound_left h trace e rest whole leaves sound

leaves_content : (h : Held) (trace : Option (List Call)) (e : ListEntry) (rest : FileChanges) → IsWhole h → Leaves e h.list rest → is_some trace ≡ true
    → SameContent (wanted h (adds trace (call_for e true))) (wanted (with_list h rest) (adds trace (call_for e true)))
leaves_content h None e rest whole leaves told id = absurd (true_is_false (sym told))
leaves_content h (Some trace) e rest whole leaves told id = wanted_left h trace e rest whole leaves id

left_whole : (h : Held) (done left : FileChanges) → IsWhole (with_list h (done ++ left)) → IsWhole (with_list h left)
left_whole h [] left whole = whole
left_whole h (e ∷ done) left whole = left_whole h done left (rest_whole h e (done ++ left) whole)

left_sound : (h : Held) (done left : FileChanges) (trace : Option (List Call)) → IsWhole (with_list h (done ++ left)) → SoundBy (with_list h (done ++ left)) trace
    → SoundBy (with_list h left) (after_writes done trace)
left_sound h [] left trace whole sound = sound
left_sound h (e ∷ done) left trace whole sound =
    let rest = done ++ left in
    let here = with_list h (e ∷ rest) in
    let leaves = rest_leaves h e rest whole in
    left_sound h done left (adds trace (call_for e true)) (rest_whole h e rest whole)
    (leaves_sound here trace e rest whole leaves (call_sound here trace e true whole leaves.was sound))

left_content : (h : Held) (done left : FileChanges) (trace : Option (List Call)) → IsWhole (with_list h (done ++ left)) → is_some trace ≡ true
    → SameContent (wanted (with_list h (done ++ left)) trace) (wanted (with_list h left) (after_writes done trace))
left_content h [] left trace whole told id = refl
left_content h (e ∷ done) left trace whole told id =
    let rest = done ++ left in
    let here = with_list h (e ∷ rest) in
    let leaves = rest_leaves h e rest whole in
    left_content h done left (adds trace (call_for e true)) (rest_whole h e rest whole) (adds_told trace (call_for e true) ∙ told) id
    ∙ (leaves_content here trace e rest whole leaves told id ∙ call_content here trace e true whole leaves.was told id)

leaves_configured : (trace : Option (List Call)) (e : ListEntry) (list rest : FileChanges) (bytes : List ℕ) → is_some trace ≡ true → Leaves e list rest → IsConfigured list trace bytes
    → IsConfigured rest (adds trace (call_for e true)) bytes
leaves_configured None e list rest bytes told leaves c = absurd (true_is_false (sym told))
leaves_configured (Some trace) e list rest bytes told leaves c = configured_left trace e list rest bytes leaves c

left_configured : (h : Held) (done left : FileChanges) (trace : Option (List Call)) (bytes : List ℕ) → IsWhole (with_list h (done ++ left)) → is_some trace ≡ true
    → IsConfigured (done ++ left) trace bytes → IsConfigured left (after_writes done trace) bytes
left_configured h [] left trace bytes whole told c = c
left_configured h (e ∷ done) left trace bytes whole told c =
    let rest = done ++ left in
    left_configured h done left (adds trace (call_for e true)) bytes (rest_whole h e rest whole) (adds_told trace (call_for e true) ∙ told)
    (leaves_configured trace e (e ∷ rest) rest bytes told (rest_leaves h e rest whole) c)

-- ---- the whole write-out

-- these were written and left the list, and the call for one that is left may have failed
pub record Wrote (list : FileChanges) (old new : Option (List Call)) (left : FileChanges) : Type 0 where
  pub done : FileChanges
  pub parts : list ≡ done ++ left
  pub trace : (new ≡ after_writes done old) ⊎ ((next : ListEntry) × Waits left next × (new ≡ adds (after_writes done old) (call_for next false)))

pub wrote : (r : Result Unit GetFail) (list left : FileChanges) (old new : Option (List Call)) → OnOk r (new ≡ after_writes list old) → OnOk r (left ≡ []) → OnErr r (StopsAt list old new left)
    → Wrote list old new left
wrote (Ok _) list left old new all none stops = record { done = list; parts = sym (ap (λ l. list ++ l) none ∙ append-nil list); trace = inl all }
wrote (Err _) list left old new all none stops = record {
  done = stops.done;
  parts = stops.parts;
  trace = elim stops.trace [
    | inl is ↦ inl is
    | inr is ↦ inr (stops.next, ap (change_at stops.next.0) stops.stays ∙ found_first at_total stops.next stops.rest, is)
  ];
}

module _ (h : Held) (old new : Option (List Call)) (left : FileChanges) (whole : IsWhole h) (w : Wrote h.list old new left) where
  parted : IsWhole (with_list h (w.done ++ left))
  parted = subst (λ list. IsWhole (with_list h list)) w.parts whole

  pub still_whole : IsWhole (with_list h left)
  still_whole = left_whole h w.done left parted

  done_wait : AllByRecursion (Waits h.list) w.done
  done_wait = first_ones (Waits h.list) w.done left (subst (AllByRecursion (Waits h.list)) w.parts (all_wait h h.list whole))

  next_waits : (next : ListEntry) → Waits left next → Waits h.list next
  next_waits next waits = subst (λ list. Waits list next) (sym w.parts) (waits_behind h w.done left next parted waits)

  -- the full list, over the trace as it is now
  pub full_sound : SoundBy h old → SoundBy h new
  full_sound sound =
      let s = writes_sound h w.done old whole done_wait sound in
      elim w.trace [
        | inl is ↦ subst (SoundBy h) (sym is) s
        | inr (next, waits, is) ↦ subst (SoundBy h) (sym is) (call_sound h (after_writes w.done old) next false whole (next_waits next waits) s)
      ]

  pub full_content : is_some old ≡ true → SameContent (wanted h old) (wanted h new)
  full_content told id =
      let s = writes_told w.done old ∙ told in
      let written = writes_content h w.done old whole done_wait told id in
      elim w.trace [
        | inl is ↦ ap (λ t. wanted h t id) is ∙ written
        | inr (next, waits, is) ↦ ap (λ t. wanted h t id) is ∙ (call_content h (after_writes w.done old) next false whole (next_waits next waits) s id ∙ written)
      ]

  -- what is left of it
  pub sound_of_rest : SoundBy h old → SoundBy (with_list h left) new
  sound_of_rest sound =
      let s = left_sound h w.done left old parted (subst (λ list. SoundBy (with_list h list) old) w.parts sound) in
      elim w.trace [
        | inl is ↦ subst (SoundBy (with_list h left)) (sym is) s
        | inr (next, waits, is) ↦ subst (SoundBy (with_list h left)) (sym is) (call_sound (with_list h left) (after_writes w.done old) next false still_whole waits s)
      ]

  pub content_of_rest : is_some old ≡ true → SameContent (wanted h old) (wanted (with_list h left) new)
  content_of_rest told id =
      let s = writes_told w.done old ∙ told in
      let written = left_content h w.done left old parted told id ∙ ap (λ list. wanted (with_list h list) old id) (sym w.parts) in
      elim w.trace [
        | inl is ↦ ap (λ t. wanted (with_list h left) t id) is ∙ written
        | inr (next, waits, is) ↦ ap (λ t. wanted (with_list h left) t id) is ∙ (call_content (with_list h left) (after_writes w.done old) next false still_whole waits s id ∙ written)
      ]

  -- the configuration's file, by the full list and by what is left of it
  pub full_configured : (bytes : List ℕ) → IsConfigured h.list old bytes → IsConfigured h.list new bytes
  full_configured bytes c =
      let written = writes_configured h.list w.done old bytes done_wait c in
      elim w.trace [
        | inl is ↦ subst (λ t. IsConfigured h.list t bytes) (sym is) written
        | inr (next, waits, is) ↦ subst (λ t. IsConfigured h.list t bytes) (sym is) (call_configured h.list (after_writes w.done old) next false bytes (next_waits next waits) written)
      ]

  pub configured_of_rest : (bytes : List ℕ) → is_some old ≡ true → IsConfigured h.list old bytes → IsConfigured left new bytes
  configured_of_rest bytes told c =
      let written = left_configured h w.done left old bytes parted told (subst (λ (list : FileChanges). IsConfigured list old bytes) w.parts c) in
      elim w.trace [
        | inl is ↦ subst (λ t. IsConfigured left t bytes) (sym is) written
        | inr (next, waits, is) ↦ subst (λ t. IsConfigured left t bytes) (sym is) (call_configured left (after_writes w.done old) next false bytes waits written)
      ]

-- ---- what no write changes: whether the trace is told, and counts of what was given

pub still_told : (list : FileChanges) (old new : Option (List Call)) (left : FileChanges) → Wrote list old new left → is_some new ≡ is_some old
still_told list old new left w = elim w.trace [
  | inl is ↦ ap is_some is ∙ writes_told w.done old
  | inr (next, waits, is) ↦ ap is_some is ∙ (adds_told (after_writes w.done old) (call_for next false) ∙ writes_told w.done old)
]

-- a test that no put or removal passes
abbrev pub Spares : (List Call → Call → Bool) → Type 0
Spares test = (before : List Call) (e : ListEntry) (ok : Bool) → test before (call_for e ok) ≡ false

pub lies_spare : Spares is_lie
lies_spare before (name, None) ok = refl
lies_spare before (name, Some bytes) ok = refl

pub forgeries_spare : (opens : List ℕ → List ℕ → Option (List ℕ)) (size : ℕ) → Spares (forged opens size)
forgeries_spare opens size before (name, None) ok = refl
forgeries_spare opens size before (name, Some bytes) ok = refl

call_count : (test : List Call → Call → Bool) (trace : Option (List Call)) (e : ListEntry) (ok : Bool) → Spares test → count_told test (adds trace (call_for e ok)) ≡ count_told test trace
call_count test None e ok spares = refl
call_count test (Some trace) e ok spares = let none = spares trace e ok in rw none (omega arith)

writes_count : (test : List Call → Call → Bool) (done : FileChanges) (trace : Option (List Call)) → Spares test → count_told test (after_writes done trace) ≡ count_told test trace
writes_count test [] trace spares = refl
writes_count test (e ∷ done) trace spares = writes_count test done (adds trace (call_for e true)) spares ∙ call_count test trace e true spares

pub same_count : (test : List Call → Call → Bool) (list : FileChanges) (old new : Option (List Call)) (left : FileChanges) → Spares test → Wrote list old new left → count_told test new ≡ count_told test old
same_count test list old new left spares w = elim w.trace [
  | inl is ↦ ap (count_told test) is ∙ writes_count test w.done old spares
  | inr (next, waits, is) ↦ ap (count_told test) is ∙ (call_count test (after_writes w.done old) next false spares ∙ writes_count test w.done old spares)
]

-- ---- all of it

-- the first was written out, and the second is held afterwards
pub record Written (h k : Held) (old new : Option (List Call)) : Type 0 where
  pub whole : IsWhole k
  pub told : is_some new ≡ is_some old
  pub sound : SoundBy h old → SoundBy k new
  pub content : is_some old ≡ true → SameContent (wanted h old) (wanted k new)
  pub stands : (kept : List ℕ) → SoundBy h old → h.state.marked ≡ false → IsRecord h.state h.list kept → Stands (identity_of h) kept new (wanted h old)
  pub kept_configures : (kept bytes : List ℕ) → IsRecord h.state h.list kept → Configures kept old bytes → Configures kept new bytes
  pub configures : is_some old ≡ true → (kept bytes : List ℕ) → IsRecord h.state h.list kept → Configures kept old bytes → Configures (record_bytes k.state k.list) new bytes
  pub lies : count_told is_lie new ≡ count_told is_lie old
  pub forgeries : count_told (forged k.opens k.size) new ≡ count_told (forged h.opens h.size) old

written_left : (h : Held) (left : FileChanges) (old new : Option (List Call)) → IsWhole h → Wrote h.list old new left → Written h (with_list h left) old new
written_left h left old new whole w = record {
  whole = still_whole h old new left whole w;
  told = still_told h.list old new left w;
  sound = sound_of_rest h old new left whole w;
  content = content_of_rest h old new left whole w;
  stands = λ kept sound unmarked is. record {
    held = h;
    same = refl;
    unmarked = unmarked;
    is_record = is;
    sound = full_sound h old new left whole w sound;
    wants = full_content h old new left whole w (sound_is_told h old sound);
  };
  kept_configures = λ kept bytes is c. configures_of h.state h.list kept new bytes is
      (full_configured h old new left whole w bytes (configured_of h.state h.list kept old bytes is c));
  configures = λ told kept bytes is c. configures_of h.state left (record_bytes h.state left) new bytes (written_record h.state left (still_whole h old new left whole w).has_record)
      (configured_of_rest h old new left whole w bytes told (configured_of h.state h.list kept old bytes is c));
  lies = same_count is_lie h.list old new left lies_spare w;
  forgeries = same_count (forged h.opens h.size) h.list old new left (forgeries_spare h.opens h.size) w;
}

pub written : (h k : Held) (old new : Option (List Call)) (r : Result Unit GetFail) → IsWhole h → k ≡ with_list h k.list → OnOk r (new ≡ after_writes h.list old) → OnOk r (k.list ≡ []) → OnErr r (StopsAt h.list old new k.list)
    → Written h k old new
written h k old new r whole is all none stops = subst (λ k. Written h k old new) (sym is) (written_left h k.list old new whole (wrote r h.list k.list old new all none stops))
