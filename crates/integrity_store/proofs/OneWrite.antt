-- One call that writes what waits: it leaves what the list and the trace stand for, and so does the entry as it leaves the list.
use Rattle.std.proofs.Common.{◌≡◌, ◌⊎◌, inl, inr, ℕ, Bool, true, false, List, ◌∷◌, length, take, drop, refl, sym, ◌∙◌, ap, subst, arith}
use Rattle.std.specs.Prelude.{◌&&◌, ◌||◌, ◌==◌, not, is_some, nat_eq, if◌then◌else◌}
use Rattle.std.specs.List.{starts_with}
use Rattle.std.specs.Str.{bytes_eq}
use Rattle.std.specs.Option.{option_map_or}
use Rattle.std.specs.FinMap as fin
use Rattle.std.specs.Cmp.Lexicographic.{bytes_decides}
use Rattle.std.proofs.Math.Bool.{and-false}
use Rattle.std.proofs.lemmas.List.{take-take}
use Rattle.std.proofs.lemmas.Slice.Eq.{bytes_eq-Decides}
use Rattle.std.specs.declared.option.Option.{Option}
use Rattle.std.specs.declared.option.Option.TheVariants.{None, Some}
use Rattle.std.proofs.lemmas.Option.{same_Some}
use Rattle.outside.specs.Trace.{At, config, block, Call, put, removed}
use Rattle.outside.specs.Names.{same_at}
use Rattle.outside.specs.NameLaws.{at_total, at_exact}
use Rattle.outside.specs.Changes.{FileChanges, change_at}
use Rattle.outside.specs.Honest.{LastChange, last_change}
use Rattle.local_state.specs.declared.life.Life.{Life}
use Rattle.local_state.specs.Known.{is_dead_in, version_if_live}
use Rattle.local_state.specs.Record.{ListEntry, FitsEntry, may_change, has_bytes}
use Rattle.outside.specs.Writes.{call_for}
use Rattle.block_id.specs.declared.format.Format.{Format}
use Rattle.block_id.specs.declared.format.Format.TheVariants.{Alone, WithId}
use Rattle.block_id.specs.Formats.{magic, prefix_of}
use Rattle.block_versions.specs.sealed_store.BlockFiles.{opened_as, opens_file}
use Rattle.store_api.specs.Durables.{IsConfigured}
use Rattle.block_versions.specs.BlockRecords.{Record, opened, payload_in}
use Rattle.block_versions.specs.RecordLaws.{if_true, opened-alike, opened-plain}
use Rattle.block_versions.specs.Held.{Held, live_version, waiting, waiting_or, bytes_in, file_of, where_live, wanted, own}
use Rattle.block_versions.specs.Forgeries.{was_put}
use Rattle.block_versions.specs.Soundness.{IsForeign, IsFresh, IsPast, IsSealed, SoundAt}
use Rattle.block_versions.proofs.Fetches.{wanted_of}
use Rattle.block_versions.specs.Stores.{IsWhole, IsNoBlock}
use Rattle.integrity_store.proofs.Sorted.{of_found}

true_is_false : true ≡ false → ⊥
true_is_false e = cc

-- ---- names

pub same_is : (a b : At) → same_at a b ≡ true → a ≡ b
same_is config config e = refl
same_is config (block b) e = absurd (true_is_false (sym e))
same_is (block a) config e = absurd (true_is_false (sym e))
same_is (block a) (block b) e = ap block ((bytes_eq-Decides a b).0 e)

-- ---- entries

-- what waits fits
pub fits_at : (h : Held) (e : ListEntry) → IsWhole h → change_at e.0 h.list ≡ Some e.1 → FitsEntry h.state.lives e
fits_at h e whole waits = of_found at_total (FitsEntry h.state.lives) at_exact h.list e.0 e.1 whole.has_record.entries.each waits

-- the life of a live id
life_of_live : (o : Option Life) → option_map_or (λ m. m.live) o false ≡ true → (life : Life) × (o ≡ Some life) × (version_if_live o ≡ Some life.version)
life_of_live None live = absurd (true_is_false (sym live))
life_of_live (Some life) live = (life, refl, ap (λ b. if b then Some life.version else None) live)

-- ---- files

begins_as : (f : Format) (bytes : List ℕ) → starts_with nat_eq bytes (prefix_of f) ≡ true → take 14 bytes ≡ magic
begins_as f bytes test =
    let same : prefix_of f ≡ take 16 bytes = by_format f bytes test in
    sym (take-take 14 16 bytes (omega arith)) ∙ ap (take 14) (sym same) ∙ magic_is f
  where
    by_format : (f : Format) (bytes : List ℕ) → starts_with nat_eq bytes (prefix_of f) ≡ true → prefix_of f ≡ take 16 bytes
    by_format Alone bytes test = (bytes_decides (prefix_of Alone) (take 16 bytes)).0 test
    by_format WithId bytes test = (bytes_decides (prefix_of WithId) (take 16 bytes)).0 test

    magic_is : (f : Format) → take 14 (prefix_of f) ≡ magic
    magic_is Alone = refl
    magic_is WithId = refl

found_begins : (a b : Bool) (bytes : List ℕ) → (a ≡ true → take 14 bytes ≡ magic) → (b ≡ true → take 14 bytes ≡ magic) → (opens : List ℕ → List ℕ → Option (List ℕ)) (id rest plain : List ℕ)
    → opened_as opens id rest (if a then Some Alone else (if b then Some WithId else None)) ≡ Some plain → take 14 bytes ≡ magic
found_begins true b bytes f g opens id rest plain e = f refl
found_begins false true bytes f g opens id rest plain e = g refl
found_begins false false bytes f g opens id rest plain e = absurd (true_is_false (ap is_some (sym e)))

-- a file that opens begins as a block's file does
begins : (opens : List ℕ → List ℕ → Option (List ℕ)) (size : ℕ) (id bytes plain : List ℕ) → opens_file opens size id bytes ≡ Some plain → take 14 bytes ≡ magic
begins opens size id bytes plain is =
    found_begins (starts_with nat_eq bytes (prefix_of Alone)) (starts_with nat_eq bytes (prefix_of WithId)) bytes (begins_as Alone bytes) (begins_as WithId bytes) opens id (drop 16 bytes) plain (if_true (length bytes == size) _ plain is).1

-- ---- what one call changes

last_call : (name : At) (e : ListEntry) (ok : Bool) (trace : List Call)
    → last_change name (call_for e ok ∷ trace) ≡ (if same_at e.0 name then Some (record { bytes = e.1; ok = ok }) else last_change name trace)
last_call name (other, None) ok trace = refl
last_call name (other, Some bytes) ok trace = refl

-- the changes of other names are as before
last_other : (name : At) (e : ListEntry) (ok : Bool) (trace : List Call) → same_at e.0 name ≡ false → last_change name (call_for e ok ∷ trace) ≡ last_change name trace
last_other name e ok trace other = last_call name e ok trace ∙ ap (λ b. if b then Some (record { bytes = e.1; ok = ok }) else last_change name trace) other

last_own : (name : At) (e : ListEntry) (ok : Bool) (trace : List Call) → same_at e.0 name ≡ true → last_change name (call_for e ok ∷ trace) ≡ Some (record { bytes = e.1; ok = ok })
last_own name e ok trace is = last_call name e ok trace ∙ ap (λ b. if b then Some (record { bytes = e.1; ok = ok }) else last_change name trace) is

equal_or : (a b : List ℕ) (was : Bool) → (bytes_eq a b || was) ≡ true → (a ≡ b) ⊎ (was ≡ true)
equal_or a b was e = elim (bytes_eq a b) as (λ v. bytes_eq a b ≡ v → (v || was) ≡ true → (a ≡ b) ⊎ (was ≡ true)) [
  | true ↦ λ is _. inl ((bytes_eq-Decides a b).0 is)
  | false ↦ λ is e. inr e
] refl e

-- what was put is what waited, or was put before
put_call : (bytes : List ℕ) (e : ListEntry) (ok : Bool) (trace : List Call) → was_put bytes (call_for e ok ∷ trace) ≡ true → (e.1 ≡ Some bytes) ⊎ (was_put bytes trace ≡ true)
put_call bytes (name, None) ok trace was = inr was
put_call bytes (name, Some b) ok trace was = elim (equal_or b bytes (was_put bytes trace) was) [ inl is ↦ inl (ap Some is) | inr old ↦ inr old ]

removed_put : (other : At) (ok : Bool) (name : At) (bytes : List ℕ) (k : Bool) → removed other ok ≡ put name bytes k → ⊥
removed_put other ok name bytes k e = cc

-- a call that puts a file writes the entry of this name with these bytes
put_by : (e : ListEntry) (ok : Bool) (name : At) (bytes : List ℕ) (k : Bool) → call_for e ok ≡ put name bytes k → (e.0 ≡ name) × (e.1 ≡ Some bytes)
put_by (other, None) ok name bytes k is = absurd (removed_put other ok name bytes k is)
put_by (other, Some b) ok name bytes k is = (cc, cc)

-- a name that doesn't wait isn't the one that is written
apart : (list : FileChanges) (e : ListEntry) (name : At) → change_at e.0 list ≡ Some e.1 → change_at name list ≡ None → same_at e.0 name ≡ false
apart list e name waits none =
    elim (same_at e.0 name) as (λ b. same_at e.0 name ≡ b → b ≡ false) [
      | true ↦ λ is. let there = subst (λ name. change_at name list ≡ Some e.1) (same_is e.0 name is) waits in absurd (true_is_false (ap is_some (sym there ∙ none)))
      | false ↦ λ is. refl
    ] refl

module _ (h : Held) (trace : List Call) (e : ListEntry) (ok : Bool) (whole : IsWhole h) (waits : change_at e.0 h.list ≡ Some e.1) where
  -- the file of each block is as before
  file_call : (id : List ℕ) → file_of h (call_for e ok ∷ trace) id ≡ file_of h trace id
  file_call id =
      elim (same_at e.0 (block id)) as (λ b. same_at e.0 (block id) ≡ b → file_of h (call_for e ok ∷ trace) id ≡ file_of h trace id) [
        | true ↦ λ is.
            let there : waiting h id ≡ Some e.1 = subst (λ name. change_at name h.list ≡ Some e.1) (same_is e.0 (block id) is) waits in
            ap (λ w. waiting_or w (bytes_in (last_change (block id) (call_for e ok ∷ trace)))) there ∙ sym (ap (λ w. waiting_or w (bytes_in (last_change (block id) trace))) there)
        | false ↦ λ is. ap (λ last. waiting_or (waiting h id) (bytes_in last)) (last_other (block id) e ok trace is)
      ] refl

  pub wanted_call : (id : List ℕ) → wanted h (Some (call_for e ok ∷ trace)) id ≡ wanted h (Some trace) id
  wanted_call id = ap (λ file. where_live (live_version h id) (payload_in h.opens h.size id file)) (file_call id)

  past_call : (r : Record) → IsPast h trace r → IsPast h (call_for e ok ∷ trace) r
  past_call r p = record { life = p.life; used = p.used; version = p.version; payload = λ live. wanted_call r.id ∙ p.payload live }

  -- a file that is written and opens as some block's is the record of a live block
  past_new : (x bytes : List ℕ) (r : Record) (name : At) → e.0 ≡ name → SoundAt h trace → e.1 ≡ Some bytes → opened h.opens h.size x bytes ≡ Some r → IsPast h (call_for e ok ∷ trace) r
  past_new x bytes r config is s wrote opens =
      let there : change_at config h.list ≡ Some (Some bytes) = subst (λ name. change_at name h.list ≡ Some e.1) is waits ∙ ap Some wrote in
      let p = opened-plain h.opens h.size x bytes r opens in
      absurd (subst IsNoBlock there whole.config (begins h.opens h.size x bytes p.0 p.1))
  past_new x bytes r (block id) is s wrote opens =
      let there : waiting h id ≡ Some (Some bytes) = subst (λ name. change_at name h.list ≡ Some e.1) is waits ∙ ap Some wrote in
      let (life, known, live) = life_of_live (fin.get h.state.lives id) (fits_at h (block id, Some bytes) whole there).change in
      let (b, payload, same, fresh) = s.waits id life.version (Some bytes) live there in
      let opened_so : opened h.opens h.size id bytes ≡ Some (own h id life.version payload) = ap (opened h.opens h.size id) (same_Some _ _ same) ∙ fresh.opens in
      let own_is : own h id life.version payload ≡ r = opened-alike h.opens h.size id x bytes _ r whole.alike opened_so opens in
      subst (IsPast h (call_for e ok ∷ trace)) own_is
      (record { life = life; used = known; version = omega arith; payload = λ live'. wanted_of h (call_for e ok ∷ trace) id life.version bytes payload live there opened_so })

  -- a block's file that is written is its record at its version
  sealed_new : (x bytes : List ℕ) → e.0 ≡ block x → e.1 ≡ Some bytes → SoundAt h trace → IsSealed h x bytes
  sealed_new x bytes at wrote s =
      let there : waiting h x ≡ Some (Some bytes) = subst (λ name. change_at name h.list ≡ Some e.1) at waits ∙ ap Some wrote in
      let (life, known, live) = life_of_live (fin.get h.state.lives x) (fits_at h (block x, Some bytes) whole there).change in
      let (b, payload, same, fresh) = s.waits x life.version (Some bytes) live there in
      record { found = own h x life.version payload; opens = ap (opened h.opens h.size x) (same_Some _ _ same) ∙ fresh.opens; own_id = refl }

  pub sound_call : SoundAt h trace → SoundAt h (call_for e ok ∷ trace)
  sound_call s = record {
    waits = s.waits;
    stands = λ id version live none.
        let (bytes, payload, last, o) = s.stands id version live none in
        (bytes, payload, last_other (block id) e ok trace (apart h.list e (block id) waits none) ∙ last, o);
    buried = λ id dead none.
        subst (λ last. (last ≡ Some (record { bytes = None; ok = true })) ⊎ IsForeign h id last) (sym (last_other (block id) e ok trace (apart h.list e (block id) waits none))) (s.buried id dead none);
    past = λ x bytes r was opens mine. elim (put_call bytes e ok trace was) [
      | inl new ↦ past_new x bytes r e.0 refl s new opens
      | inr old ↦ past_call r (s.past x bytes r old opens mine)
    ];
    sealed = λ x bytes k among. elim among [
      | inl is ↦ let entry = put_by e ok (block x) bytes k is in sealed_new x bytes entry.0 entry.1 s
      | inr before ↦ s.sealed x bytes k before
    ];
  }

-- ---- an entry that was written leaves the list

-- the list without one entry
pub record Leaves (e : ListEntry) (list rest : FileChanges) : Type 0 where
  pub was : change_at e.0 list ≡ Some e.1
  pub gone : change_at e.0 rest ≡ None
  pub others : (name : At) → same_at e.0 name ≡ false → change_at name rest ≡ change_at name list

-- the same but for the list
abbrev pub with_list : Held → FileChanges → Held
with_list h list = record h { list = list }

module _ (h : Held) (trace : List Call) (e : ListEntry) (rest : FileChanges) (whole : IsWhole h) (leaves : Leaves e h.list rest) where
  abbrev after : List Call
  after = call_for e true ∷ trace

  -- of the one that leaves, the list said this and says nothing now
  said : (id : List ℕ) → same_at e.0 (block id) ≡ true → waiting h id ≡ Some e.1
  said id is = subst (λ name. change_at name h.list ≡ Some e.1) (same_is e.0 (block id) is) leaves.was

  silent : (id : List ℕ) → same_at e.0 (block id) ≡ true → waiting (with_list h rest) id ≡ None
  silent id is = subst (λ name. change_at name rest ≡ None) (same_is e.0 (block id) is) leaves.gone

  file_left : (id : List ℕ) → file_of (with_list h rest) after id ≡ file_of h after id
  file_left id =
      elim (same_at e.0 (block id)) as (λ b. same_at e.0 (block id) ≡ b → file_of (with_list h rest) after id ≡ file_of h after id) [
        | true ↦ λ is. ap (λ w. waiting_or w (bytes_in (last_change (block id) after))) (silent id is) ∙ ap bytes_in (last_own (block id) e true trace is)
            ∙ sym (ap (λ w. waiting_or w (bytes_in (last_change (block id) after))) (said id is))
        | false ↦ λ is. ap (λ w. waiting_or w (bytes_in (last_change (block id) after))) (leaves.others (block id) is)
      ] refl

  pub wanted_left : (id : List ℕ) → wanted (with_list h rest) (Some after) id ≡ wanted h (Some after) id
  wanted_left id = ap (λ file. where_live (live_version h id) (payload_in h.opens h.size id file)) (file_left id)

  waits_left : (id : List ℕ) (change : Option (List ℕ)) → waiting (with_list h rest) id ≡ Some change → waiting h id ≡ Some change
  waits_left id change waits =
      elim (same_at e.0 (block id)) as (λ b. same_at e.0 (block id) ≡ b → waiting h id ≡ Some change) [
        | true ↦ λ is. absurd (true_is_false (ap is_some (sym waits ∙ silent id is)))
        | false ↦ λ is. sym (leaves.others (block id) is) ∙ waits
      ] refl

  stands_left : SoundAt h after → (id : List ℕ) (version : ℕ) → live_version h id ≡ Some version → waiting (with_list h rest) id ≡ None
      → (bytes payload : List ℕ) × (last_change (block id) after ≡ Some (record { bytes = Some bytes; ok = true })) × IsFresh h id version bytes payload
  stands_left s id version live none =
      elim (same_at e.0 (block id)) as (λ b. same_at e.0 (block id) ≡ b
      → (bytes payload : List ℕ) × (last_change (block id) after ≡ Some (record { bytes = Some bytes; ok = true })) × IsFresh h id version bytes payload) [
        | true ↦ λ is.
            let (bytes, payload, same, o) = s.waits id version e.1 live (said id is) in
            (bytes, payload, last_own (block id) e true trace is ∙ ap (λ b. Some (record { bytes = b; ok = true })) same, o)
        | false ↦ λ is. s.stands id version live (sym (leaves.others (block id) is) ∙ none)
      ] refl

  removal : (id : List ℕ) (change : Option (List ℕ)) → is_dead_in h.state.lives id ≡ true → may_change h.state.lives (block id) (has_bytes change) ≡ true → change ≡ None
  removal id None dead may = refl
  removal id (Some bytes) dead may =
      absurd (true_is_false (sym dead ∙ ap (λ b. is_some (fin.get h.state.lives id) && not b) may ∙ and-false (is_some (fin.get h.state.lives id))))

  buried_left : SoundAt h after → (id : List ℕ) → is_dead_in h.state.lives id ≡ true → waiting (with_list h rest) id ≡ None
      → (last_change (block id) after ≡ Some (record { bytes = None; ok = true })) ⊎ IsForeign h id (last_change (block id) after)
  buried_left s id dead none =
      elim (same_at e.0 (block id)) as (λ b. same_at e.0 (block id) ≡ b → (last_change (block id) after ≡ Some (record { bytes = None; ok = true })) ⊎ IsForeign h id (last_change (block id) after)) [
        | true ↦ λ is.
            let gone = removal id e.1 dead (subst (λ name. may_change h.state.lives name (has_bytes e.1) ≡ true) (same_is e.0 (block id) is) (fits_at h e whole leaves.was).change) in
            inl (last_own (block id) e true trace is ∙ ap (λ b. Some (record { bytes = b; ok = true })) gone)
        | false ↦ λ is. s.buried id dead (sym (leaves.others (block id) is) ∙ none)
      ] refl

  past_left : (r : Record) → IsPast h after r → IsPast (with_list h rest) after r
  past_left r p = record { life = p.life; used = p.used; version = p.version; payload = λ live. wanted_left r.id ∙ p.payload live }

  fresh_left : (id : List ℕ) (version : ℕ) (bytes payload : List ℕ) → IsFresh h id version bytes payload → IsFresh (with_list h rest) id version bytes payload
  fresh_left id version bytes payload f = record { opens = f.opens; taken = f.taken }

  foreign_left : (id : List ℕ) (last : Option LastChange) → IsForeign h id last → IsForeign (with_list h rest) id last
  foreign_left id last f = record { bytes = f.bytes; ok = f.ok; found = f.found; put = f.put; opens = f.opens; other = f.other }

  pub sound_left : SoundAt h after → SoundAt (with_list h rest) after
  sound_left s = record {
    waits = λ id version change live waits. let (bytes, payload, is, f) = s.waits id version change live (waits_left id change waits) in (bytes, payload, is, fresh_left id version bytes payload f);
    stands = λ id version live none. let (bytes, payload, is, f) = stands_left s id version live none in (bytes, payload, is, fresh_left id version bytes payload f);
    buried = λ id dead none. elim (buried_left s id dead none) [ inl gone ↦ inl gone | inr other ↦ inr (foreign_left id (last_change (block id) after) other) ];
    past = λ x bytes r was opens mine. past_left r (s.past x bytes r was opens mine);
    sealed = λ x bytes k among. let f = s.sealed x bytes k among in record { found = f.found; opens = f.opens; own_id = f.own_id };
  }

-- ---- the configuration's file

pub configured_call : (list : FileChanges) (trace : List Call) (e : ListEntry) (ok : Bool) (bytes : List ℕ) → change_at e.0 list ≡ Some e.1 → IsConfigured list (Some trace) bytes
    → IsConfigured list (Some (call_for e ok ∷ trace)) bytes
configured_call list trace e ok bytes waits (inl there) = inl there
configured_call list trace e ok bytes waits (inr (none, last)) = inr (none, last_other config e ok trace (apart list e config waits none) ∙ last)

some_change : {a b : Option (List ℕ)} → Some a ≡ Some b → a ≡ b
some_change e = cc

-- of the one that leaves, the list said this and says nothing now
config_said : (e : ListEntry) (list rest : FileChanges) (bytes : List ℕ) (trace : Option (List Call)) → Leaves e list rest → same_at e.0 config ≡ true → IsConfigured list trace bytes → e.1 ≡ Some bytes
config_said e list rest bytes trace leaves is (inl there) = some_change (sym (subst (λ name. change_at name list ≡ Some e.1) (same_is e.0 config is) leaves.was) ∙ there)
config_said e list rest bytes trace leaves is (inr (none, last)) = absurd (true_is_false (sym is ∙ apart list e config leaves.was none))

-- of another, both say the same
others_left : (e : ListEntry) (list rest : FileChanges) (bytes : List ℕ) (trace : List Call) → Leaves e list rest → same_at e.0 config ≡ false → IsConfigured list (Some trace) bytes
    → IsConfigured rest (Some (call_for e true ∷ trace)) bytes
others_left e list rest bytes trace leaves is (inl there) = inl (leaves.others config is ∙ there)
others_left e list rest bytes trace leaves is (inr (none, last)) = inr (leaves.others config is ∙ none, last_other config e true trace is ∙ last)

pub configured_left : (trace : List Call) (e : ListEntry) (list rest : FileChanges) (bytes : List ℕ) → Leaves e list rest → IsConfigured list (Some trace) bytes
    → IsConfigured rest (Some (call_for e true ∷ trace)) bytes
configured_left trace e list rest bytes leaves c =
    elim (same_at e.0 config) as (λ b. same_at e.0 config ≡ b → IsConfigured rest (Some (call_for e true ∷ trace)) bytes) [
      | true ↦ λ is. inr (
        subst (λ name. change_at name rest ≡ None) (same_is e.0 config is) leaves.gone,
        last_own config e true trace is ∙ ap (λ change. Some (record { bytes = change; ok = true })) (config_said e list rest bytes (Some trace) leaves is c),
      )
      | false ↦ λ is. others_left e list rest bytes trace leaves is c
    ] refl
