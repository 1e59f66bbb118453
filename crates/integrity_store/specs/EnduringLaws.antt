-- What kept records stand for, and say of the configuration's file, while blocks are loaded and changed.
use Rattle.std.specs.Prelude.{◌≡◌, ℕ, Bool, true, false, List}
use Rattle.std.specs.declared.option.Option.{Option}
use Rattle.std.specs.declared.option.Option.TheVariants.{None, Some}
use Rattle.std.proofs.Common.{refl, sym, ◌∙◌, ap, subst, inl, inr, arith}
use Rattle.outside.specs.Trace.{config, block, Call, got, adds, At}
use Rattle.outside.specs.Changes.{FileChanges, change_at}
use Rattle.local_state.specs.Record.{PlainState, HasRecord, IsRecord, record_bytes}
use Rattle.local_state.proofs.Records.{one_reading, mark_in, marked_record, is_plain, written_record}
use Rattle.local_state.specs.Record as records_of
use Rattle.store_api.specs.Content.{Content, SameContent, Changes as BlockChanges}
use Rattle.store_api.specs.Durables.{Identity, Enduring, IsConfigured, last_told, with_mark}
use Rattle.std.specs.FinMap as fin
use Rattle.block_id.specs.declared.format.Format.TheVariants.{WithId}
use Rattle.block_id.specs.Formats.{format_in}
use Rattle.integrity_store.specs.Applied.{Applied, WaitsAfter, applied_by}
use Rattle.block_versions.specs.Held.{Held}
use Rattle.block_versions.specs.ReadLaws.{goes_on, last_went, sound-got, went_sound, went_wanted}
use Rattle.block_versions.specs.Reads.{GaveWrong, WentOnByReads}
use Rattle.block_versions.specs.Standing.{Configures, IsMarked, Stands, durables_by, identity_of, listed, records}
use Rattle.block_versions.specs.StoreLaws.{sound_is_told}
use Rattle.block_versions.specs.Stores.{holdings_by, meanings_by}
use Rattle.integrity_store.specs.WaitingLaws.{in_order}

-- ---- records

true_is_false : true ≡ false → ⊥
true_is_false e = cc

-- a state that has a record with a list has one with an empty list
pub listed_has : (state : PlainState) (list : FileChanges) (with_list : Bool) → HasRecord state list → HasRecord state (listed with_list list)
listed_has state list true has = has
listed_has state list false has = record { state = has.state; entries = record { each = tt; order = tt; count = omega arith } }

same_stands : (identity : Identity) (kept : List ℕ) (trace : Option (List Call)) (old new : Content) → SameContent old new → Stands identity kept trace old → Stands identity kept trace new
same_stands identity kept trace old new same s = record { held = s.held; same = s.same; unmarked = s.unmarked; is_record = s.is_record; sound = s.sound; wants = λ id. s.wants id ∙ sym (same id) }

never_marked : (identity : Identity) (kept : List ℕ) (trace : Option (List Call)) (content : Content) → Stands identity kept trace content → IsMarked kept → ⊥
never_marked identity kept trace content s m =
    let reading = one_reading s.held.state m.state s.held.list m.list kept s.is_record m.is_record in
    true_is_false (sym m.is_marked ∙ ap (λ (state : PlainState). state.marked) (sym reading.0) ∙ s.unmarked)

mark_of : (state : PlainState) (list : FileChanges) (kept : List ℕ) → IsRecord state list kept → IsMarked (with_mark kept)
mark_of state list kept is = record { state = records_of.with_mark state; list = list; is_marked = refl; is_record = marked_record state list kept is }

-- reads leave what a kept record stands for
read_stands : (h : Held) (a b : Option (List Call)) (identity : Identity) (kept : List ℕ) (content : Content) → WentOnByReads h a b → Stands identity kept a content → Stands identity kept b content
read_stands h a b identity kept content went s = record {
  held = s.held;
  same = s.same;
  unmarked = s.unmarked;
  is_record = s.is_record;
  sound = went_sound s.held h a b went s.sound;
  wants = λ id. went_wanted s.held h a b went (sound_is_told s.held a s.sound) id ∙ s.wants id;
}

applied_same : (a b : Held) (old new : Option (List Call)) (changes : BlockChanges) → Applied a b old new changes → identity_of b ≡ identity_of a
applied_same a b old new changes x = λ i. record {
  marked = (x.state i).marked;
  fs_id = (x.state i).fs_id;
  key_salt = (x.state i).key_salt;
  key_digest = (x.state i).key_digest;
  client = (x.state i).client;
  size = x.size i;
  opens = x.opens i;
}

got_stood : (identity : Identity) (kept : List ℕ) (trace : Option (List Call)) (content : Content) (name : At) (max : ℕ) (answer : Option (List ℕ)) → Stands identity kept trace content → Stands identity kept (adds trace (got name max answer)) content
got_stood identity kept None content name max answer s = absurd s.sound
got_stood identity kept (Some t) content name max answer s = record {
  held = s.held;
  same = s.same;
  unmarked = s.unmarked;
  is_record = s.is_record;
  sound = sound-got s.held t name max answer s.sound;
  wants = s.wants;
}

-- ---- the configuration's file

-- a record of this state and this list says of the configuration's file what the list does
pub configures_of : (state : PlainState) (list : FileChanges) (kept : List ℕ) (trace : Option (List Call)) (bytes : List ℕ) → IsRecord state list kept → IsConfigured list trace bytes → Configures kept trace bytes
configures_of state list kept trace bytes is configured = record { state = state; list = list; is_record = is; configured = configured }

pub configured_of : (state : PlainState) (list : FileChanges) (kept : List ℕ) (trace : Option (List Call)) (bytes : List ℕ) → IsRecord state list kept → Configures kept trace bytes → IsConfigured list trace bytes
configured_of state list kept trace bytes is c =
    let reading = one_reading state c.state list c.list kept is c.is_record in
    subst (λ (list : FileChanges). IsConfigured list trace bytes) (sym reading.1) c.configured

read_configured : (list : FileChanges) (a b : Option (List Call)) (bytes : List ℕ) → last_told config b ≡ last_told config a → IsConfigured list a bytes → IsConfigured list b bytes
read_configured list a b bytes same (inl waits) = inl waits
read_configured list a b bytes same (inr (none, last)) = inr (none, same ∙ last)

read_configures : (h : Held) (a b : Option (List Call)) (kept bytes : List ℕ) → WentOnByReads h a b → Configures kept a bytes → Configures kept b bytes
read_configures h a b kept bytes went c = record {
  state = c.state;
  list = c.list;
  is_record = c.is_record;
  configured = read_configured c.list a b bytes (last_went h config a b went) c.configured;
}

-- a list that says the same of the configuration
same_configured : (old new : FileChanges) (trace : Option (List Call)) (bytes : List ℕ) → change_at config new ≡ change_at config old → IsConfigured old trace bytes → IsConfigured new trace bytes
same_configured old new trace bytes same (inl waits) = inl (same ∙ waits)
same_configured old new trace bytes same (inr (none, last)) = inr (same ∙ none, last)

changed_configures : (a b : Held) (old new : Option (List Call)) (changes : BlockChanges) (bytes : List ℕ) → Applied a b old new changes → HasRecord a.state a.list → HasRecord b.state b.list
    → Configures (record_bytes a.state a.list) old bytes → Configures (record_bytes b.state b.list) new bytes
changed_configures a b old new changes bytes x had has c =
    let before = configured_of a.state a.list (record_bytes a.state a.list) old bytes (written_record a.state a.list had) c in
    configures_of b.state b.list (record_bytes b.state b.list) new bytes (written_record b.state b.list has)
    (subst (λ t. IsConfigured b.list t bytes) (sym x.trace) (same_configured a.list b.list old bytes x.config before))

got_configured : (list : FileChanges) (trace : Option (List Call)) (bytes : List ℕ) (name : At) (max : ℕ) (answer : Option (List ℕ)) → IsConfigured list trace bytes → IsConfigured list (adds trace (got name max answer)) bytes
got_configured list None bytes name max answer c = c
got_configured list (Some t) bytes name max answer c = c

got_said : (kept : List ℕ) (trace : Option (List Call)) (bytes : List ℕ) (name : At) (max : ℕ) (answer : Option (List ℕ)) → Configures kept trace bytes → Configures kept (adds trace (got name max answer)) bytes
got_said kept trace bytes name max answer c = record { state = c.state; list = c.list; is_record = c.is_record; configured = got_configured c.list trace bytes name max answer c.configured }

marked_said : (kept : List ℕ) (trace : Option (List Call)) (bytes : List ℕ) → Configures kept trace bytes → Configures (with_mark kept) trace bytes
marked_said kept trace bytes c = record { state = records_of.with_mark c.state; list = c.list; is_record = marked_record c.state c.list kept c.is_record; configured = c.configured }

-- ---- the laws

new_waits : (a b : Held) (old new : Option (List Call)) (changes : BlockChanges) (id payload : List ℕ) → Applied a b old new changes → fin.get changes id ≡ Some (Some payload)
    → (bytes : List ℕ) × (change_at (block id) b.list ≡ Some (Some bytes)) × (format_in bytes ≡ Some WithId)
new_waits a b old new changes id payload x is = let (file, waits, raised) = subst (WaitsAfter a b id) is (x.waits id) in (file, waits, raised.format)

pub enduring_by : {S : Type 0} (held : S → Held) (trace : S → Option (List Call)) (faults : S → ℕ) (own : S → Type 0)
    → Enduring (meanings_by held trace faults own) (holdings_by held trace) (applied_by held trace) (durables_by held trace) records
enduring_by held trace faults own = record {
  stands_now = λ s kept i sound unmarked is. record { held = held s; same = refl; unmarked = unmarked; is_record = is; sound = sound; wants = λ id. refl };
  written = λ s with_list i. written_record (held s).state (listed with_list (held s).list) (listed_has (held s).state (held s).list with_list i.0.has_record);
  got_stands = got_stood;
  got_configures = got_said;
  marked_configures = marked_said;
  applied_config = λ a b changes x. x.config;
  stands_same = same_stands;
  stands_unmarked = never_marked;
  marked = λ s with_list kept is. mark_of (held s).state (listed with_list (held s).list) kept is;
  long = λ s with_list kept is. mark_in (held s).state (listed with_list (held s).list) kept is;
  plain = λ s with_list kept is. is_plain (held s).state (listed with_list (held s).list) kept is;
  plain_marked = λ s with_list kept is. let m = mark_of (held s).state (listed with_list (held s).list) kept is in is_plain m.state m.list (with_mark kept) m.is_record;
  configures_now = λ s kept bytes is c. configures_of (held s).state (held s).list kept (trace s) bytes is c;
  configured_now = λ s kept bytes is c. configured_of (held s).state (held s).list kept (trace s) bytes is c;
  loaded_identity = λ a b x. ap identity_of x.held;
  loaded_list = λ a b x. ap (λ h. h.list) x.held;
  loaded_goes_on = λ a b x. goes_on (held a) (trace a) (trace b) x.trace;
  gave_along = λ a b c why same gave. subst (λ t. GaveWrong (held a) (trace a) t why) same gave;
  loaded_last = λ a b name x. last_went (held a) name (trace a) (trace b) x.trace;
  loaded_records = λ a b with_list x. ap (λ h. record_bytes h.state (listed with_list h.list)) x.held;
  loaded_record = λ a b with_list kept x is. subst (λ h. IsRecord h.state (listed with_list h.list) kept) (sym x.held) is;
  loaded_stands = λ a b identity kept content x s. read_stands (held a) (trace a) (trace b) identity kept content x.trace s;
  loaded_configures = λ a b kept bytes x c. read_configures (held a) (trace a) (trace b) kept bytes x.trace c;
  applied_identity = λ a b changes x. applied_same (held a) (held b) (trace a) (trace b) changes x;
  applied_trace = λ a b changes x. x.trace;
  applied_configures = λ a b changes bytes x i j c. changed_configures (held a) (held b) (trace a) (trace b) changes bytes x i.0.has_record j.0.has_record c;
  in_order = λ s i. in_order (held s).state (held s).list i.0.has_record;
  loaded_least = λ a b x. ap (λ h. h.state.least) x.held;
  applied_least = λ a b changes x. ap (λ (s : PlainState). s.least) x.state;
  applied_new = λ a b changes id payload x is. new_waits (held a) (held b) (trace a) (trace b) changes id payload x is;
  applied_rest = λ a b changes id x none. subst (WaitsAfter (held a) (held b) id) none (x.waits id);
  nothing_waits = λ s none. ap (λ list. record_bytes (held s).state list) none;
  same_record = λ s kept none is. subst (λ (list : FileChanges). IsRecord (held s).state list kept) (sym none) is;
  short_record = λ s kept none is. subst (λ (list : FileChanges). IsRecord (held s).state list kept) none is;
}
