-- A batch, from the calls that were made for it to what the store is afterwards.
use Rattle.std.proofs.Common.{◌≡◌, ℕ, ◌^◌, ◌<◌, ◌≤◌, List, true, false, length, sym, ◌∙◌, ap, subst}
use Rattle.std.specs.Prelude.{T, Option}
use Rattle.std.specs.FinMap as fin
use Rattle.std.specs.FinMap.{is_sorted, entries_sorted, get-entries}
use Rattle.std.specs.FinMap.Entries.{find}
use Rattle.rand_core.specs.Stream.{Stream}
use Rattle.outside.specs.Trace.{Call}
use Rattle.outside.specs.Names.{at_cmp}
use Rattle.outside.specs.Changes.{IsIncreasing}
use Rattle.block_versions.specs.local_state.Known.{Lives, FitLives}
use Rattle.store_api.specs.Content.{Id, id_cmp, Changes}
use Rattle.store_api.specs.Holdings.{FitsStore, Changed, IsSpent}
use Rattle.integrity_store.specs.Applied.{Applied}
use Rattle.integrity_store.specs.Draws.{AreDrawn}
use Rattle.block_versions.specs.Held.{Held}
use Rattle.integrity_store.specs.Raising.{BatchEntry, MayComeEach, lives_after_each, some_spent_in, count_new_in, count_new_each}
use Rattle.integrity_store.specs.Sealing.{IsListed}
use Rattle.block_versions.specs.Stores.{IsWhole, meanings_by, holdings_by}
use Rattle.integrity_store.proofs.Applying.{Made, made_of, may_come, may_come_batch, applied, drawn_batch}
use Rattle.integrity_store.proofs.Lives.{count_before, spent_found, found_spent}
use Rattle.integrity_store.proofs.BatchSoundness.{changed}
use Rattle.integrity_store.proofs.Waiting.{test_of}
use Rattle.integrity_store.proofs.Wholeness.{whole_after}

batch_rises : (changes : Changes) (es : List BatchEntry) → es ≡ fin.entries changes → T (is_sorted id_cmp es)
batch_rises changes es are = subst (λ xs. T (is_sorted id_cmp xs)) (sym are) (entries_sorted changes)

found_in : (changes : Changes) (es : List BatchEntry) → es ≡ fin.entries changes → (id : Id) → find id_cmp id es ≡ fin.get changes id
found_in changes es are id = ap (find id_cmp id) are ∙ sym (get-entries changes id)

-- ---- before it

module _ {S : Type 0} (held : S → Held) (trace : S → Option (List Call)) (a : S) (changes : Changes) (es : List BatchEntry) (are : es ≡ fin.entries changes) where
  pub is_spent : some_spent_in (held a).state.lives es ≡ true → IsSpent (holdings_by held trace) a changes
  is_spent some =
      let s = spent_found es (held a).state.lives (batch_rises changes es are) some in
      (s.id, s.payload, sym (found_in changes es are s.id) ∙ s.gets, s.last)

  pub isnt_spent : some_spent_in (held a).state.lives es ≡ false → IsSpent (holdings_by held trace) a changes → ⊥
  isnt_spent none s = let some : some_spent_in (held a).state.lives es ≡ true = found_spent es (held a).state.lives s.0 s.1 (found_in changes es are s.0 ∙ s.2) s.3 in cc

-- ---- once all is listed

-- the files of a batch that fits are listed
pub record Listed {S : Type 0} (held : S → Held) (trace : S → Option (List Call)) (a : S) (m : Held) (changes : Changes) (es : List BatchEntry) (stream left : Stream) : Type 0 where
  pub are : es ≡ fin.entries changes
  pub whole : IsWhole (held a)
  pub fits : FitsStore (holdings_by held trace) a changes
  pub none_spent : some_spent_in (held a).state.lives es ≡ false
  pub lists : IsListed (held a) m es stream left

module _ {S : Type 0} {held : S → Held} {trace : S → Option (List Call)} {a : S} {m : Held} {changes : Changes} {es : List BatchEntry} {stream left : Stream} (l : Listed held trace a m changes es stream left) where
  pub may_come_listed : MayComeEach m.state.lives es
  may_come_listed = subst (λ h. MayComeEach h.state.lives es) (sym l.lists.held) (may_come_batch held trace a changes es l.are l.whole l.fits l.none_spent)

  pub room : (spare : ℕ) → count_new_in m.state.lives es ≤ spare → count_new_each m.state.lives es ≤ spare
  room spare fits = subst (λ n. n ≤ spare) (sym (count_before es m.state.lives (batch_rises changes es l.are))) fits

-- ---- once all is marked

-- the ids of a batch that is listed are raised or buried, and nothing else is done; the ids that are used and what waits were counted
pub record Marked {S : Type 0} (held : S → Held) (trace : S → Option (List Call)) (a b : S) (m : Held) (changes : Changes) (es : List BatchEntry) (stream left : Stream) : Type 0 where
  pub listed : Listed held trace a m changes es stream left
  pub known : Lives
  pub marked : known ≡ lives_after_each m.state.lives es
  pub held_is : held b ≡ record m { state = record m.state { lives = known } }
  pub trace_is : trace b ≡ trace a
  pub fit : FitLives known
  pub few : fin.len known < 2 ^ 64
  pub rises : IsIncreasing m.list
  pub count : length m.list < 2 ^ 64

module _ {S : Type 0} {held : S → Held} {trace : S → Option (List Call)} {a b : S} {m : Held} {changes : Changes} {es : List BatchEntry} {stream left : Stream} (k : Marked held trace a b m changes es stream left) where
  abbrev l : Listed held trace a m changes es stream left
  l = k.listed

  made : Made (held a) (held b) es stream left
  made = subst (λ h. Made (held a) h es stream left) (sym k.held_is) (made_of (held a) m k.known es stream left l.lists k.marked)

  pub applied_batch : Applied (held a) (held b) (trace a) (trace b) changes
  applied_batch = subst (λ t. Applied (held a) (held b) (trace a) t changes) (sym k.trace_is) (applied (held a) (held b) (trace a) changes es stream left l.are made)

  pub drawn_in : AreDrawn changes (held b).list stream left
  drawn_in = drawn_batch (held a) (held b) (trace a) changes es stream left l.are made

  pub whole_batch : IsWhole (held b)
  whole_batch =
      whole_after (held a) (held b) (trace a) (trace b) changes applied_batch l.whole
      (λ id change said. may_come held trace a changes es l.are l.whole l.fits l.none_spent id change (found_in changes es l.are id ∙ said))
      (subst (λ h. FitLives h.state.lives) (sym k.held_is) k.fit) (subst (λ h. fin.len h.state.lives < 2 ^ 64) (sym k.held_is) k.few)
      (subst (λ h. T (is_sorted at_cmp h.list)) (sym k.held_is) (test_of (is_sorted at_cmp m.list) k.rises)) (subst (λ h. length h.list < 2 ^ 64) (sym k.held_is) k.count)

  pub changed_batch : (faults : S → ℕ) (own : S → Type 0) → Changed (meanings_by held trace faults own) (holdings_by held trace) a b changes
  changed_batch faults own = changed held trace faults own a b changes applied_batch whole_batch
