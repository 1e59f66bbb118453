-- What is kept, and what it stands for, after the steps of a sync.
use Rattle.std.proofs.Common.{◌≡◌, ◌⊎◌, ◌≤◌, ℕ, Bool, true, false, List, [], length, Option, Some, refl, sym, ◌∙◌, ap, subst, inl, inr, arith}
use Rattle.std.specs.Prelude.{Result, Ok, Err, IsErrOf}
use Rattle.store_api.specs.store_outcome.Meanings.{Meanings}
use Rattle.outside.specs.Causes.{RoseBy}
use Rattle.outside.specs.Going.{GoesOn, goes_on_same, goes_on_writes}
use Rattle.outside.specs.Writes.{after_writes}
use Rattle.outside.specs.declared.keeper.Keeper.{Ghosts as KeeperGhosts}
use Rattle.store_api.specs.Content.{Content, Changes, SameContent}
use Rattle.store_api.specs.Durables.{Identity, Durables, Records, Enduring}
use Rattle.store_api.specs.Holdings.{Holdings, Stays}
use Rattle.record_saver.specs.Saving.{RepresentsContent, KeptConfigures, Whole, CanMark, IsRecordOf, Unmoved, Saved, SavedConfig, LastAfterLong, UnlessDirectory, UnlessState, world, IsLongKept, Leaves, Moves, Finishes, Syncs}
use Rattle.record_saver.specs.declared.saver.Saver.{Saver}
use Rattle.record_saver.specs.declared.saver.SyncError.{SyncError}
use Rattle.record_saver.specs.declared.saver.SyncError.TheVariants.{Memory, FaultDirectory, FaultState}
use Rattle.block_id.proofs.Conditions.{no_fewer}

pub true_is_false : true ≡ false → ⊥
true_is_false e = cc

-- ---- numbers and answers

pub memory_directory : IsErrOf {T = Unit} (Err Memory) FaultDirectory → ⊥
memory_directory is = cc

pub memory_state : IsErrOf {T = Unit} (Err Memory) FaultState → ⊥
memory_state is = cc

pub directory_state : IsErrOf {T = Unit} (Err FaultDirectory) FaultState → ⊥
directory_state is = cc

pub state_directory : IsErrOf {T = Unit} (Err FaultState) FaultDirectory → ⊥
state_directory is = cc

pub ok_no_error : (e : SyncError) → IsErrOf {T = Unit} (Ok tt) e → ⊥
ok_no_error e is = cc

-- what follows where the directory didn't fail
pub unless_directory : (result : Result Unit SyncError) (P Q : Type 0) → (P → Q) → UnlessDirectory result P → UnlessDirectory result Q
unless_directory (Ok x) P Q f h = f h
unless_directory (Err Memory) P Q f h = f h
unless_directory (Err FaultDirectory) P Q f h = tt
unless_directory (Err FaultState) P Q f h = f h

-- what follows where the keeper didn't fail
pub unless_state : (result : Result Unit SyncError) (P Q : Type 0) → (P → Q) → UnlessState result P → UnlessState result Q
unless_state (Ok x) P Q f h = f h
unless_state (Err Memory) P Q f h = f h
unless_state (Err FaultDirectory) P Q f h = f h
unless_state (Err FaultState) P Q f h = tt

pub stays_same : {S : Type 0} (H : Holdings S) (store : S) → Stays H store store
stays_same H store = record { ids = λ id. refl; content = λ told id. refl; told = refl; used = refl; spent = λ id. refl; version = λ id. refl; payload = refl }

-- ---- what is kept

-- what was kept stays kept, or this record is
pub kept_or_new : (kept mid old : Option (List ℕ)) (bytes new : List ℕ) → (kept ≡ mid) ⊎ (kept ≡ Some bytes) → mid ≡ old → bytes ≡ new → (kept ≡ old) ⊎ (kept ≡ Some new)
kept_or_new kept mid old bytes new (inl same) e n = inl (same ∙ e)
kept_or_new kept mid old bytes new (inr is) e n = inr (is ∙ ap Some n)

-- what was kept is the long record, and stays kept or the short one is
pub kept_either : (kept old : Option (List ℕ)) (last bytes short : List ℕ) → (kept ≡ old) ⊎ (kept ≡ Some bytes) → old ≡ Some last → bytes ≡ short → (kept ≡ Some last) ⊎ (kept ≡ Some short)
kept_either kept old last bytes short (inl same) long is = inl (same ∙ long)
kept_either kept old last bytes short (inr new) long is = inr (new ∙ ap Some is)

pub kept_record : {S : Type 0} (D : Durables S) (store : S) (kept : Option (List ℕ)) (last short : List ℕ) → (kept ≡ Some last) ⊎ (kept ≡ Some short) → D.is_record store true last → D.is_record store false short → IsRecordOf D store kept
kept_record D store kept last short (inl is) long also = (last, true, is, long)
kept_record D store kept last short (inr is) long also = (short, false, is, also)

-- one of two records is kept, which both have this
pub of_either : (P : List ℕ → Type 0) (kept : Option (List ℕ)) (long short : List ℕ) → (kept ≡ Some long) ⊎ (kept ≡ Some short) → P long → P short → (bytes : List ℕ) × (kept ≡ Some bytes) × P bytes
of_either P kept long short (inl is) l s = (long, is, l)
of_either P kept long short (inr is) l s = (short, is, s)

module _ {S : Type 0} {K : Type 0} (M : Meanings S) (H : Holdings S) (D : Durables S) (R : Records) (G : KeeperGhosts K) where
  pub may_mark : (applied : S → S → Changes → Type 0) → Enduring M H applied D R → (saver : Saver K) (store : S) (with_list : Bool) → D.is_record store with_list saver.last.items → CanMark R saver
  may_mark applied endures saver store with_list is = record {
    marks = endures.marked store with_list saver.last.items is;
    long = endures.long store with_list saver.last.items is;
    plain = endures.plain_marked store with_list saver.last.items is;
  }

  -- what is written now is a record, where what was handed in is what is written
  pub written_is : (applied : S → S → Changes → Type 0) → Enduring M H applied D R → (store : S) (with_list : Bool) (bytes : List ℕ) → M.intact store → bytes ≡ D.local_record_of store with_list → D.is_record store with_list bytes
  written_is applied endures store with_list bytes intact is = subst (D.is_record store with_list) (sym is) (endures.written store with_list intact)

  -- all records with the list say the same of the configuration's file
  pub any_configures : (applied : S → S → Changes → Type 0) → Enduring M H applied D R → (store : S) (kept other bytes : List ℕ) → D.is_record store true kept → D.is_record store true other
      → R.configures kept (D.trace store) bytes → R.configures other (D.trace store) bytes
  any_configures applied endures store kept other bytes is also said = endures.configures_now store other bytes also (endures.configured_now store kept bytes is said)

  -- something changed
  pub whole_changed : (saver : Saver K) (store : S) → saver.changed ≡ true → Whole D G saver store
  whole_changed saver store e = record { kept = λ u. absurd (true_is_false (sym e ∙ u)); last = λ u. absurd (true_is_false (sym e ∙ u)); none = λ u. absurd (true_is_false (sym e ∙ u)) }

  pub goes_on_written : (before after : S) → D.trace after ≡ after_writes (D.list before) (D.trace before) → GoesOn (D.trace before) (D.trace after)
  goes_on_written before after writes = subst (λ t. GoesOn (D.trace before) t) (sym writes) (goes_on_writes (D.list before) (D.trace before))

  -- before anything is written
  pub unwritten_stands : (applied : S → S → Changes → Type 0) → Enduring M H applied D R → (store : S) (kept : List ℕ) (now : Content) → M.intact store → M.sound store → (D.identity store).marked ≡ false → D.is_record store true kept
      → SameContent now (H.content store) → R.stands (D.identity store) kept (D.trace store) now
  unwritten_stands applied endures store kept now intact sound unmarked is same =
      endures.stands_same (D.identity store) kept (D.trace store) (H.content store) now (λ id. sym (same id)) (endures.stands_now store kept intact sound unmarked is)

  -- a long record, while the list is written
  pub long_stands : (applied : S → S → Changes → Type 0) → Enduring M H applied D R → (before after : S) (kept : List ℕ) (now : Content) → D.identity after ≡ D.identity before → SameContent now (H.content before)
      → R.stands (D.identity before) kept (D.trace after) (H.content before) → R.stands (D.identity after) kept (D.trace after) now
  long_stands applied endures before after kept now identity same stands =
      subst (λ i. R.stands i kept (D.trace after) now) (sym identity) (endures.stands_same (D.identity before) kept (D.trace after) (H.content before) now (λ id. sym (same id)) stands)

  -- a short record, once nothing waits
  pub short_stands : (applied : S → S → Changes → Type 0) → Enduring M H applied D R → (before after : S) (short : List ℕ) (now : Content) → M.intact after → M.sound after → (D.identity before).marked ≡ false → D.identity after ≡ D.identity before
      → D.list after ≡ [] → D.is_record after false short → SameContent (H.content before) (H.content after) → SameContent now (H.content before) → R.stands (D.identity after) short (D.trace after) now
  short_stands applied endures before after short now intact sound unmarked identity none is content same =
      unwritten_stands applied endures after short now intact sound (ap (λ (i : Identity). i.marked) identity ∙ unmarked) (endures.same_record after short none is) (λ id. content id ∙ same id)

  pub short_configures : (applied : S → S → Changes → Type 0) → Enduring M H applied D R → (store : S) (short bytes : List ℕ) → M.intact store → D.list store ≡ [] → D.is_record store false short
      → R.configures (D.local_record_of store true) (D.trace store) bytes → R.configures short (D.trace store) bytes
  short_configures applied endures store short bytes intact none is =
      any_configures applied endures store (D.local_record_of store true) short bytes (endures.written store true intact) (endures.same_record store short none is)

  -- ---- what a sync kept

  pub saved : (old new : Saver K) (before after : S) (now : Content) (result : Result Unit SyncError) → RepresentsContent R (D.identity after) (G.kept new.keeper) (D.trace after) now → Saved D R G old before new after now result
  saved old new before after now (Ok x) h = h
  saved old new before after now (Err e) h = inr h

  pub saved_config : (old new : Saver K) (before after : S) (bytes : List ℕ) (result : Result Unit SyncError) → KeptConfigures R (G.kept new.keeper) (D.trace after) bytes → SavedConfig D R G old before new after bytes result
  saved_config old new before after bytes (Ok x) h = h
  saved_config old new before after bytes (Err e) h = inr h

  -- the save of the long record failed
  pub failed_save : (P : List ℕ → Type 0) (old new : Saver K) (store : S) → (G.kept new.keeper ≡ G.kept old.keeper) ⊎ (G.kept new.keeper ≡ Some (D.local_record_of store true)) → P (D.local_record_of store true)
      → Unmoved D G old store new store ⊎ ((bytes : List ℕ) × (G.kept new.keeper ≡ Some bytes) × P bytes)
  failed_save P old new store (inl same) h = inl (record { kept = same; trace = refl })
  failed_save P old new store (inr is) h = inr (D.local_record_of store true, is, h)

  pub kept_or_record : (store : S) (kept old : Option (List ℕ)) → D.is_record store true (D.local_record_of store true) → (kept ≡ old) ⊎ (kept ≡ Some (D.local_record_of store true)) → (kept ≡ old) ⊎ IsRecordOf D store kept
  kept_or_record store kept old long (inl same) = inl same
  kept_or_record store kept old long (inr is) = inr (D.local_record_of store true, true, is, long)

  -- ---- whole calls

  -- the directory wasn't called
  pub leaves_same : (a : S) (k l : K) (result : Result Unit SyncError) → G.faults k ≤ G.faults l → (IsErrOf result FaultDirectory → ⊥) → UnlessDirectory result (M.faults a ≡ M.faults a)
      → (IsErrOf result FaultState → RoseBy 1 (G.faults k) (G.faults l)) → UnlessState result (G.faults l ≡ G.faults k) → Leaves (world M H D R G) a k a l result
  leaves_same a k l result grows none still rose quiet = record {
    identity = refl;
    least = refl;
    stays = stays_same H a;
    sound = λ sound. sound;
    goes_on = goes_on_same (D.trace a);
    forgeries = refl;
    lies = refl;
    vault_grows = no_fewer (M.faults a) (M.faults a) refl;
    vault_cause = λ is. absurd (none is);
    vault_quiet = still;
    keeper_grows = grows;
    keeper_cause = rose;
    keeper_quiet = quiet;
  }

  -- nor was the keeper
  pub leaves_memory : (a : S) (k l : K) → G.faults l ≡ G.faults k → Leaves (world M H D R G) a k a l (Err Memory)
  leaves_memory a k l calm = leaves_same a k l (Err Memory) (no_fewer (G.faults k) (G.faults l) calm) memory_directory refl (λ is. absurd (memory_state is)) calm

  pub leaves_to : (a b c : S) (k l : K) (result : Result Unit SyncError) → c ≡ b → Leaves (world M H D R G) a k b l result → Leaves (world M H D R G) a k c l result
  leaves_to a b c k l result same z = subst (λ s. Leaves (world M H D R G) a k s l result) (sym same) z

  -- the keeper's count had been the same before
  pub leaves_since : (a b : S) (k m l : K) (result : Result Unit SyncError) → G.faults m ≡ G.faults k → Leaves (world M H D R G) a m b l result → Leaves (world M H D R G) a k b l result
  leaves_since a b k m l result calm z = record {
    identity = z.identity;
    least = z.least;
    stays = z.stays;
    sound = z.sound;
    goes_on = z.goes_on;
    forgeries = z.forgeries;
    lies = z.lies;
    vault_grows = z.vault_grows;
    vault_cause = z.vault_cause;
    vault_quiet = z.vault_quiet;
    keeper_grows = subst (λ n. n ≤ G.faults l) calm z.keeper_grows;
    keeper_cause = λ is. subst (λ n. RoseBy 1 n (G.faults l)) calm (z.keeper_cause is);
    keeper_quiet = unless_state result (G.faults l ≡ G.faults m) (G.faults l ≡ G.faults k) (λ e. e ∙ calm) z.keeper_quiet;
  }

  pub moves_since : (old mid new : Saver K) (a b : S) (result : Result Unit SyncError) → G.faults mid.keeper ≡ G.faults old.keeper → Moves (world M H D R G) mid a new b result → Moves (world M H D R G) old a new b result
  moves_since old mid new a b result calm z = record {
    leaves = leaves_since a b old.keeper mid.keeper new.keeper result calm z.leaves;
    intact = z.intact;
    room = z.room;
    whole = z.whole;
    ok = z.ok;
    err = z.err;
    writes = z.writes;
    wrote = z.wrote;
    waiting = z.waiting;
    present = z.present;
  }

  -- an error before the directory was called
  pub moves_stopped : (applied : S → S → Changes → Type 0) → Enduring M H applied D R → (old new : Saver K) (a : S) (e : SyncError) → M.intact a → length new.last.items ≤ G.room new.keeper → new.changed ≡ true → Leaves (world M H D R G) a old.keeper a new.keeper (Err e)
      → Moves (world M H D R G) old a new a (Err e)
  moves_stopped applied endures old new a e intact room changed leaves = record {
    leaves = leaves;
    intact = intact;
    room = room;
    whole = whole_changed new a changed;
    ok = tt;
    err = changed;
    writes = tt;
    wrote = inl refl;
    waiting = λ kept bytes is h. h;
    present = λ kept bytes told is h. any_configures applied endures a kept (D.local_record_of a true) bytes is (endures.written a true intact) h;
  }

  -- want of memory before the first call
  pub moves_memory : (applied : S → S → Changes → Type 0) → Enduring M H applied D R → (old : Saver K) (keeper : K) (a : S) → M.intact a → length old.last.items ≤ G.room old.keeper → old.changed ≡ true → G.room old.keeper ≤ G.room keeper → G.faults keeper ≡ G.faults old.keeper
      → Moves (world M H D R G) old a (record old { keeper = keeper }) a (Err Memory)
  moves_memory applied endures old keeper a intact fits changed room calm = moves_stopped applied endures old (record old { keeper = keeper }) a Memory intact (omega (arith, fits, room)) changed (leaves_memory a old.keeper keeper calm)

  -- a long record stays
  pub finishes_long : (applied : S → S → Changes → Type 0) → Enduring M H applied D R → (old new : Saver K) (a b : S) (result : Result Unit SyncError) → G.kept new.keeper ≡ G.kept old.keeper → D.is_record a true new.last.items → G.kept new.keeper ≡ Some new.last.items → LastAfterLong D G a new result
      → D.identity b ≡ D.identity a → ((kept bytes : List ℕ) → D.is_record a true kept → R.configures kept (D.trace a) bytes → R.configures kept (D.trace b) bytes)
      → ((kept : List ℕ) → M.sound a → (D.identity a).marked ≡ false → D.is_record a true kept → R.stands (D.identity a) kept (D.trace b) (H.content a)) → Finishes (world M H D R G) old a new b result
  finishes_long applied endures old new a b result same last kept after identity waiting stands = record {
    stands = λ now sound unmarked is. (new.last.items, kept, long_stands applied endures a b new.last.items now identity is (stands new.last.items sound unmarked last));
    configures = λ k bytes told is h. (new.last.items, kept, waiting new.last.items bytes last (any_configures applied endures a k new.last.items bytes is last h));
    last = after;
    stands_last = λ now sound unmarked is. long_stands applied endures a b new.last.items now identity is (stands new.last.items sound unmarked last);
    keeps = inl same;
    can_mark = may_mark applied endures new a true last;
  }

  -- what is kept had been the same before
  pub finishes_since : (old mid new : Saver K) (a b : S) (result : Result Unit SyncError) → G.kept mid.keeper ≡ G.kept old.keeper → Finishes (world M H D R G) mid a new b result → Finishes (world M H D R G) old a new b result
  finishes_since old mid new a b result same z = record {
    stands = z.stands;
    configures = z.configures;
    last = z.last;
    stands_last = z.stands_last;
    keeps = elim z.keeps [ inl stays ↦ inl (stays ∙ same) | inr short ↦ inr short ];
    can_mark = z.can_mark;
  }

  pub syncs_memory : (old : Saver K) (keeper : K) (a : S) → old.changed ≡ true → G.kept keeper ≡ G.kept old.keeper → Syncs (world M H D R G) old a (record old { keeper = keeper }) a (Err Memory)
  syncs_memory old keeper a changed kept = record {
    unchanged = λ e. absurd (true_is_false (sym changed ∙ e));
    stands = λ now sound unmarked same. inl (record { kept = kept; trace = refl });
    configures = λ k bytes told is h. inl (record { kept = kept; trace = refl });
    last = inl (refl, refl, kept);
    stands_last = λ was now h sound unmarked same. inl h;
    keeps = inl kept;
    can_mark = λ can. record { marks = can.marks; long = can.long; plain = can.plain };
  }

  -- the later two steps after the first
  pub syncs_on : (old mid new : Saver K) (a b : S) (long : List ℕ) (result : Result Unit SyncError) → old.changed ≡ true → G.kept mid.keeper ≡ Some long → D.is_record a true long → Finishes (world M H D R G) mid a new b result
      → Syncs (world M H D R G) old a new b result
  syncs_on old mid new a b long result changed kept is z = record {
    unchanged = λ e. absurd (true_is_false (sym changed ∙ e));
    stands = λ now sound unmarked same. saved old new a b now result (z.stands now sound unmarked same);
    configures = λ k bytes told also h. saved_config old new a b bytes result (z.configures k bytes told also h);
    last = inr z.last;
    stands_last = λ was now h sound unmarked same. inr (z.stands_last now sound unmarked same);
    keeps = inr (elim z.keeps [ inl stays ↦ (long, true, stays ∙ kept, is) | inr short ↦ (short.0, false, short.1, short.2) ]);
    can_mark = λ can. z.can_mark;
  }

  -- ---- a store that is the same afterwards: what is said of it as it was is said of it as it is

  pub record_after : (a b : S) (with_list : Bool) (bytes : List ℕ) → b ≡ a → D.is_record a with_list bytes → D.is_record b with_list bytes
  record_after a b with_list bytes same is = subst (λ s. D.is_record s with_list bytes) (sym same) is

  pub moves_to : (old new : Saver K) (a b c : S) (result : Result Unit SyncError) → c ≡ b → Moves (world M H D R G) old a new b result → Moves (world M H D R G) old a new c result
  moves_to old new a b c result same z = subst (λ s. Moves (world M H D R G) old a new s result) (sym same) z

  pub moves_from : (old new : Saver K) (a b c : S) (result : Result Unit SyncError) → b ≡ a → Moves (world M H D R G) old b new c result → Moves (world M H D R G) old a new c result
  moves_from old new a b c result same z = subst (λ s. Moves (world M H D R G) old s new c result) same z

  pub finishes_to : (old new : Saver K) (a b c : S) (result : Result Unit SyncError) → c ≡ b → Finishes (world M H D R G) old a new b result → Finishes (world M H D R G) old a new c result
  finishes_to old new a b c result same z = subst (λ s. Finishes (world M H D R G) old a new s result) (sym same) z

  pub finishes_from : (old new : Saver K) (a b c : S) (result : Result Unit SyncError) → b ≡ a → Finishes (world M H D R G) old b new c result → Finishes (world M H D R G) old a new c result
  finishes_from old new a b c result same z = subst (λ s. Finishes (world M H D R G) old s new c result) same z

  pub syncs_to : (old new : Saver K) (a b c : S) (result : Result Unit SyncError) → c ≡ b → Syncs (world M H D R G) old a new b result → Syncs (world M H D R G) old a new c result
  syncs_to old new a b c result same z = subst (λ s. Syncs (world M H D R G) old a new s result) (sym same) z

  pub long_kept_to : (saver : Saver K) (a b : S) → b ≡ a → IsLongKept (world M H D R G) saver a → IsLongKept (world M H D R G) saver b
  long_kept_to saver a b same z = subst (λ s. IsLongKept (world M H D R G) saver s) (sym same) z
