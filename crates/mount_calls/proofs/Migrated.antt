-- Blocks of a mount that were written anew.
use Rattle.std.proofs.Common.{◌≡◌, ◌≤◌, ◌||◌, ℕ, Bool, true, false, List, [], ◌∷◌, map, length, refl, sym, ◌∙◌, ap, subst, inl, inr, arith}
use Rattle.std.specs.Prelude.{T}
use Rattle.std.specs.FinMap.{is_sorted}
use Rattle.std.specs.FinMap.Entries.{below_all}
use Rattle.std.specs.Ordering.{is_eq, is_lt}
use Rattle.std.specs.declared.option.Option.{Option}
use Rattle.std.specs.declared.result.Result.TheVariants.{Ok, Err}
use Rattle.mount_opening.specs.answers.declared.answer.Answer.{Answer}
use Rattle.mount_opening.specs.answers.declared.answer.Answer.TheVariants.{Reply as Replied, Memory}
use Rattle.block_id.proofs.Conditions.{left, right}
use Rattle.block_id.proofs.Orders.{less_so}
use Rattle.block_id.specs.declared.id.BlockId.{BlockId}
use Rattle.mount_opening.specs.data_nodes.Layout.{ids_of}
use Rattle.mount_opening.specs.data_tree.Trees.{NoDoubles}
use Rattle.fs_model.specs.Tree.{Tree}
use Rattle.fs_model.specs.declared.reply.Reply.TheVariants.{Done}
use Rattle.mount_opening.specs.local_state.Known.{Lives, live_ids}
use Rattle.mount_opening.specs.local_state.Record.{IsLeast}
use Rattle.mount.specs.declared.mount.Mount.{Mount}
use Rattle.mount.specs.Answering.{store_of, calls_of}
use Rattle.mount.specs.Mounts.{IsReady}
use Rattle.mount.specs.Tower.{tower}
use Rattle.mount.proofs.Living.{ids_rise}
use Rattle.mount_opening.specs.mount_core.Answers.{OnSpent}
use Rattle.mount_opening.specs.mount_core.Standing.{Left}
use Rattle.std.proofs.lemmas.List.{length-map}
use Rattle.mount_migrating.specs.Migrating.{answer_of, told, AreUnspent, IsSpentAmong, Migrates, Raises}
use Rattle.mount_migrating.specs.declared.error.MigrateError.{MigrateError}
use Rattle.mount_migrating.specs.declared.error.MigrateError.TheVariants as error
use Rattle.mount_migrating.specs.Noticing.{PassesNone}
use Rattle.mount_migrating.proofs.Noticing.{along_same, passes_along}
use Rattle.mount.specs.mount_stores.Tower.{held_in, tower_meanings, tower_holdings, tower_durables}
use Rattle.mount.specs.mount_stores.TowerLaws.{tower_lawful}
use Rattle.outside.specs.Going.{goes_on_same}
use Rattle.outside.specs.Trace.{Call}
use Rattle.outside.specs.declared.keeper.Keeper.{Ghosts as KeeperGhosts}
use Rattle.mount_opening.specs.store_api.Content.{Id, id_cmp, same_id}
use Rattle.mount_opening.specs.store_api.Durables.{Identity}
use Rattle.mount_opening.specs.store_api.Holdings.{has_id}
use Rattle.mount_opening.specs.mount_core.Showing.{ShowsFiles}
use Rattle.mount_calls.specs.Migrating.{ids_in, least_in, tower_applied, MigratesMount}

-- ---- ids that increase

abbrev unmarked : BlockId → Id × ℕ
unmarked id = (id.0, 0)

below_alone : (x : Id) (ids : List BlockId) → T (below_all id_cmp x (map unmarked ids)) → has_id (ids_of ids) x ≡ false
below_alone x [] h = refl
below_alone x (id ∷ ids) h =
    let less = less_so (id_cmp x id.0) (left (is_lt (id_cmp x id.0)) (below_all id_cmp x (map unmarked ids)) h) in
    let other : same_id x id.0 ≡ false = ap is_eq less in
    ap (λ b. b || has_id (ids_of ids) x) other ∙ below_alone x ids (right (is_lt (id_cmp x id.0)) (below_all id_cmp x (map unmarked ids)) h)

alone : (ids : List BlockId) → T (is_sorted id_cmp (map unmarked ids)) → NoDoubles (ids_of ids)
alone [] h = tt
alone (id ∷ ids) h = (
  below_alone id.0 ids (left (below_all id_cmp id.0 (map unmarked ids)) (is_sorted id_cmp (map unmarked ids)) h),
  alone ids (right (below_all id_cmp id.0 (map unmarked ids)) (is_sorted id_cmp (map unmarked ids)) h),
)

pub listed_once : (lives : Lives) (ids : List BlockId) → ids_of ids ≡ live_ids lives → NoDoubles (ids_of ids)
listed_once lives ids all = alone ids (ids_rise lives ids all)

pub is_two : (n : ℕ) → IsLeast n → 2 ≤ n → n ≡ 2
is_two n l h = let t = l.to_two in omega (arith, t, h)

pub is_one : (n : ℕ) → IsLeast n → n ≤ 1 → n ≡ 1
is_one n l h = let f = l.from_one in omega (arith, f, h)

module _ {V : Type 0} {K : Type 0} (trace : V → Option (List Call)) (faults : V → ℕ) (G : KeeperGhosts K) where
  -- ---- nothing was done

  raises_none : (mount : Mount V K) → Raises (tower_holdings trace) (store_of mount) (store_of mount) (ids_in mount)
  raises_none mount = record { raised = λ id. omega arith; rests = λ id none. refl }

  abbrev Noticed : Mount V K → Answer → Mount V K → Type 0
  Noticed old answer new = PassesNone (tower_meanings trace faults) (tower_holdings trace) (tower_durables trace) (tower_applied trace) (store_of old) answer (store_of new)

  noticed_none : (mount : Mount V K) (answer : Answer) → Noticed mount answer mount
  noticed_none mount answer =
      let M = tower_meanings trace faults in
      let H = tower_holdings trace in
      let D = tower_durables trace in
      let a = store_of mount in
      passes_along M H D (tower_applied trace) a a answer (along_same M H D (tower_applied trace) (tower_lawful trace faults) a answer)

  pub migrates_none : (mount : Mount V K) → IsReady trace faults G mount → mount.core.violated ≡ false → least_in mount ≡ 2 → MigratesMount ShowsFiles trace faults G mount (Ok 0) mount
  migrates_none mount ready fresh two = record {
    opened = refl;
    violated = fresh;
    count = inl (two, refl, refl);
    stands = λ kept now s few. inl s;
    synced = λ one. absurd (cc (sym two ∙ one));
    configures = λ may now c. c;
    alarm = λ kept now s honest. refl;
    of_blocks = refl;
    found = tt;
    noticed = noticed_none mount (Replied Done);
    spent = tt;
    unspent = λ one. absurd (cc (sym two ∙ one));
    raises = raises_none mount;
    older = tt;
    least = tt;
    kept = λ unchanged. record {
      state = (held_in (store_of mount)).state;
      keeps = record { bytes = mount.core.saver.last.items; kept = ready.core.whole.kept unchanged; is_record = ready.core.whole.last unchanged };
      unmarked = ap (λ (i : Identity). i.marked) ready.identity;
      least = two;
    };
    unchanged = λ unchanged. unchanged;
    goes_on = goes_on_same (calls_of trace mount);
    forgeries = omega arith;
    lies = omega arith;
    unforged = λ sound honest. omega arith;
    vault_cause = omega arith;
    vault_quiet = λ none. refl;
    keeper_cause = omega arith;
    keeper_quiet = λ none calm. refl;
    marked = λ bad. absurd (cc bad);
  }

  -- there was no memory for the ids
  pub migrates_unlisted : (mount : Mount V K) → mount.core.violated ≡ false → least_in mount ≡ 1 → MigratesMount ShowsFiles trace faults G mount (Err error.Memory) mount
  migrates_unlisted mount fresh one = record {
    opened = refl;
    violated = fresh;
    count = tt;
    stands = λ kept now s few. inl s;
    synced = tt;
    configures = λ may now c. c;
    alarm = λ kept now s honest. refl;
    of_blocks = refl;
    found = tt;
    noticed = noticed_none mount Memory;
    spent = tt;
    unspent = tt;
    raises = raises_none mount;
    older = one;
    least = one;
    kept = tt;
    unchanged = tt;
    goes_on = goes_on_same (calls_of trace mount);
    forgeries = omega arith;
    lies = omega arith;
    unforged = λ sound honest. omega arith;
    vault_cause = omega arith;
    vault_quiet = λ none. refl;
    keeper_cause = omega arith;
    keeper_quiet = λ none calm. refl;
    marked = λ bad. absurd (cc bad);
  }

  -- ---- the blocks were written anew, or an error was met

  module _ (old new : Mount V K) (ids : List BlockId) (same : new.opened ≡ old.opened) (all : ids_of ids ≡ ids_in old) (one : least_in old ≡ 1) where
    -- as a line with that answer leaves it
    left_so : (bad : Bool) (done : Bool) (kept now : Tree) → Left ShowsFiles (tower trace faults G) new.core kept now now bad done → Left ShowsFiles (tower trace faults G) new.core kept now now bad false
    left_so true done kept now l = l
    left_so false true kept now l = inr l
    left_so false false kept now l = l

    pub migrates_all : (count : ℕ) → count ≡ length ids → ((tower_durables trace).identity (store_of old)).marked ≡ false → (m : Migrates ShowsFiles (tower trace faults G) old.core (ids_of ids) (Ok tt) new.core) → Noticed old (Replied Done) new → MigratesMount ShowsFiles trace faults G old (Ok count) new
    migrates_all count is unmarked_store m noticed = record {
      opened = same;
      violated = m.violated;
      count = inr (one, is ∙ (sym (length-map ids (λ id. id.0)) ∙ ap length all));
      stands = λ kept now s few. left_so false true kept now (m.stands kept now s few);
      synced = λ level kept now s few. m.stands kept now s few;
      configures = m.configures;
      alarm = m.alarm;
      of_blocks = m.of_blocks;
      found = m.found;
      noticed = noticed;
      spent = tt;
      unspent = λ level. subst (AreUnspent (tower_holdings trace) (store_of old)) all m.unspent;
      raises = subst (Raises (tower_holdings trace) (store_of old) (store_of new)) all m.raises;
      older = tt;
      least = tt;
      kept = λ unchanged. record { state = (held_in (store_of new)).state; keeps = record { bytes = m.done.bytes; kept = m.done.kept; is_record = m.done.is_record }; unmarked = ap (λ (i : Identity). i.marked) m.identity ∙ unmarked_store; least = m.done.least };
      unchanged = λ unchanged. m.done.unchanged;
      goes_on = m.goes_on;
      forgeries = m.forgeries;
      lies = m.lies;
      unforged = m.unforged;
      vault_cause = m.vault_cause;
      vault_quiet = m.vault_quiet;
      keeper_cause = m.keeper_cause;
      keeper_quiet = m.keeper_quiet;
      marked = m.marked;
    }

    pub migrates_failed : (e : MigrateError) → (m : Migrates ShowsFiles (tower trace faults G) old.core (ids_of ids) (Err e) new.core) → Noticed old (answer_of e) new → MigratesMount ShowsFiles trace faults G old (Err e) new
    migrates_failed e m noticed = record {
      opened = same;
      violated = m.violated;
      count = tt;
      stands = m.stands;
      synced = tt;
      configures = m.configures;
      alarm = m.alarm;
      of_blocks = m.of_blocks;
      found = m.found;
      noticed = noticed;
      spent = subst (λ xs. OnSpent (told {T = ℕ} (Err e)) (IsSpentAmong (tower_holdings trace) (store_of old) xs)) all m.spent;
      unspent = tt;
      raises = subst (Raises (tower_holdings trace) (store_of old) (store_of new)) all m.raises;
      older = one;
      least = m.least one;
      kept = tt;
      unchanged = tt;
      goes_on = m.goes_on;
      forgeries = m.forgeries;
      lies = m.lies;
      unforged = m.unforged;
      vault_cause = m.vault_cause;
      vault_quiet = m.vault_quiet;
      keeper_cause = m.keeper_cause;
      keeper_quiet = m.keeper_quiet;
      marked = m.marked;
    }
