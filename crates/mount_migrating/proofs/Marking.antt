-- A violation, marked; and any other end.
use Rattle.std.proofs.Common.{◌≡◌, ◌⊎◌, ◌≤◌, Bool, true, false, List, refl, sym, ◌∙◌, ap, subst, inl, inr, arith}
use Rattle.std.specs.Prelude.{Result, OnOk}
use Rattle.std.specs.declared.option.Option.TheVariants.{Some}
use Rattle.std.specs.declared.result.Result.TheVariants.{Ok, Err}
use Rattle.mount_answering.specs.answers.Sessions.{is_violation}
use Rattle.block_id.specs.declared.fail.Why.{Why}
use Rattle.fs_model.specs.Tree.{Tree}
use Rattle.mount_answering.specs.store_outcome.Meanings.{Meanings}
use Rattle.outside.specs.Causes.{RoseBy}
use Rattle.outside.specs.Going.{GoesOn}
use Rattle.outside.specs.declared.keeper.Keeper.{Ghosts as KeeperGhosts}
use Rattle.mount_answering.specs.record_saver.Saving.{world, CanMark}
use Rattle.mount_answering.specs.store_api.Content.{Changes, Id, SameIds}
use Rattle.mount_answering.specs.store_api.Durables.{Durables, Records, Enduring, with_mark}
use Rattle.mount_answering.specs.store_api.Holdings.{Holdings}
use Rattle.mount_answering.specs.store_api.declared.tx.Tx.{Tx}
use Rattle.mount_answering.specs.mount_core.Showing.{Showing}
use Rattle.mount_answering.specs.mount_core.declared.body.Core.{Core}
use Rattle.mount_answering.specs.mount_core.Answering.{store_of}
use Rattle.mount_answering.specs.mount_core.Answers.{OnFound}
use Rattle.mount_answering.specs.mount_core.Standing.{CoreStands, IsKeptMarked, Keeps, Left, Roomed}
use Rattle.mount_answering.proofs.mount_core_lemmas.Moving.{keeps_along}
use Rattle.mount_answering.proofs.Lines.{config_calm, config_marked, marked_or, true_is_false}
use Rattle.mount_migrating.specs.Migrating.{told, is_done, IsFoundSince, Migrates, Moves, Raises}
use Rattle.mount_migrating.specs.declared.error.MigrateError.{MigrateError}
use Rattle.mount_migrating.specs.declared.error.MigrateError.TheVariants as error

module _ {S : Type 0} {K : Type 0} (shows : Showing) (M : Meanings S) (H : Holdings S) (D : Durables S) (R : Records) (G : KeeperGhosts K) where
  -- ---- no violation

  left_by : (core : Core S K) (kept now : Tree) (bad : Bool) (result : Result Unit MigrateError) → bad ≡ false → Roomed shows (world M H D R G) core kept now
      → OnOk result (CoreStands shows (world M H D R G) core now now) → Left shows (world M H D R G) core kept now now bad (is_done result)
  left_by core kept now true result e s done = absurd (true_is_false e)
  left_by core kept now false (Ok u) e s done = done
  left_by core kept now false (Err x) e s done = s

  pub ended : (old new : Core S K) (ids : List Id) (result : Result Unit MigrateError) → old.violated ≡ false → is_violation (told result) ≡ false → Moves shows (world M H D R G) old ids result new → Migrates shows (world M H D R G) old ids result new
  ended old new ids result fresh calm m =
      let p = m.proceeds in
      let r = m.reason in
      record {
        violated = p.violated ∙ (fresh ∙ sym calm);
        root = p.root;
        identity = p.identity;
        payload = p.payload;
        same_ids = p.ids;
        goes_on = p.goes_on;
        forgeries = p.forgeries;
        lies = p.lies;
        unforged = p.unforged;
        stands = λ kept now s few. left_by new kept now (is_violation (told result)) result calm (p.stands kept now s few) (given result m.kept kept now s few);
        configures = λ may now c. config_calm shows M H D R G new may now (is_violation (told result)) calm (p.configures may now c);
        alarm = r.alarm;
        of_blocks = r.of_blocks;
        found = r.found;
        spent = r.spent;
        unspent = m.unspent;
        raises = m.raises;
        done = m.done;
        least = m.least;
        vault_cause = r.vault_cause;
        vault_quiet = r.vault_quiet;
        keeper_cause = r.keeper_cause;
        keeper_quiet = λ none fine. r.keeper_quiet none;
        marked = λ bad. absurd (true_is_false (sym bad ∙ calm));
      }
    where
      given : (result : Result Unit MigrateError)
          → OnOk result ((kept now : Tree) → CoreStands shows (world M H D R G) old kept now → M.forgeries (store_of new) ≤ M.forgeries (store_of old) → CoreStands shows (world M H D R G) new now now)
          → (kept now : Tree) → CoreStands shows (world M H D R G) old kept now → M.forgeries (store_of new) ≤ M.forgeries (store_of old) → OnOk result (CoreStands shows (world M H D R G) new now now)
      given (Ok u) f kept now s few = f kept now s few
      given (Err x) f kept now s few = tt

  -- ---- a violation

  module _ (mid new : Core S K) (tx : new.blobs.tx ≡ mid.blobs.tx) (root : new.root ≡ mid.root) where
    keeps : (tree : Tree) → G.kept new.saver.keeper ≡ G.kept mid.saver.keeper
        → Keeps R (shows (H.payload (store_of mid)) mid.root.0) (D.identity (store_of mid)) (G.kept mid.saver.keeper) (D.trace (store_of mid)) tree
        → Keeps R (shows (H.payload (store_of new)) new.root.0) (D.identity (store_of new)) (G.kept new.saver.keeper) (D.trace (store_of new)) tree
    keeps tree same k =
        keeps_along shows R _ _ _ _ _ _ _ _ _ _ tree (ap (λ (t : Tx S). H.payload t.store) tx) (ap (λ x. x.0) root) (ap (λ (t : Tx S). D.identity t.store) tx) same (ap (λ (t : Tx S). D.trace t.store) tx) k

    pub left_marked : (kept now : Tree) (synced : Bool) → IsKeptMarked R (G.kept new.saver.keeper) ⊎ (G.kept new.saver.keeper ≡ G.kept mid.saver.keeper) → Roomed shows (world M H D R G) mid kept now
        → Left shows (world M H D R G) new kept now now true synced
    left_marked kept now synced (inl m) s = inl m
    left_marked kept now synced (inr same) (inl s) = inr (inl (keeps kept same s.keeps))
    left_marked kept now synced (inr same) (inr s) = inr (inr (keeps now same s.keeps))

  pub condemned : (applied : S → S → Changes → Type 0) → Enduring M H applied D R → (old mid new : Core S K) (ids : List Id) (why : Why) → Moves shows (world M H D R G) old ids (Err (error.Violation why)) mid
      → CanMark R mid.saver → new.blobs.tx ≡ mid.blobs.tx → new.root ≡ mid.root → new.violated ≡ true
      → (G.kept new.saver.keeper ≡ Some (with_mark mid.saver.last.items)) ⊎ (G.kept new.saver.keeper ≡ G.kept mid.saver.keeper)
      → IsKeptMarked R (G.kept new.saver.keeper) ⊎ RoseBy 1 (G.faults mid.saver.keeper) (G.faults new.saver.keeper) → G.faults mid.saver.keeper ≤ G.faults new.saver.keeper
      → Migrates shows (world M H D R G) old ids (Err (error.Violation why)) new
  condemned applied endures old mid new ids why m can tx root violated kept marked grows =
      let p = m.proceeds in
      let r = m.reason in
      let e : store_of new ≡ store_of mid = ap (λ (t : Tx S). t.store) tx in
      let pf = p.forgeries in
      let pl = p.lies in
      let ef = ap M.forgeries e in
      let el = ap M.lies e in
      let ev = ap M.faults e in
      let rv = r.vault_cause in
      let rk = r.keeper_cause in
      let quiet = r.keeper_quiet refl in
      record {
        violated = violated;
        root = root ∙ p.root;
        identity = ap D.identity e ∙ p.identity;
        payload = ap H.payload e ∙ p.payload;
        same_ids = subst (λ s. SameIds (H.content (store_of old)) (H.content s)) (sym e) p.ids;
        goes_on = subst (λ s. GoesOn (D.trace (store_of old)) (D.trace s)) (sym e) p.goes_on;
        forgeries = omega (arith, pf, ef);
        lies = omega (arith, pl, el);
        unforged = λ sound honest. let u = p.unforged sound (omega (arith, el, honest)) in omega (arith, ef, u);
        stands = λ k now s few. left_marked mid new tx root k now false (marked_or R mid.saver (G.kept new.saver.keeper) can kept) (p.stands k now s (omega (arith, ef, few)));
        configures = λ may now c. config_marked shows M H D R G endures.marked_configures mid new may now tx kept (p.configures may now c);
        alarm = λ k now s honest. r.alarm k now s (omega (arith, el, honest));
        of_blocks = r.of_blocks;
        found = subst (λ s. OnFound (told {T = Unit} (Err (error.Violation why))) (IsFoundSince M D (store_of old) s)) (sym e) r.found;
        spent = tt;
        unspent = tt;
        raises = subst (λ s. Raises H (store_of old) s ids) (sym e) m.raises;
        done = tt;
        least = λ one. ap D.least e ∙ m.least one;
        vault_cause = subst (λ s. RoseBy 0 (M.faults (store_of old)) (M.faults s)) (sym e) rv;
        vault_quiet = λ none. ev ∙ r.vault_quiet none;
        keeper_cause = omega (arith, quiet, grows);
        keeper_quiet = λ none fine. absurd (true_is_false fine);
        marked = λ bad. subst (λ n. IsKeptMarked R (G.kept new.saver.keeper) ⊎ RoseBy 1 n (G.faults new.saver.keeper)) quiet marked;
      }
