-- Steps after one another.
use Rattle.std.proofs.Common.{◌≡◌, List, refl, ◌∙◌, subst, inl, inr, arith}
use Rattle.mount_answering.specs.answers.declared.answer.Answer.{Answer}
use Rattle.mount_answering.specs.answers.Sessions.{directory_faults, state_faults}
use Rattle.fs_model.specs.Tree.{Tree}
use Rattle.mount_answering.specs.store_outcome.Meanings.{Meanings}
use Rattle.outside.specs.Causes.{RoseBy}
use Rattle.outside.specs.Going.{goes_on_onward, goes_on_same}
use Rattle.outside.specs.declared.keeper.Keeper.{Ghosts as KeeperGhosts}
use Rattle.mount_answering.specs.record_saver.Saving.{world}
use Rattle.mount_answering.specs.store_api.Content.{Id}
use Rattle.mount_answering.specs.store_api.Durables.{Durables, Records}
use Rattle.mount_answering.specs.store_api.Holdings.{Holdings}
use Rattle.mount_answering.specs.mount_core.Showing.{Showing}
use Rattle.mount_answering.specs.mount_core.declared.body.Core.{Core}
use Rattle.mount_answering.specs.mount_core.Answering.{store_of}
use Rattle.mount_answering.specs.mount_core.Standing.{CoreStands, Roomed}
use Rattle.mount_answering.proofs.Lines.{found_map, spent_on}
use Rattle.mount_migrating.specs.Migrating.{Proceeds, HasReason, IsSpentAmong}

module _ {S : Type 0} {K : Type 0} (shows : Showing) (M : Meanings S) (H : Holdings S) (D : Durables S) (R : Records) (G : KeeperGhosts K) where
  abbrev Going : Core S K → Core S K → Type 0
  Going a b = Proceeds shows (world M H D R G) a b

  abbrev Standing : Core S K → Tree → Tree → Type 0
  Standing core kept now = CoreStands shows (world M H D R G) core kept now

  abbrev In : Core S K → Tree → Tree → Type 0
  In core kept now = Roomed shows (world M H D R G) core kept now

  pub now_alone : (core : Core S K) (now : Tree) → In core now now → Standing core now now
  now_alone core now (inl s) = s
  now_alone core now (inr s) = s

  roomed_then : (b c : Core S K) (kept now : Tree) → In b kept now → ((k : Tree) → Standing b k now → In c k now) → In c kept now
  roomed_then b c kept now (inl s) f = f kept s
  roomed_then b c kept now (inr s) f = inr (now_alone c now (f now s))

  pub either_kept : {P : Type 0} (core : Core S K) (kept now : Tree) → In core kept now → ((k : Tree) → Standing core k now → P) → P
  either_kept core kept now (inl s) f = f kept s
  either_kept core kept now (inr s) f = f now s

  pub proceeds_then : (a b c : Core S K) → Going a b → Going b c → Going a c
  proceeds_then a b c p q =
      let pf = p.forgeries in
      let qf = q.forgeries in
      let pl = p.lies in
      let ql = q.lies in
      record {
        stands = λ kept now s few. roomed_then b c kept now (p.stands kept now s (omega (arith, qf, few))) (λ k t. q.stands k now t (omega (arith, pf, few)));
        configures = λ may now s. q.configures may now (p.configures may now s);
        identity = q.identity ∙ p.identity;
        payload = q.payload ∙ p.payload;
        ids = λ id. q.ids id ∙ p.ids id;
        goes_on = goes_on_onward (D.trace (store_of a)) (D.trace (store_of b)) (D.trace (store_of c)) p.goes_on q.goes_on;
        sound = λ sound few. q.sound (p.sound sound (omega (arith, qf, few))) (omega (arith, pf, few));
        forgeries = omega (arith, pf, qf);
        lies = omega (arith, pl, ql);
        unforged = λ sound honest.
            let first = p.unforged sound (omega (arith, ql, honest)) in
            let second = q.unforged (p.sound sound first) (omega (arith, pl, honest)) in
            omega (arith, first, second);
        violated = q.violated ∙ p.violated;
        root = q.root ∙ p.root;
      }

  -- a reason after steps that were no fault
  pub reason_after : (a b c : Core S K) (ids more : List Id) (answer : Answer) → Going a b → Going b c → M.faults (store_of b) ≡ M.faults (store_of a) → G.faults b.saver.keeper ≡ G.faults a.saver.keeper
      → (IsSpentAmong H (store_of b) ids → IsSpentAmong H (store_of a) more) → HasReason shows (world M H D R G) b ids answer c → HasReason shows (world M H D R G) a more answer c
  reason_after a b c ids more answer p q vault keeper spent r =
      let pl = p.lies in
      let ql = q.lies in
      record {
        vault_cause = subst (λ n. RoseBy (directory_faults answer) n (M.faults (store_of c))) vault r.vault_cause;
        vault_quiet = λ none. r.vault_quiet none ∙ vault;
        keeper_cause = subst (λ n. RoseBy (state_faults answer) n (G.faults c.saver.keeper)) keeper r.keeper_cause;
        keeper_quiet = λ none. r.keeper_quiet none ∙ keeper;
        alarm = λ kept now s honest.
            either_kept b kept now (p.stands kept now s (p.unforged s.sound (omega (arith, ql, honest)))) (λ k t. r.alarm k now t (omega (arith, pl, honest)));
        of_blocks = r.of_blocks;
        found = found_map answer _ _ (λ why f. record { from = f.from; goes_on = goes_on_onward (D.trace (store_of a)) (D.trace (store_of b)) (D.trace f.from) p.goes_on f.goes_on; loaded = f.loaded; met = f.met }) r.found;
        spent = spent_on answer (IsSpentAmong H (store_of b) ids) (IsSpentAmong H (store_of a) more) spent r.spent;
      }

  -- nothing was done
  pub proceeds_same : (core : Core S K) → Going core core
  proceeds_same core = record {
    stands = λ kept now s few. inl s;
    configures = λ may now s. s;
    identity = refl;
    payload = refl;
    ids = λ id. refl;
    goes_on = goes_on_same (D.trace (store_of core));
    sound = λ sound few. sound;
    forgeries = omega arith;
    lies = omega arith;
    unforged = λ sound honest. omega arith;
    violated = refl;
    root = refl;
  }
