-- What a survey of a mount leaves.
use Rattle.std.proofs.Common.{◌≡◌, ◌≤◌, ℕ, Bool, true, false, List, [], ◌∷◌, ◌++◌, length, map, take, refl, sym, ◌∙◌, ap, subst, arith, append_assoc, append-nil}
use Rattle.std.proofs.lemmas.List.{take_all}
use Rattle.std.specs.Prelude.{Result, Ok, Err, Some, None, IfErr, OnOk, OnErr, reverse}
use Rattle.std.specs.declared.option.Option.{Option}
use Rattle.block_id.specs.declared.fail.Fail.{Fail}
use Rattle.block_id.specs.declared.fail.Fail.TheVariants.{Memory, Fault, Violation}
use Rattle.block_id.specs.declared.fail.Memory as memory
use Rattle.check_refused.specs.Surveys.{Counts, IsSurvey, IsCutShort, Loss, Surveys, failures, refusals, ungiven_of}
use Rattle.check_refused.specs.declared.survey.Ungiven.{Ungiven}
use Rattle.check_refused.proofs.Surveying.{calm_none, failed_none}
use Rattle.check_refused.specs.cryfs_check.declared.checking.Checked.{Checked}
use Rattle.check_refused.specs.cryfs_check.declared.checking.Checked.TheVariants.{Yes, No}
use Rattle.check_walk.proofs.data_tree_lemmas.Forests.{stays-same, stays-then}
use Rattle.block_versions.specs.Loads.{loads_by}
use Rattle.block_versions.specs.local_state.Known.{live_ids}
use Rattle.setup_runs.specs.mount.Answering.{store_of, lies_of, vault_faults}
use Rattle.setup_runs.specs.mount.Mounts.{IsReady}
use Rattle.check_blocks.specs.Examined.{OnlyExamined, held_of, trace_of, examined_meanings, examined_holdings}
use Rattle.check_blocks.specs.ExaminedLaws.{examined_lawful}
use Rattle.check_blocks.specs.declared.examined.Examined.{Examined}
use Rattle.setup_runs.specs.mount_stores.Tower.{tower_holdings, tower_meanings}
use Rattle.check_walk.specs.store_outcome.Meanings.{HasCause, IsQuiet}
use Rattle.outside.specs.Causes.{RoseBy}
use Rattle.outside.specs.Trace.{Call}
use Rattle.outside.specs.declared.keeper.Keeper.{Ghosts as KeeperGhosts}
use Rattle.setup_runs.proofs.session_laws_lemmas.Still.{went_got}
use Rattle.setup_runs.specs.session_laws.Resting.{AreGets, OnlyGot}
use Rattle.block_versions.specs.store_api.Content.{Id}
use Rattle.block_versions.specs.store_api.Loads.{LoadAnswer}
use Rattle.block_versions.specs.store_api.Holdings.{Stays}
use Rattle.check_runs.specs.Judging.{read_by}
use Rattle.check_runs.specs.Surveying.{IsSurveyed, Places, SurveysAll, SurveysIf, faults_told, needs_survey}
use Rattle.check_runs.proofs.Reading.{chained}

-- where no survey is needed no fault was met
pub fine_quiet : (verdict : Result Checked Fail) (before now : ℕ) → needs_survey verdict ≡ false → IsQuiet verdict before now → now ≡ before
fine_quiet (Ok (Yes owners)) before now fine q = q
fine_quiet (Ok (No flaw)) before now fine q = q
fine_quiet (Err Memory) before now fine q = q
fine_quiet (Err Fault) before now fine q = absurd (cc)
fine_quiet (Err (Violation why)) before now fine q = q

-- the fault of the check, and then those of the survey
pub told_rose : (verdict : Result Checked Fail) (ungiven : List Ungiven) (a b c : ℕ) → IfErr verdict (λ e. HasCause e a b) → a ≤ b → RoseBy (failures (map ungiven_of ungiven)) b c → RoseBy (faults_told verdict ungiven) a c
told_rose (Ok (Yes owners)) ungiven a b c cause grows rose = omega (arith, grows, rose)
told_rose (Ok (No flaw)) ungiven a b c cause grows rose = omega (arith, grows, rose)
told_rose (Err Memory) ungiven a b c cause grows rose = omega (arith, grows, rose)
told_rose (Err Fault) ungiven a b c cause grows rose = omega (arith, grows, rose, cause)
told_rose (Err (Violation why)) ungiven a b c cause grows rose = omega (arith, grows, rose)

-- no call is no other call
got_none : (calls : Option (List Call)) → OnlyGot calls calls
got_none None = refl
got_none (Some calls) = ([], refl, tt)

gets_both : (xs ys : List Call) → AreGets xs → AreGets ys → AreGets (xs ++ ys)
gets_both [] ys f g = g
gets_both (x ∷ xs) ys f g = (f.0, gets_both xs ys f.1 g)

got_then : (a b c : Option (List Call)) → OnlyGot a b → OnlyGot b c → OnlyGot a c
got_then None b c f g = subst (λ (z : Option (List Call)). OnlyGot z c) f g
got_then (Some a) b c f g =
    let h = subst (λ (z : Option (List Call)). OnlyGot z c) f.1 g in
    (h.0 ++ f.0, h.1 ∙ ap Some (sym (append_assoc h.0 f.0 a)), gets_both h.0 f.0 h.2 f.2)

-- a survey that was done is one that wasn't, up to its end
cut_whole : {S : Type 0} {loads : S → S → Id → LoadAnswer → Type 0} (ids : List Id) (a b : S) (ungiven : List Loss) → IsSurvey loads ids a b ungiven → IsCutShort loads ids a b ungiven
cut_whole ids a b ungiven s = record {
  asked = s.asked;
  by = s.by;
  count = length ids;
  some = s.all ∙ ap reverse (sym (take_all (length ids) ids (omega arith)));
  last = [];
  told = sym s.told ∙ sym (append-nil ungiven);
}

module _ {V : Type 0} {K : Type 0} (trace : V → Option (List Call)) (faults : V → ℕ) (G : KeeperGhosts K) where
  of_store : (a b : Examined V K) → Stays (examined_holdings trace) a b → Stays (tower_holdings trace) (store_of a.mount) (store_of b.mount)
  of_store a b s = record { ids = s.ids; content = s.content; told = s.told; used = s.used; spent = s.spent; version = s.version; payload = s.payload }

  -- no list of blocks was made, for want of memory
  pub surveyed_none : (e : Examined V K) (ungiven : List Ungiven) (wants : memory.Memory) → ungiven ≡ [] → IsReady trace faults G e.mount → SurveysAll trace faults G e e ungiven (Err wants)
  surveyed_none e ungiven wants none ready =
      let empty : [] ≡ map ungiven_of ungiven = sym (ap (map ungiven_of) none) in
      record {
        ready = ready;
        only = (examined_lawful trace faults G).same e;
        stays = stays-same (tower_holdings trace) (store_of e.mount);
        rose = subst (λ (us : List Loss). RoseBy (failures us) (vault_faults trace faults e.mount) (vault_faults trace faults e.mount)) empty (let zero = failed_none in omega (arith, zero));
        calm = λ sound honest. subst (λ (us : List Loss). refusals us ≡ 0) empty calm_none;
        surveyed = record { all = tt; mid = trace_of trace e; cut = record { asked = []; by = refl; count = 0; some = refl; last = []; told = subst (λ (us : List Loss). [] ≡ us ++ []) empty refl }; rest = got_none (trace_of trace e) };
      }

  -- the blocks were asked for
  module _ (a b : Examined V K) (ungiven : List Ungiven) (end : Result Unit memory.Memory) (live : List Id) (all : live ≡ live_ids (held_of a).state.lives)
      (o : Surveys (examined_meanings trace faults G) (examined_holdings trace) a b)
      (ok : OnOk end (IsSurvey (loads_by held_of (trace_of trace)) live a b (map ungiven_of ungiven))) (cut : OnErr end (IsCutShort (loads_by held_of (trace_of trace)) live a b (map ungiven_of ungiven)))
      (counts : Counts (vault_faults trace faults a.mount) (vault_faults trace faults b.mount) (map ungiven_of ungiven) end)
      (calm : (tower_meanings trace faults).sound (store_of a.mount) → lies_of trace faults b.mount ≤ lies_of trace faults a.mount → refusals (map ungiven_of ungiven) ≡ 0) where
    of_calls : (r : List Loss) → IsSurvey (loads_by held_of (trace_of trace)) live a b r → IsSurvey (read_by (held_of a)) (live_ids (held_of a).state.lives) (trace_of trace a) (trace_of trace b) r
    of_calls r s = record { asked = s.asked; by = (chained held_of (trace_of trace) a b s.asked s.by).1; all = s.all ∙ ap reverse all; settled = s.settled; told = s.told }

    cut_calls : (r : List Loss) → IsCutShort (loads_by held_of (trace_of trace)) live a b r → IsCutShort (read_by (held_of a)) (live_ids (held_of a).state.lives) (trace_of trace a) (trace_of trace b) r
    cut_calls r s = record { asked = s.asked; by = (chained held_of (trace_of trace) a b s.asked s.by).1; count = s.count; some = s.some ∙ ap (λ ids. reverse (take s.count ids)) all; last = s.last; told = s.told }

    surveyed : (r : Result Unit memory.Memory) → OnOk r (IsSurvey (loads_by held_of (trace_of trace)) live a b (map ungiven_of ungiven)) → OnErr r (IsCutShort (loads_by held_of (trace_of trace)) live a b (map ungiven_of ungiven))
        → IsSurveyed (held_of a) (trace_of trace a) (trace_of trace b) ungiven r
    surveyed (Ok u) s t = record { mid = trace_of trace b; all = of_calls (map ungiven_of ungiven) s; cut = tt; rest = got_none (trace_of trace b) }
    surveyed (Err e) s t = record { mid = trace_of trace b; all = tt; cut = cut_calls (map ungiven_of ungiven) t; rest = got_none (trace_of trace b) }

    pub surveyed_all : SurveysAll trace faults G a b ungiven end
    surveyed_all = record {
      ready = o.intact;
      only = o.loaded;
      stays = of_store a b o.stays;
      rose = counts.rose;
      calm = calm;
      surveyed = surveyed end ok cut;
    }

  -- ---- and then the paths

  -- no list of blocks was made, for want of memory
  pub place_none : (x : Examined V K) (list : List Ungiven) → IsReady trace faults G x.mount → Places trace faults G x x list list
  place_none x list ready = record {
    ready = ready;
    only = (examined_lawful trace faults G).same x;
    stays = stays-same (tower_holdings trace) (store_of x.mount);
    same = refl;
  }

  pub place_all : (a b : Examined V K) (before after : List Ungiven) → Surveys (examined_meanings trace faults G) (examined_holdings trace) a b → map ungiven_of after ≡ map ungiven_of before → Places trace faults G a b before after
  place_all a b before after o same = record {
    ready = o.intact;
    only = o.loaded;
    stays = of_store a b o.stays;
    same = same;
  }

  module _ (a b c : Examined V K) (list after : List Ungiven) (u : Unit {0}) (s : SurveysAll trace faults G a b list (Ok u)) (p : Places trace faults G b c list after) where
    loads_on : OnlyGot s.surveyed.mid (trace_of trace c)
    loads_on = got_then s.surveyed.mid (trace_of trace b) (trace_of trace c) s.surveyed.rest (went_got (held_of b) (trace_of trace b) (trace_of trace c) p.only.loaded.trace)

    survey : IsSurvey (read_by (held_of a)) (live_ids (held_of a).state.lives) (trace_of trace a) s.surveyed.mid (map ungiven_of after)
    survey = subst (λ (r : List Loss). IsSurvey (read_by (held_of a)) (live_ids (held_of a).state.lives) (trace_of trace a) s.surveyed.mid r) (sym p.same) s.surveyed.all

    surveyed_placed : (end : Result Unit memory.Memory) → IsSurveyed (held_of a) (trace_of trace a) (trace_of trace c) after end
    surveyed_placed (Ok v) = record { mid = s.surveyed.mid; all = survey; cut = tt; rest = loads_on }
    surveyed_placed (Err e) = record { mid = s.surveyed.mid; all = tt; cut = cut_whole (live_ids (held_of a).state.lives) (trace_of trace a) s.surveyed.mid (map ungiven_of after) survey; rest = loads_on }

    -- whether or not memory was wanting for the paths
    pub then_placed : (end : Result Unit memory.Memory) → SurveysAll trace faults G a c after end
    then_placed end =
        let laws = examined_lawful trace faults G in
        let grows = laws.faults_grow b c p.only in
        let lies = laws.lies_grow b c p.only in
        record {
          ready = p.ready;
          only = laws.onward a b c s.only p.only;
          stays = stays-then s.stays p.stays;
          rose = subst (λ (us : List Loss). RoseBy (failures us) (vault_faults trace faults a.mount) (vault_faults trace faults c.mount)) (sym p.same) (let r = s.rose in omega (arith, r, grows));
          calm = λ sound honest. subst (λ (us : List Loss). refusals us ≡ 0) (sym p.same) (s.calm sound (omega (arith, honest, lies)));
          surveyed = surveyed_placed end;
        }

  -- ---- with a survey or without

  pub record Looked (a b : Examined V K) : Type 0 where
    pub ready : IsReady trace faults G b.mount
    pub only : OnlyExamined trace faults a.mount b.mount
    pub stays : Stays (tower_holdings trace) (store_of a.mount) (store_of b.mount)

  module _ (a b : Examined V K) (ungiven : List Ungiven) (end : Result Unit memory.Memory) where
    pub looked : (needed : Bool) → IsReady trace faults G a.mount → SurveysIf trace faults G needed a b ungiven end → Looked a b
    looked true ready s = record { ready = s.ready; only = s.only; stays = s.stays }
    looked false ready s = subst (λ (e : Examined V K). Looked a e) (sym s.same) (record {
      ready = ready;
      only = (examined_lawful trace faults G).same a;
      stays = stays-same (tower_holdings trace) (store_of a.mount);
    })

    pub unlooked : (needed : Bool) → SurveysIf trace faults G needed a b ungiven end → needed ≡ false → b ≡ a
    unlooked true s e = absurd (cc)
    unlooked false s e = s.same

    pub looks_on : (needed : Bool) → SurveysIf trace faults G needed a b ungiven end → needed ≡ true → SurveysAll trace faults G a b ungiven end
    looks_on true s e = s
    looks_on false s e = absurd (cc)

    -- each fault that is told was met
    pub looked_rose : (needed : Bool) → SurveysIf trace faults G needed a b ungiven end → RoseBy (failures (map ungiven_of ungiven)) (vault_faults trace faults a.mount) (vault_faults trace faults b.mount)
    looked_rose true s = s.rose
    looked_rose false s =
        let zero : failures (map ungiven_of ungiven) ≡ 0 = ap (λ us. failures (map ungiven_of us)) s.none ∙ failed_none in
        let same = ap (λ (e : Examined V K). vault_faults trace faults e.mount) s.same in
        omega (arith, zero, same)

    -- over an honest directory no block is refused
    pub looked_calm : (needed : Bool) → SurveysIf trace faults G needed a b ungiven end → (tower_meanings trace faults).sound (store_of a.mount) → lies_of trace faults b.mount ≤ lies_of trace faults a.mount → refusals (map ungiven_of ungiven) ≡ 0
    looked_calm true s sound honest = s.calm sound honest
    looked_calm false s sound honest = ap (λ us. refusals (map ungiven_of us)) s.none ∙ calm_none
