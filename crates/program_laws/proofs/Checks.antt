-- Where nothing lies and nothing fails, a check tells the owners or finds no memory.
use Rattle.std.proofs.Common.{◌≡◌, ◌⊎◌, ◌∙◌, ℕ, false, List, refl, sym, ap, subst, inl, inr}
use Rattle.std.specs.Prelude.{Result, IfOk}
use Rattle.std.specs.declared.option.Option.{Option}
use Rattle.std.specs.declared.result.Result.TheVariants.{Ok, Err}
use Rattle.block_id.specs.declared.fail.Fail.{Fail}
use Rattle.block_id.specs.declared.fail.Fail.TheVariants as fail
use Rattle.check_runs.specs.check_rules.Certificates.{Owners}
use Rattle.check_runs.proofs.Leaving.{examined_run, stay_open, same_calls}
use Rattle.check_runs.specs.Judging.{is_bad, held_for, IsProven}
use Rattle.check_runs.specs.Running.{RanCheck, IsCheckTold}
use Rattle.check_runs.specs.check_texts.Telling.{AreOwnersTold, IsTold, ListsAfter}
use Rattle.session_laws.specs.config_file.Settings.{Settings, settings_of}
use Rattle.check_runs.specs.cryfs_check.Checks.{OnYes}
use Rattle.check_runs.specs.cryfs_check.declared.checking.Checked.{Checked}
use Rattle.check_runs.specs.cryfs_check.declared.checking.Checked.TheVariants.{Yes, No}
use Rattle.fs_model.specs.Tree.{Tree}
use Rattle.copy_file.specs.line_io.Lines.{first_line}
use Rattle.copy_file.specs.line_io.Streams.{Stream}
use Rattle.check_runs.proofs.mount_lemmas.Reading.{represents_told}
use Rattle.check_runs.specs.mount_stores.Identities.{HasEmptyList}
use Rattle.outside.specs.Causes.{RoseBy}
use Rattle.outside.specs.Trace.{Call}
use Rattle.outside.specs.declared.keeper.Keeper.{Ghosts as KeeperGhosts}
use Rattle.run_status.specs.declared.ended.Ended.{Ended}
use Rattle.run_status.specs.declared.status.Status.{Status}
use Rattle.run_status.specs.declared.status.Status.TheVariants.{Done, Memory, DirectoryFault, OutputFault}
use Rattle.session_laws.specs.Openings.{HasCauses, IsUnopened}
use Rattle.session_laws.specs.Runs.{Outside, outside_of, OpensTo}
use Rattle.check_runs.specs.mount_core.Showing.{ShowsFiles}
use Rattle.program_laws.specs.Checks.{StaysUntold, TellsOwners}
use Rattle.program_laws.specs.Premises.{OfRun, IsUntroubled, Finds, Leaves}
use Rattle.program_laws.specs.Sessions.{FindsNoMemory}
use Rattle.program_laws.proofs.Configuration.{opens_to}
use Rattle.program_laws.proofs.Opening.{unread, unopened}
use Rattle.program_laws.proofs.Passwords.{password_is}

pub untold : (output : Stream) (password : List ℕ) (c : Settings) (tree : Tree) (after : Outside) (status : Status) → FindsNoMemory output password c tree after status → StaysUntold password c tree after status
untold output password c tree after status f = record { ends = f.ends; leaves = f.leaves }

module _ {V : Type 0} {K : Type 0} (trace : V → Option (List Call)) (faults : V → ℕ) (names : V → Option (List (List ℕ))) (G : KeeperGhosts K) (input output : Stream) (vault : V) (keeper : K) (ended : Ended V K) (bytes : List ℕ)
    (quiet : OfRun trace faults G vault keeper ended (IsUntroubled input output)) (c : Settings) (tree : Tree) (finds : Finds input bytes c tree (outside_of trace faults G vault keeper))
    (causes : OfRun trace faults G vault keeper ended (λ before after. HasCauses before after ended.status)) where
  abbrev Before : Outside
  Before = outside_of trace faults G vault keeper

  abbrev After : Outside
  After = outside_of trace faults G ended.vault ended.keeper

  abbrev Outcome : Type 0
  Outcome = StaysUntold (first_line bytes) c tree After ended.status ⊎ TellsOwners (names ended.vault) output (first_line bytes) c tree Before After ended.status

  found : OpensTo ShowsFiles (first_line bytes) c tree Before After
  found = opens_to input output bytes c tree Before After finds quiet

  module _ (t : IsCheckTold trace faults names G (first_line bytes) output vault keeper ended) where
    calm : is_bad t.x.verdict ≡ false
    calm = (examined_run trace faults names G (first_line bytes) output vault keeper ended t).calm c tree found quiet.honest

    leaves : Leaves (first_line bytes) c tree After
    leaves = record {
      stands = (examined_run trace faults names G (first_line bytes) output vault keeper ended t).stands c tree found calm;
      opens = stay_open trace faults names G (first_line bytes) output vault keeper ended t (first_line bytes) c (represents_told ShowsFiles (G.kept keeper) (trace vault) c tree finds.stands) finds.opens;
    }

    emptied : HasEmptyList (G.kept ended.keeper)
    emptied =
        let a = t.examined.attached in
        record {
          state = a.state;
          keeps = record { bytes = a.kept.bytes; kept = ap G.kept t.same_keeper ∙ (t.examined.leaves.unsaved calm).0 ∙ a.kept.kept; is_record = a.kept.is_record };
        }

    -- the configuration is the one that was found
    is_found : settings_of t.examined.o.config ≡ c
    is_found = t.examined.config c tree (subst (λ (calls : Option (List Call)). OpensTo ShowsFiles (first_line bytes) c tree Before (record { kept = G.kept t.x.keeper; calls = calls; vault_faults = faults t.x.vault; keeper_faults = G.faults t.x.keeper }))
        (same_calls trace faults names G (first_line bytes) output vault keeper ended t) (record { stands = found.stands; unforged_config = found.unforged_config }))

    abbrev Proven : Settings → Option (List Call) → Owners → Type 0
    Proven s calls owners = IsProven (held_for s t.examined.attached.state) s.root t.examined.calls calls owners

    by_status : (owners : Owners) (status : Status) → Proven c (trace ended.vault) owners → AreOwnersTold (names ended.vault) owners output status → (status ≡ DirectoryFault → RoseBy 1 (faults vault) (faults ended.vault))
        → StaysUntold (first_line bytes) c tree After status ⊎ TellsOwners (names ended.vault) output (first_line bytes) c tree Before After status
    by_status owners Done proven told cause = inr (record {
      state = t.examined.attached.state;
      list = t.examined.attached.list;
      loaded = t.examined.attached.loaded;
      calls = t.examined.calls;
      owners = owners;
      proven = proven;
      sorted = told.0;
      listed = told.1;
      done = record { ends = refl; written = told.2; leaves = leaves; emptied = emptied };
    })
    by_status owners Memory proven told cause = inl (record { ends = refl; leaves = leaves })
    by_status owners DirectoryFault proven told cause = absurd (quiet.directory_unfailed (cause refl))
    by_status owners OutputFault proven told cause = absurd (quiet.output_unfailed told.1)
    by_status owners status proven told cause = absurd told

    by_verdict : (verdict : Result Checked Fail) → is_bad verdict ≡ false → IfOk verdict (λ checked. OnYes checked (Proven c (trace ended.vault))) → IsTold (names t.x.vault) verdict output ended.status
        → ListsAfter trace faults names verdict t.x.vault ended.vault ended.status → Outcome
    by_verdict (Ok (Yes owners)) fine proven told lists =
        by_status owners ended.status proven (subst (λ (n : Option (List (List ℕ))). AreOwnersTold n owners output ended.status) (sym lists.stays) told) causes.directory_fault
    by_verdict (Ok (No flaw)) fine proven told lists = absurd (cc)
    by_verdict (Err fail.Memory) fine proven told lists = inl (record { ends = told.0; leaves = leaves })
    by_verdict (Err fail.Fault) fine proven told lists = absurd (quiet.directory_unfailed (causes.directory_fault told.0))
    by_verdict (Err (fail.Violation why)) fine proven told lists = absurd (cc)

    tells : Outcome
    tells =
        let e = t.examined in
        let by_config = subst (λ (s : Settings). IfOk t.x.verdict (λ checked. OnYes checked (Proven s (trace t.x.vault)))) is_found e.judged.yes in
        let by_calls = subst (λ (calls : Option (List Call)). IfOk t.x.verdict (λ checked. OnYes checked (Proven c calls))) (sym (same_calls trace faults names G (first_line bytes) output vault keeper ended t)) by_config in
        by_verdict t.x.verdict calm by_calls t.told t.lists

  pub check : RanCheck trace faults names G input output vault keeper ended → Outcome
  check (inl u) = inl (untold output (first_line bytes) c tree After ended.status (unread trace faults G input output vault keeper ended bytes c tree finds quiet u))
  check (inr (password, after, has, unfailed, inl ((error, u), unwritten))) =
      let is = password_is input.old bytes password after finds.told has.is_next in
      inl (untold output (first_line bytes) c tree After ended.status
      (unopened trace faults G input output vault keeper ended bytes c tree finds quiet error (subst (λ x. IsUnopened trace faults G x vault keeper ended error) is u) unwritten))
  check (inr (password, after, has, unfailed, inr t)) =
      tells (subst (λ x. IsCheckTold trace faults names G x output vault keeper ended) (password_is input.old bytes password after finds.told has.is_next) t)
