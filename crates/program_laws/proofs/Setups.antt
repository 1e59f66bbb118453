-- Where nothing lies and nothing fails, the runs beside sessions are done or find no memory.
use Rattle.std.proofs.Common.{◌≡◌, ◌≤◌, ◌⊎◌, ◌∙◌, ℕ, true, List, refl, sym, ap, subst, inl, inr, arith}
use Rattle.std.specs.Prelude.{Result, is_some, IfOk, IfErr, OnOk, IsErr}
use Rattle.std.specs.declared.option.Option.{Option}
use Rattle.std.specs.declared.option.Option.TheVariants.{None, Some}
use Rattle.std.specs.declared.result.Result.TheVariants.{Ok, Err}
use Rattle.std.proofs.lemmas.Option.{none-some}
use Rattle.block_id.specs.declared.id.BlockId.{BlockId}
use Rattle.session_laws.specs.config_file.ConfigOf.{ConfigOf, IsOnly, opened}
use Rattle.session_laws.specs.config_file.Settings.{Settings, settings_of}
use Rattle.check_runs.specs.setup_runs.Create.{RanCreate, IsCreated}
use Rattle.check_runs.specs.setup_runs.CreateText.{created_text, Reports as CreateReports}
use Rattle.check_runs.specs.setup_runs.Info.{Told, IsConfigTold}
use Rattle.check_runs.specs.setup_runs.InfoText.{info_text}
use Rattle.check_runs.specs.setup_runs.Passwd.{RanPasswd, IsChanged, NewOpens}
use Rattle.check_runs.specs.setup_runs.PasswdText.{changed_text, Reports as PasswdReports}
use Rattle.check_runs.specs.setup_runs.Printing.{Printed}
use Rattle.check_runs.proofs.setup_runs_lemmas.Ending.{ends}
use Rattle.fs_model.specs.Tree.{Tree, empty_tree}
use Rattle.session_laws.proofs.Configuration.{same_settings}
use Rattle.copy_file.specs.line_io.Lines.{first_line}
use Rattle.copy_file.specs.line_io.Streams.{Stream, HasFailed}
use Rattle.check_runs.specs.mount_stores.Drawing.{drawn, seal_drawn}
use Rattle.check_runs.specs.mount.Making.{Created as Made, IsMade}
use Rattle.session_laws.specs.config_file.Sealing.{sealed_file}
use Rattle.check_runs.specs.mount_stores.Making.{CreateCause, new_settings}
use Rattle.check_runs.specs.mount_stores.Identities.{HasEmptyList}
use Rattle.check_runs.specs.mount_stores.declared.draws.Draws.{Draws}
use Rattle.check_runs.specs.mount_stores.declared.error.OpenError.{OpenError}
use Rattle.check_runs.specs.mount_stores.declared.error.OpenError.TheVariants as open_error
use Rattle.check_runs.proofs.mount_lemmas.Reading.{represents_told}
use Rattle.check_runs.proofs.mount_stores_lemmas.Reading.{true_is_false}
use Rattle.outside.specs.Going.{GoesOn, goes_on_writes}
use Rattle.outside.specs.Honest.{is_lie, count_calls, count_told}
use Rattle.outside.specs.HonestLaws.{count_grows}
use Rattle.outside.specs.Streams.{appends}
use Rattle.outside.specs.Trace.{At, Call, config}
use Rattle.outside.specs.declared.keeper.Keeper.{Ghosts as KeeperGhosts}
use Rattle.shell_runs.specs.run_frame.Passwords.{second_line, IsLongLine}
use Rattle.rand_core.specs.Stream.{Stream as Chance}
use Rattle.session_laws.specs.Openings.{HasCauses, IsUnopened}
use Rattle.run_status.specs.declared.ended.Ended.{Ended}
use Rattle.run_status.specs.declared.status.Status.{Status}
use Rattle.run_status.specs.declared.status.Status.TheVariants.{Done, OutputFault}
use Rattle.scrypt_kdf.specs.Cost.{Cost}
use Rattle.session_laws.specs.Runs.{Outside, outside_of, OpensTo}
use Rattle.shell_runs.specs.record_saver.declared.saver.SyncError.{SyncError}
use Rattle.shell_runs.specs.record_saver.declared.saver.SyncError.TheVariants as sync_error
use Rattle.copy_file.specs.store_api.Durables.{last_told}
use Rattle.check_runs.specs.mount_core.Showing.{ShowsFiles}
use Rattle.program_laws.specs.Premises.{OfRun, IsUntroubled, Finds, Leaves}
use Rattle.program_laws.specs.Sessions.{FindsNoMemory}
use Rattle.program_laws.specs.Setups.{IsDone, StaysOrChanges, StaysOrMakes, IsBare}
use Rattle.program_laws.proofs.Configuration.{given_is, none_given, opens_to}
use Rattle.program_laws.proofs.Opening.{uncalled, unread, unopened}
use Rattle.program_laws.proofs.Passwords.{one_unread, two_unread, password_is, second_is}

printed_done : (output : Stream) (text : List ℕ) (status : Status) → ¬ HasFailed output → Printed output text status → (status ≡ Done) × (output.new ≡ appends output.old text)
printed_done output text Done quiet p = (refl, p.0)
printed_done output text OutputFault quiet p = absurd (quiet p.1)
printed_done output text status quiet p = absurd p

lies_grow : (a b : Option (List Call)) → GoesOn a b → count_told is_lie a ≤ count_told is_lie b
lies_grow None b on = omega arith
lies_grow (Some t) b on = subst (λ x. count_calls is_lie t ≤ count_told is_lie x) (sym on.1) (count_grows is_lie t on.0)

same_cost : (s t : Settings) (k l : Cost) → opened s k ≡ opened t l → k ≡ l
same_cost s t k l e = cc e

module _ {V : Type 0} {K : Type 0} (trace : V → Option (List Call)) (faults : V → ℕ) (G : KeeperGhosts K) (input output : Stream) (vault : V) (keeper : K) (ended : Ended V K) (bytes : List ℕ)
    (quiet : OfRun trace faults G vault keeper ended (IsUntroubled input output)) where
  abbrev Before : Outside
  Before = outside_of trace faults G vault keeper

  abbrev After : Outside
  After = outside_of trace faults G ended.vault ended.keeper

  module _ (c : Settings) (tree : Tree) (finds : Finds input bytes c tree Before) where
    found : OpensTo ShowsFiles (first_line bytes) c tree Before After
    found = opens_to input output bytes c tree Before After finds quiet

    told : is_some (trace vault) ≡ true
    told = represents_told ShowsFiles (G.kept keeper) (trace vault) c tree finds.stands

    not_opened : (error : OpenError) (password : List ℕ) → password ≡ first_line bytes → IsUnopened trace faults G password vault keeper ended error → (output.new ≡ output.old) × (output.risen ≡ output.faults)
        → FindsNoMemory output (first_line bytes) c tree After ended.status
    not_opened error password e u unwritten =
        unopened trace faults G input output vault keeper ended bytes c tree finds quiet error (subst (λ x. IsUnopened trace faults G x vault keeper ended error) e u) unwritten

    -- ---- info

    module _ (t : IsConfigTold trace faults G (first_line bytes) output vault keeper ended) where
      is_found : opened (settings_of t.o.config) t.o.params ≡ opened c finds.opens.1
      is_found =
          let a = t.attached in
          let on : GoesOn a.read (trace ended.vault) = subst (GoesOn a.read) (sym a.writes) (goes_on_writes a.list a.read) in
          given_is (first_line bytes) (G.kept keeper) (trace vault) a.read a.state a.list a.loaded c finds.opens.1 finds.opens.0 finds.opens.2 finds.opens.3
          (omega (arith, lies_grow a.read (trace ended.vault) on, quiet.honest)) a.found.answer (opened (settings_of t.o.config) t.o.params) a.found.gave a.found.opens

      tells : IsDone output (info_text c finds.opens.1) (first_line bytes) c tree After ended.status
      tells =
          let p = printed_done output (info_text (settings_of t.o.config) t.o.params) ended.status quiet.output_unfailed t.printed in
          let settings = same_settings _ _ _ _ is_found in
          let cost = same_cost _ _ _ _ is_found in
          record {
            ends = p.0;
            written = p.1 ∙ ap (appends output.old) (λ i. info_text (settings i) (cost i));
            leaves = record { stands = t.quiet.stands c tree found; opens = t.opens (first_line bytes) c told finds.opens };
            emptied = record { state = t.attached.state; keeps = t.attached.kept };
          }

    pub info : Told trace faults G input output vault keeper ended
        → FindsNoMemory output (first_line bytes) c tree After ended.status ⊎ IsDone output (info_text c finds.opens.1) (first_line bytes) c tree After ended.status
    info (inl u) = inl (unread trace faults G input output vault keeper ended bytes c tree finds quiet u)
    info (inr (password, script, has, unfailed, inl ((error, u), unwritten))) = inl (not_opened error password (password_is input.old bytes password script finds.told has.is_next) u unwritten)
    info (inr (password, script, has, unfailed, inr t)) =
        inr (tells (subst (λ x. IsConfigTold trace faults G x output vault keeper ended) (password_is input.old bytes password script finds.told has.is_next) t))

    -- ---- passwd

    module _ (chance left : Chance) (causes : HasCauses Before After ended.status) where
      abbrev PasswdEnd : Type 0
      PasswdEnd = StaysOrChanges output (first_line bytes) (second_line bytes) c tree After ended.status ⊎ IsDone output changed_text (second_line bytes) c tree After ended.status

      module _ (s : IsChanged trace faults G (first_line bytes) (second_line bytes) chance left output vault keeper ended) where
        abbrev file : List ℕ
        file = sealed_file (second_line bytes) s.was.opened.params (seal_drawn chance).0 (settings_of s.was.opened.config)

        changed : NewOpens (second_line bytes) file s.was.opened After → Leaves (second_line bytes) c tree After
        changed n = record {
          stands = s.quiet.stands c tree found;
          opens = (file, s.was.opened.params, n.holds, subst (λ x. ConfigOf (second_line bytes) file (opened x s.was.opened.params)) (s.config c tree found) ((n.opens (opened (settings_of s.was.opened.config) s.was.opened.params)).1 refl));
        }

        by_change : (change : Result Unit SyncError) → PasswdReports change output ended.status → OnOk change (NewOpens (second_line bytes) file s.was.opened After) → OnOk change (HasEmptyList (G.kept ended.keeper)) → PasswdEnd
        by_change (Ok u) reports new emptied =
            let p = printed_done output changed_text ended.status quiet.output_unfailed reports in
            inr (record { ends = p.0; written = p.1; leaves = changed new; emptied = emptied })
        by_change (Err sync_error.Memory) reports new emptied =
            inl (record {
              ends = reports.0;
              unwritten = reports.1;
              leaves = elim (s.stays finds.opens.0 told finds.opens.2) as (λ _. Leaves (first_line bytes) c tree After ⊎ Leaves (second_line bytes) c tree After) [
                | inl k ↦ inl (record { stands = s.quiet.stands c tree found; opens = (finds.opens.0, finds.opens.1, k, finds.opens.3) })
                | inr n ↦ inr (changed n)
              ];
            })
        by_change (Err sync_error.FaultDirectory) reports new emptied = absurd (quiet.directory_unfailed (causes.directory_fault reports.0))
        by_change (Err sync_error.FaultState) reports new emptied = absurd (quiet.state_unfailed (causes.state_fault reports.0))

      pub passwd : ¬ IsLongLine (second_line bytes) → RanPasswd trace faults G chance left input output vault keeper ended → PasswdEnd
      passwd short (inl (u, same)) =
          inl (record {
            ends = two_unread input bytes finds.told finds.short quiet.input_unfailed quiet.few short ended.status u.cause;
            unwritten = u.unwritten;
            leaves = inl (uncalled trace faults G input output vault keeper ended bytes c tree finds quiet u.uncalled);
          })
      passwd short (inr (old, new, has, unfailed, inl ((error, u), unwritten, same))) =
          let f = not_opened error old (password_is input.old bytes old has.between finds.told has.old_is_next) u unwritten in
          inl (record { ends = f.ends; unwritten = f.unwritten; leaves = inl f.leaves })
      passwd short (inr (old, new, has, unfailed, inr s)) =
          let e = password_is input.old bytes old has.between finds.told has.old_is_next in
          let f = second_is input.old bytes old new has.between has.after finds.told has.old_is_next has.new_is_next in
          let t : IsChanged trace faults G (first_line bytes) (second_line bytes) chance left output vault keeper ended =
          subst (λ x. IsChanged trace faults G x (second_line bytes) chance left output vault keeper ended) e (subst (λ x. IsChanged trace faults G old x chance left output vault keeper ended) f s) in
          by_change t t.change (ends t.closing output t.told ended.status t.status t.change t.reports t.closed) (t.opens told) t.emptied

  -- ---- create

  module _ (cost : Cost) (block_size : ℕ) (stream rest : Chance) (bare : IsBare Before) where
    abbrev draws : Draws
    draws = (drawn stream).0

    abbrev c : Settings
    c = new_settings block_size draws

    abbrev new_file : List ℕ
    new_file = sealed_file (first_line bytes) cost draws.seal c

    abbrev CreateEnd : Type 0
    CreateEnd = StaysOrMakes output (first_line bytes) c After ended.status ⊎ IsDone output (created_text draws.fs_id) (first_line bytes) c empty_tree After ended.status

    made : IsMade ShowsFiles c new_file (G.kept ended.keeper) (trace ended.vault) → IsOnly (first_line bytes) new_file (opened c cost) → Leaves (first_line bytes) c empty_tree After
    made m is_only = record { stands = m.represents; opens = (new_file, cost, m.configures, (is_only (opened c cost)).1 refl) }

    abbrev Opens : Result BlockId OpenError → Type 0
    Opens result = IsOnly (first_line bytes) new_file (opened c cost) ⊎ ((G.kept ended.keeper ≡ G.kept keeper) × IsErr result)

    no_error : (id : BlockId) → Opens (Ok id) → IsOnly (first_line bytes) new_file (opened c cost)
    no_error id (inl is_only) = is_only
    no_error id (inr (same, e)) = absurd (true_is_false (sym e))

    left_so : (error : OpenError) → Opens (Err error) → Made ShowsFiles c new_file (G.kept keeper) (G.kept ended.keeper) (trace ended.vault) (Err error)
        → ((G.kept ended.keeper ≡ None) × ((name : At) → last_told name (trace ended.vault) ≡ None)) ⊎ Leaves (first_line bytes) c empty_tree After
    left_so error opens (inl (same, none)) = inl (same ∙ bare.kept, none)
    left_so error (inl is_only) (inr m) = inr (made m is_only)
    left_so error (inr (same, e)) (inr m) = absurd (none-some m.represents.keeps.represents.0 (sym (same ∙ bare.kept) ∙ m.represents.keeps.represents.1))

    by_made : (result : Result BlockId OpenError) → CreateReports result output ended.status → IfOk result (λ id. id.0 ≡ draws.fs_id) → Opens result
        → Made ShowsFiles c new_file (G.kept keeper) (G.kept ended.keeper) (trace ended.vault) result
        → IfErr result (CreateCause (G.kept keeper) (trace vault) (trace ended.vault) (faults vault) (faults ended.vault) (G.faults keeper) (G.faults ended.keeper)) → CreateEnd
    by_made (Ok id) reports is_id opens stands cause =
        let p = printed_done output (created_text id.0) ended.status quiet.output_unfailed reports in
        inr (record { ends = p.0; written = p.1 ∙ ap (λ x. appends output.old (created_text x)) is_id; leaves = made stands.0 (no_error id opens); emptied = stands.1 })
    by_made (Err open_error.Memory) reports is_id opens stands cause = inl (record { ends = reports.0; unwritten = reports.1; leaves = left_so open_error.Memory opens stands })
    by_made (Err open_error.Exists) reports is_id opens stands (inl some) = absurd (true_is_false (sym some ∙ ap is_some bare.kept))
    by_made (Err open_error.Exists) reports is_id opens stands (inr (file, is)) = absurd (none_given file (trace vault) (trace ended.vault) bare.unchanged.told (bare.unchanged.none config) is quiet.honest)
    by_made (Err open_error.FaultDirectory) reports is_id opens stands cause = absurd (quiet.directory_unfailed cause)
    by_made (Err open_error.FaultState) reports is_id opens stands cause = absurd (quiet.state_unfailed cause)
    by_made (Err error) reports is_id opens stands cause = absurd cause

    pub create : input.old ≡ Some bytes → ¬ IsLongLine (first_line bytes) → RanCreate trace faults G cost block_size stream rest input output vault keeper ended → CreateEnd
    create told short (inl u) =
        inl (record {
          ends = one_unread input bytes told short quiet.input_unfailed quiet.few ended.status u.cause;
          unwritten = u.unwritten;
          leaves = inl (ap G.kept u.uncalled.same_keeper ∙ bare.kept, λ name. ap (λ v. last_told name (trace v)) u.uncalled.same_vault ∙ bare.unchanged.none name);
        })
    create told short (inr (password, after, has, unfailed, m)) =
        let t : IsCreated trace faults G cost block_size stream rest (first_line bytes) output vault keeper ended =
        subst (λ x. IsCreated trace faults G cost block_size stream rest x output vault keeper ended) (password_is input.old bytes password after told has.is_next) m in
        by_made t.made t.reports t.tells.id t.opens (t.stands bare.unchanged bare.kept) t.tells.cause
