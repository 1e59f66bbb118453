-- Runs over a directory, a record and an input that are honest, from their contracts and the laws of completeness.
use Rattle.std.proofs.Common.{◌≡◌, ◌⊎◌, ◌≤◌, ◌<◌, ◌+◌, ◌^◌, ◌++◌, ◌∙◌, ℕ, List, [], ◌∷◌, length, refl, sym, ap, subst, inl, inr, arith, length-append}
use Rattle.std.specs.Prelude.{◌≢◌}
use Rattle.std.specs.declared.option.Option.{Option}
use Rattle.std.specs.declared.option.Option.TheVariants.{Some}
use Rattle.std.proofs.lemmas.Option.{same_Some}
use Rattle.cryfs_shell.specs.answers.Sessions.{IsSession}
use Rattle.program_laws.specs.Premises.{IsUntroubled, Finds, Leaves}
use Rattle.program_laws.specs.Sessions.{FindsNoMemory, IsComplete, SessionsComplete}
use Rattle.program_laws.specs.Setups.{IsDone, IsBare, StaysOrMakes, CreateCompletes}
use Rattle.cryfs_shell.specs.config_file.Settings.{Settings}
use Rattle.cryfs_shell.specs.setup_runs.Create.{RanCreate}
use Rattle.cryfs_shell.specs.Clauses.{NoFalseAlarm}
use Rattle.fs_model.specs.Instant.{Instant}
use Rattle.fs_model.specs.Tree.{Tree, empty_tree}
use Rattle.session_laws.specs.Histories.{HonestRunOpensOnly, quiet}
use Rattle.cryfs_shell.specs.line_io.Lines.{first_line}
use Rattle.cryfs_shell.specs.line_io.Reading.{total}
use Rattle.cryfs_shell.specs.line_io.Streams.{Stream, TookMost}
use Rattle.session_laws.specs.local_state.Record.{PlainState}
use Rattle.memory_outside.specs.Keepers.{KeeperState}
use Rattle.memory_outside.specs.Vaults.{VaultState}
use Rattle.cryfs_shell.specs.mount.Making.{KnowsOnly}
use Rattle.cryfs_shell.specs.mount.Representing.{Represents}
use Rattle.cryfs_shell.specs.mount_stores.Drawing.{drawn}
use Rattle.cryfs_shell.specs.mount_stores.Making.{new_settings}
use Rattle.cryfs_shell.specs.mount_stores.Opening.{IsLoaded}
use Rattle.rand_core.specs.Stream.{Stream as Chance}
use Rattle.outside.specs.Causes.{RoseBy}
use Rattle.outside.specs.Changes.{FileChanges}
use Rattle.outside.specs.Streams.{appends}
use Rattle.outside.specs.Trace.{Call}
use Rattle.outside.specs.declared.keeper.Keeper.{Ghosts as KeeperGhosts}
use Rattle.cryfs_shell.specs.run_frame.Passwords.{IsLongLine, IsNextPassword}
use Rattle.run_status.specs.declared.ended.Ended.{Ended}
use Rattle.run_status.specs.declared.status.Status.{Status}
use Rattle.run_status.specs.declared.status.Status.TheVariants.{Done, Memory, OutputFault, Violation}
use Rattle.cryfs_shell.specs.session_lines.Asking.{said_in}
use Rattle.cryfs_shell.specs.session_lines.Driven.{IsUnfailed}
use Rattle.session_laws.specs.Runs.{Outside, outside_of, lies}
use Rattle.cryfs_shell.specs.setup_runs.CreateText.{created_text}
use Rattle.cryfs_shell.specs.shell_runs.Sessions.{Session, ComesShell}
use Rattle.cryfs_shell.specs.program_words.declared.create_options.CreateOptions.{CreateOptions}
use Rattle.cryfs_shell.specs.mount_core.Showing.{ShowsFiles}
use Rattle.program_laws.specs.Honest.{IsHonestVault, IsHonestKeeper}
use Rattle.program_laws.specs.Made.{password, outside_in, IsWantOfMemory}
use Rattle.program_laws.specs.Transcript.{IsTranscript}
use Rattle.program_laws.proofs.Outputs.{create_output, session_output}
use Rattle.program_laws.proofs.Texts.{asked_lines, answered}

memory_done : Memory ≡ Done → ⊥
memory_done e = cc

fault_done : OutputFault ≡ Done → ⊥
fault_done e = cc

-- a count that stands at nothing didn't rise
at_rest : (n m : ℕ) → n ≡ 0 → m ≡ 0 → ¬ RoseBy 1 n m
at_rest n m zero_n zero_m rose = omega (arith, zero_n, zero_m, rose)

same_rest : (n m : ℕ) → m ≡ n → n ≡ 0 → ¬ RoseBy 1 n m
same_rest n m same zero_n = at_rest n m zero_n (same ∙ zero_n)

none_more : (most n m : ℕ) → m < most → most + n ≡ 0 + m → ⊥
none_more most n m less e = omega (arith, less, e)

-- fewer than 2^63 bytes were there
pub few : (input : Stream) (old new : List ℕ) → input.old ≡ Some old → input.new ≡ Some new → length old < 2 ^ 63 → ¬ TookMost 0 input
few input old new was is less most = none_more (2 ^ 63) (length new) (length old) less (same_Some _ _ (sym (ap (total (2 ^ 63)) is) ∙ (most ∙ ap (total 0) was)))

-- nothing was troubled
pub untroubled : (input output : Stream) (v w : VaultState) (k l : KeeperState) → IsHonestVault v → IsHonestVault w → IsHonestKeeper k → IsHonestKeeper l → input.faults ≡ 0 → input.risen ≡ 0
    → ¬ TookMost 0 input → output.faults ≡ 0 → IsUnfailed output → IsUntroubled input output (outside_in v k) (outside_in w l)
untroubled input output v w k l hv hw hk hl taken risen less given unfailed = record {
  honest = omega (arith, hv.truthful, hw.truthful);
  directory_unfailed = at_rest v.faults w.faults hv.faultless hw.faultless;
  state_unfailed = at_rest k.faults l.faults hk.faultless hl.faultless;
  input_unfailed = at_rest input.faults input.risen taken risen;
  output_unfailed = same_rest output.faults output.risen unfailed given;
  few = less;
}

-- the first line is the password, which isn't long
pub first_is : (script : List ℕ) → first_line (password ++ 10 ∷ script) ≡ password
first_is script = refl

pub short : ¬ IsLongLine password
short long = omega (arith, long)

-- ---- create

abbrev pub Ran : {V : Type 0} {K : Type 0} → (V → Option (List Call)) → (V → ℕ) → KeeperGhosts K → CreateOptions → Chance → Chance → Stream → Stream → V → K → Ended V K → Type 0
Ran trace faults G options stream rest input output vault keeper ended = RanCreate trace faults G options.params options.block_size stream rest input output vault keeper ended

module _ {V : Type 0} {K : Type 0} (trace : V → Option (List Call)) (faults : V → ℕ) (G : KeeperGhosts K) (complete : CreateCompletes trace faults G) (input output : Stream) (vault : V) (keeper : K) (ended : Ended V K)
    (options : CreateOptions) (stream rest : Chance) (ran : Ran trace faults G options stream rest input output vault keeper ended) (bytes : List ℕ) (told : input.old ≡ Some bytes) (is_short : ¬ IsLongLine (first_line bytes))
    (bare : IsBare (outside_of trace faults G vault keeper))
    (quiet : IsUnfailed output → IsUntroubled input output (outside_of trace faults G vault keeper) (outside_of trace faults G ended.vault ended.keeper)) where
  abbrev CreateEnd : Type 0
  CreateEnd = StaysOrMakes output (first_line bytes) (new_settings options.block_size (drawn stream).0) (outside_of trace faults G ended.vault ended.keeper) ended.status
      ⊎ IsDone output (created_text (drawn stream).0.fs_id) (first_line bytes) (new_settings options.block_size (drawn stream).0) empty_tree (outside_of trace faults G ended.vault ended.keeper) ended.status

  ended_so : CreateEnd ⊎ (ended.status ≡ OutputFault)
  ended_so = elim (create_output trace faults G input output vault keeper ended options.params options.block_size stream rest ran) as (λ _. CreateEnd ⊎ (ended.status ≡ OutputFault)) [
    | inl unfailed ↦ inl (complete options.params options.block_size stream rest input output vault keeper ended bytes ran bare told is_short (quiet unfailed))
    | inr failed ↦ inr failed
  ]

  pub unmade : ended.status ≢ Done → IsWantOfMemory ended.status
  unmade other = elim ended_so as (λ _. IsWantOfMemory ended.status) [
    | inl (inl stays) ↦ inl stays.ends
    | inl (inr done) ↦ absurd (other done.ends)
    | inr failed ↦ inr failed
  ]

  pub made_so : ended.status ≡ Done → Leaves (first_line bytes) (new_settings options.block_size (drawn stream).0) empty_tree (outside_of trace faults G ended.vault ended.keeper)
  made_so done = elim ended_so as (λ _. Leaves (first_line bytes) (new_settings options.block_size (drawn stream).0) empty_tree (outside_of trace faults G ended.vault ended.keeper)) [
    | inl (inl stays) ↦ absurd (memory_done (sym stays.ends ∙ done))
    | inl (inr made) ↦ made.leaves
    | inr failed ↦ absurd (fault_done (sym failed ∙ done))
  ]

-- ---- a session

module _ {V : Type 0} {K : Type 0} (trace : V → Option (List Call)) (faults : V → ℕ) (G : KeeperGhosts K) (now : Instant) (complete : SessionsComplete trace faults G (ComesShell now)) (input output : Stream) (vault : V) (keeper : K) (ended : Ended V K)
    (ran : Session trace faults G (ComesShell now input output) input output vault keeper ended) (calm : ended.status ≢ Violation) (bytes : List ℕ) (c : Settings) (first : Tree)
    (finds : Finds input bytes c first (outside_of trace faults G vault keeper))
    (quiet : IsUnfailed output → IsUntroubled input output (outside_of trace faults G vault keeper) (outside_of trace faults G ended.vault ended.keeper)) where
  abbrev SessionEnd : Type 0
  SessionEnd = FindsNoMemory output (first_line bytes) c first (outside_of trace faults G ended.vault ended.keeper) ended.status
      ⊎ ((script : Option (List ℕ)) × IsNextPassword input.old (first_line bytes) script
      × IsComplete (ComesShell now input output script) (first_line bytes) c first (outside_of trace faults G vault keeper) (outside_of trace faults G ended.vault ended.keeper) ended.status)

  served_so : SessionEnd ⊎ (ended.status ≡ OutputFault)
  served_so = elim (session_output trace faults G input output vault keeper ended now calm ran) as (λ _. SessionEnd ⊎ (ended.status ≡ OutputFault)) [
    | inl unfailed ↦ inl (complete input output vault keeper ended bytes c first ran finds (quiet unfailed))
    | inr failed ↦ inr failed
  ]

  pub unserved : ended.status ≢ Done → IsWantOfMemory ended.status
  unserved other = elim served_so as (λ _. IsWantOfMemory ended.status) [
    | inl (inl none) ↦ inl none.ends
    | inl (inr (script, next, served)) ↦ elim served.ends as (λ _. IsWantOfMemory ended.status) [ inl own ↦ absurd (other (own ∙ served.came.1.1)) | inr memory ↦ inl memory ]
    | inr failed ↦ inr failed
  ]

  pub transcript : (script : List ℕ) (state : PlainState) (list : FileChanges) (root : List ℕ) → bytes ≡ password ++ 10 ∷ script → input.old ≡ Some bytes → output.old ≡ Some [] → first ≡ empty_tree → IsLoaded (G.kept keeper) state list → KnowsOnly (G.kept keeper) root
      → length script < 2 ^ 63 → (text : List ℕ) → output.new ≡ Some text → ended.status ≡ Done → IsTranscript now script text
  transcript script state list root is told empty begins loaded knows less text written done = elim served_so as (λ _. IsTranscript now script text) [
    | inl (inl none) ↦ absurd (memory_done (sym none.ends ∙ done))
    | inl (inr (rest, next, served)) ↦
        let asked = asked_lines script (first_line bytes) rest served.es (subst (λ x. IsNextPassword x (first_line bytes) rest) (told ∙ ap Some is) next) served.came.1.0.asked in
        record {
          es = served.es;
          trees = served.trees;
          asked = asked;
          moments = served.came.0;
          replies = subst (λ t. IsSession t served.es served.trees) begins served.replies;
          answered = answered script served.es (G.kept keeper) state list root loaded knows less asked served.unfailed served.spent;
          said = same_Some _ _ (sym written ∙ (served.came.1.0.written ∙ ap (λ o. appends o (said_in served.es)) empty));
        }
    | inr failed ↦ absurd (fault_done (sym failed ∙ done))
  ]

-- over a directory that gives what was last written the status is no violation
pub calm_of : (only : HonestRunOpensOnly) (input : Stream) (before after : Outside) (ended : Status) → NoFalseAlarm input before after ended → (bytes : List ℕ) (c : Settings) (first : Tree) → Finds input bytes c first before
    → lies after ≤ lies before → ended ≢ Violation
calm_of only input before after ended alarm bytes c first finds gave =
    alarm bytes c first (record {
      told = finds.told;
      opens = record { stands = finds.stands; only = only c (quiet (first_line bytes) before after) (record { gave = gave; opens = inl finds.opens }) };
    }) gave

-- what stands for a tree is a record that isn't marked
pub loaded_of : (kept : Option (List ℕ)) (trace : Option (List Call)) (c : Settings) (tree : Tree) → Represents ShowsFiles kept trace c tree → (state : PlainState) × (list : FileChanges) × IsLoaded kept state list
loaded_of kept trace c tree rep =
    let s = rep.keeps.represents.2 in
    (s.held.state, s.held.list, record { keeps = record { bytes = rep.keeps.represents.0; kept = rep.keeps.represents.1; is_record = s.is_record }; unmarked = s.unmarked })

-- the script is shorter than the input, which has the password's line before it
pub shorter : (rest script : List ℕ) → rest ≡ password ++ 10 ∷ script → length rest < 2 ^ 63 → length script < 2 ^ 63
shorter rest script is less =
    let same = ap length is ∙ length-append password (10 ∷ script) in
    omega (arith, same, less)
