-- A session that was done is a transcript.
use Rattle.std.proofs.Common.{◌≡◌, ◌≤◌, ◌<◌, ◌+◌, ◌-◌, ◌^◌, ◌++◌, ◌∙◌, ℕ, true, false, List, [], ◌∷◌, length, map, refl, sym, ap, subst, inl, inr, arith, length-append}
use Rattle.std.specs.Prelude.{cond}
use Rattle.std.specs.FinMap as fin
use Rattle.std.specs.declared.option.Option.{Option}
use Rattle.std.specs.declared.option.Option.TheVariants.{Some}
use Rattle.std.proofs.lemmas.Bool.{cases_Bool}
use Rattle.std.proofs.lemmas.List.{length-map}
use Rattle.cryfs_shell.specs.answers.Sessions.{Exchange}
use Rattle.cryfs_shell.specs.answers.declared.answer.Answer.{Answer}
use Rattle.cryfs_shell.specs.answers.declared.answer.Answer.TheVariants.{Reply as Replied, Memory, Spent, FaultDirectory, FaultState, Violation, Refused}
use Rattle.program_laws.specs.Sessions.{IsFaultless, AreFaultless}
use Rattle.cryfs_shell.specs.block_versions.Stores.{version_in}
use Rattle.cryfs_shell.specs.line_io.Lines.{lines, is_newline, onto_first}
use Rattle.session_laws.specs.local_state.Record.{PlainState}
use Rattle.cryfs_shell.specs.mount.Making.{KnowsOnly}
use Rattle.cryfs_shell.specs.mount_core.Answers.{OnSpent}
use Rattle.cryfs_shell.specs.mount_stores.Opening.{IsLoaded}
use Rattle.cryfs_shell.proofs.mount_stores_lemmas.Reading.{are_known}
use Rattle.outside.specs.Changes.{FileChanges}
use Rattle.cryfs_shell.specs.run_frame.Passwords.{IsNextPassword}
use Rattle.copy_file.specs.script_text.Grammar.{command_of}
use Rattle.cryfs_shell.specs.session_lines.Asking.{asked_in, AskedAll}
use Rattle.session_laws.specs.Causes.{AreSpent, SpentSince}
use Rattle.copy_file.specs.store_api.Content.{same_id}
use Rattle.copy_file.proofs.store_api_lemmas.Rising.{same_id_is}
use Rattle.program_laws.specs.Made.{password}
use Rattle.program_laws.specs.Transcript.{IsReplyOrMemory, AreRepliesOrMemory}

-- the lines behind the password's are those of the script
lines_behind : (script : List ℕ) → lines (password ++ 10 ∷ script) ≡ password ∷ lines script
lines_behind script = refl

same_behind : (a : List ℕ) (b c : List (List ℕ)) → a ∷ b ≡ a ∷ c → b ≡ c
same_behind a b c e = cc

lines_of : (script : List ℕ) (line : List ℕ) (more : Option (List ℕ)) → IsNextPassword (Some (password ++ 10 ∷ script)) line more → (rest : List ℕ) × (more ≡ Some rest) × (lines rest ≡ lines script)
lines_of script line more (inl (rest, is, same, ends)) = (rest, same, cc (is, lines_behind script))
lines_of script line more (inr (ends, empty, same)) = absurd (cc (ends))

pub asked_lines : (script : List ℕ) (line : List ℕ) (more : Option (List ℕ)) (es : List Exchange) → IsNextPassword (Some (password ++ 10 ∷ script)) line more → AskedAll more es → asked_in es ≡ map command_of (lines script)
asked_lines script line more es next asked =
    let l = lines_of script line more next in
    let a : AskedAll (Some l.0) es = subst (λ m. AskedAll m es) l.1 asked in
    a ∙ ap (map command_of) l.2

-- each line was answered, so there are no more exchanges than bytes
one_each : (es : List Exchange) → length (asked_in es) ≡ length es
one_each [] = refl
one_each (e ∷ es) = length-append (asked_in es) (e.asked ∷ []) ∙ (let rest = one_each es in omega (arith, rest))

first_length : (byte : ℕ) (all : List (List ℕ)) → length (onto_first byte all) ≤ length all + 1
first_length byte [] = omega arith
first_length byte (line ∷ more) = omega arith

few_lines : (bytes : List ℕ) → length (lines bytes) ≤ length bytes
few_lines [] = omega arith
few_lines (byte ∷ bytes) = elim (is_newline byte) as (λ b. length (cond b ([] ∷ lines bytes) (onto_first byte (lines bytes))) ≤ length (byte ∷ bytes)) [
  | true ↦ let rest = few_lines bytes in omega (arith, rest)
  | false ↦ let rest = few_lines bytes in let first = first_length byte (lines bytes) in omega (arith, rest, first)
]

few_exchanges : (script : List ℕ) (es : List Exchange) → asked_in es ≡ map command_of (lines script) → length es ≤ length script
few_exchanges script es asked =
    let few = few_lines script in
    let each = one_each es in
    let same : length (asked_in es) ≡ length (lines script) = ap length asked ∙ length-map (lines script) command_of in
    omega (arith, few, each, same)

-- ---- no version comes near its last

unspent : (answer : Answer) (version : List ℕ → ℕ) (n : ℕ) → ((id : List ℕ) → version id ≤ 1) → n < 2 ^ 63 → IsFaultless answer → OnSpent answer ((id : List ℕ) × (2 ^ 64 ≤ version id + n + 1)) → IsReplyOrMemory answer
unspent (Replied reply) version n young few faultless cause = tt
unspent Memory version n young few faultless cause = tt
unspent Spent version n young few faultless (id, most) = let low = young id in absurd (omega (arith, low, few, most))
unspent FaultDirectory version n young few faultless cause = absurd faultless
unspent FaultState version n young few faultless cause = absurd faultless
unspent (Violation why) version n young few faultless cause = absurd faultless
unspent Refused version n young few faultless cause = absurd faultless

all_unspent : (es : List Exchange) (version : List ℕ → ℕ) → ((id : List ℕ) → version id ≤ 1) → length es < 2 ^ 63 → AreFaultless es → AreSpent version es → AreRepliesOrMemory es
all_unspent [] version young few faultless spent = tt
all_unspent (e ∷ es) version young few faultless spent =
    (unspent e.answer version (length es) young (omega (arith, few)) faultless.0 spent.0, all_unspent es version young (omega (arith, few)) faultless.1 spent.1)

young_known : (kept : Option (List ℕ)) (state : PlainState) (list : FileChanges) (root : List ℕ) → IsLoaded kept state list → KnowsOnly kept root → (id : List ℕ) → version_in (fin.get state.lives id) ≤ 1
young_known kept state list root loaded knows id =
    let k = knows state list loaded in
    elim (cases_Bool (same_id id root)) as (λ _. version_in (fin.get state.lives id) ≤ 1) [
      | inl same ↦ subst (λ x. version_in (fin.get state.lives x) ≤ 1) (sym (same_id_is id root same)) k.0
      | inr other ↦ let none = k.1 id other in omega (arith, none)
    ]

pub answered : (script : List ℕ) (es : List Exchange) (kept : Option (List ℕ)) (state : PlainState) (list : FileChanges) (root : List ℕ) → IsLoaded kept state list → KnowsOnly kept root
    → length script < 2 ^ 63 → asked_in es ≡ map command_of (lines script) → AreFaultless es → SpentSince kept es → AreRepliesOrMemory es
answered script es kept state list root loaded knows few asked faultless spent =
    let version : List ℕ → ℕ = λ id. version_in (fin.get state.lives id) in
    let less = few_exchanges script es asked in
    all_unspent es version (young_known kept state list root loaded knows) (omega (arith, few, less)) faultless (spent version (are_known kept state list version loaded (λ id. refl)))
