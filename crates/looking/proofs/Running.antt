-- One line over found blocks, and what a look asked for.
use Rattle.std.proofs.Common.{◌≡◌, ◌⊎◌, ◌≤◌, ℕ, Bool, true, false, List, refl, sym, ◌∙◌, ap, subst, inl, inr}
use Rattle.std.specs.Prelude.{◌||◌, Ok, Err}
use Rattle.std.specs.declared.option.Option.{Option}
use Rattle.fs_model.specs.Instant.{Instant}
use Rattle.fs_model.specs.declared.error.FsError.{FsError}
use Rattle.fs_model.specs.declared.reply.Reply.TheVariants.{Error}
use Rattle.outside.specs.Trace.{Call}
use Rattle.found_blocks.specs.Finding.{Finding}
use Rattle.found_blocks.specs.declared.store.FoundStore.{FoundStore}
use Rattle.looking.specs.Finding.{calls_in, finding_in, found_holdings, found_meanings}
use Rattle.looking.specs.Hosting.{IsAskedLook, LookAnswers, looked_hosting, store_of}
use Rattle.looking.specs.declared.host.Looked.{Looked}
use Rattle.looking.proofs.Asked.{reads_got}
use Rattle.looking.specs.Runs.{IsAnsweredLook, Sees, twins}
use Rattle.run_status.specs.declared.status.Status.{Status}
use Rattle.session_laws.specs.answers.Sessions.{Asked, is_violation}
use Rattle.session_laws.specs.answers.declared.answer.Answer.{Answer}
use Rattle.session_laws.specs.answers.declared.answer.Answer.TheVariants.{Reply as Replied, Memory}
use Rattle.session_laws.specs.config_file.declared.config.Cipher.{Cipher}
use Rattle.session_laws.specs.line_io.Streams.{Stream}
use Rattle.session_laws.specs.mount_core.Answers.{is_structure}
use Rattle.session_laws.specs.run_frame.Statuses.{session_status}
use Rattle.mount_answering.specs.script_text.Grammar.{command_of}
use Rattle.session_laws.specs.session_lines.Driven.{AnsweredOne}
use Rattle.session_laws.specs.session_lines.declared.end.End.{End}

-- ---- one line

or_none : (b : Bool) → (b || false) ≡ b
or_none true = refl
or_none false = refl

bad_built : (error : FsError) (answer : Answer) → (answer ≡ Replied (Error error)) ⊎ (answer ≡ Memory) → is_structure answer ≡ false
bad_built error answer (inl e) = ap is_structure e
bad_built error answer (inr e) = ap is_structure e

module _ {V : Type 0} (trace : V → Option (List Call)) (faults : V → ℕ) (now : Instant) where
  abbrev Host : Type 0
  Host = Looked (FoundStore V Cipher)

  sees_of : (l k : Host) (asked : Asked) (answer : Answer) → finding_in (store_of k) ≡ finding_in (store_of l) → IsAskedLook (found_meanings trace faults) found_holdings now l asked answer k
      → Sees (finding_in (store_of l)) l.root.0 now asked answer (calls_in trace (store_of l)) (calls_in trace (store_of k))
  sees_of l k (Ok command) answer same a = record {
    follows = λ tree looks shows told few.
        a.1 looks tree shows told (subst (λ (f : Finding). twins f (calls_in trace (store_of k)) ≤ twins (finding_in (store_of l)) (calls_in trace (store_of l))) (sym same) few);
    unchanged = λ changes. a.2 changes;
    form = a.0;
  }
  sees_of l k (Err error) answer same a = record {
    follows = λ tree looks shows told few. ((a, refl), bad_built error answer a);
    unchanged = λ changes. absurd (changes tt);
    form = a;
  }

  answered_at : (line : List ℕ) (l k : Host) (output : Stream) (end : End) → l.violated ≡ false → AnsweredOne (looked_hosting (found_meanings trace faults) found_holdings) now l k line output end
      → IsAnsweredLook trace faults now line l output (session_status k.violated end (Ok tt)) (store_of k).sealed.vault.vault
  answered_at line l k output end fresh (answer, one) =
      let (mid, same, turned) = one.ran in
      let a : LookAnswers (found_meanings trace faults) found_holdings now l (command_of line) answer k =
      subst (λ (m : Host). LookAnswers (found_meanings trace faults) found_holdings now m (command_of line) answer k) same turned in
      record {
        answer = answer;
        end = end;
        sees = sees_of l k (command_of line) answer a.loads.loaded.same (a.asked_of fresh);
        told = record {
          only_got = reads_got (finding_in (store_of l)) (calls_in trace (store_of l)) (calls_in trace (store_of k)) a.loads.loaded.trace;
          met = a.loads.met;
          noticed = a.loads.noticed;
          fault = a.loads.faults;
          grows = a.loads.loaded.faults;
        };
        written = one.written;
        status_is = ap (λ v. session_status v end (Ok tt)) (a.flag ∙ (ap (λ v. is_violation answer || v) fresh ∙ or_none (is_violation answer)));
      }

  -- the same by the status and the directory that are given back
  pub answered : (line : List ℕ) (l k : Host) (output : Stream) (end : End) → l.violated ≡ false → AnsweredOne (looked_hosting (found_meanings trace faults) found_holdings) now l k line output end
      → (status : Status) (vault : V) → status ≡ session_status k.violated end (Ok tt) → vault ≡ (store_of k).sealed.vault.vault → IsAnsweredLook trace faults now line l output status vault
  answered line l k output end fresh one status vault told given =
      subst (λ (s : Status). IsAnsweredLook trace faults now line l output s vault) (sym told)
      (subst (λ (v : V). IsAnsweredLook trace faults now line l output (session_status k.violated end (Ok tt)) v) (sym given) (answered_at line l k output end fresh one))
