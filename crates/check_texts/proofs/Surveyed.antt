-- The text of a survey, behind its first line.
use Rattle.std.proofs.Common.{◌≡◌, ℕ, Bool, true, false, cond, List, [], ◌++◌, map, nat_eq, refl, sym, ◌∙◌, ap, subst, append-nil}
use Rattle.std.specs.Prelude.{Result}
use Rattle.std.specs.declared.option.Option.{Option}
use Rattle.std.specs.declared.result.Result.TheVariants.{Ok, Err}
use Rattle.block_id.specs.declared.fail.Fail.{Fail}
use Rattle.block_id.specs.declared.fail.Fail.TheVariants as fail
use Rattle.block_id.specs.declared.fail.Memory as memory
use Rattle.check_refused.specs.Surveys.{refusals, ungiven_of}
use Rattle.check_refused.specs.declared.survey.Ungiven.{Ungiven}
use Rattle.copy_sessions.proofs.line_io_lemmas.Flow.{appends-append}
use Rattle.copy_sessions.specs.line_io.Streams.{Stream}
use Rattle.copy_sessions.specs.session_lines.Driven.{IsUnfailed}
use Rattle.cryfs_check.specs.declared.checking.Checked.{Checked}
use Rattle.outside.specs.Causes.{RoseBy}
use Rattle.outside.specs.Streams.{appends}
use Rattle.run_status.specs.declared.status.Status.{Status}
use Rattle.run_status.specs.declared.status.Status.TheVariants.{Violation, DirectoryFault, OutputFault, Memory}
use Rattle.check_texts.proofs.Passing.{flow, stops_further}
use Rattle.check_texts.proofs.Told.{behind}
use Rattle.check_texts.specs.Printing.{IsCut, IsPrinted}
use Rattle.check_texts.specs.Refusals.{first_text, rest_text}
use Rattle.check_texts.specs.Surveys.{AreUngivenTold, IsTextCut, IsTextTold, status_found}
use Rattle.check_texts.specs.declared.error.PrintError.{PrintError}
use Rattle.check_texts.specs.declared.error.PrintError.TheVariants as print_error

-- the status of what was found is that of a text that was written whole
by_count : (b : Bool) (first rest : List ℕ) (o : Stream) → (o.new ≡ appends o.old (first ++ rest)) × IsUnfailed o → IsTextTold (cond b DirectoryFault Violation) first rest o (cond b DirectoryFault Violation)
by_count true first rest o t = (refl, t.0, t.1)
by_count false first rest o t = (refl, t.0, t.1)

is_told : (verdict : Result Checked Fail) (refused : ℕ) (first rest : List ℕ) (o : Stream) → (o.new ≡ appends o.old (first ++ rest)) × IsUnfailed o → IsTextTold (status_found verdict refused) first rest o (status_found verdict refused)
is_told (Ok found) refused first rest o t = (refl, t.0, t.1)
is_told (Err fail.Memory) refused first rest o t = (refl, t.0, t.1)
is_told (Err fail.Fault) refused first rest o t = by_count (nat_eq refused 0) first rest o t
is_told (Err (fail.Violation why)) refused first rest o t = (refl, t.0, t.1)

module _ (verdict : Result Checked Fail) (ungiven : List Ungiven) where
  -- a text that ended in its midst, whether or not all blocks were asked for
  pub failed_told : (end : Result (Unit {0}) memory.Memory) (o : Stream) → IsTextCut (first_text verdict) (rest_text ungiven end) o OutputFault → AreUngivenTold verdict ungiven end o OutputFault
  failed_told (Ok u) o c = c
  failed_told (Err e) o c = c

  pub memory_told : (end : Result (Unit {0}) memory.Memory) (o : Stream) → IsTextCut (first_text verdict) (rest_text ungiven end) o Memory → AreUngivenTold verdict ungiven end o Memory
  memory_told (Ok u) o c = c
  memory_told (Err e) o c = c

  -- one that was written whole
  pub all_told : (end : Result (Unit {0}) memory.Memory) (u : Unit {0}) (o : Stream) (status : Status) → end ≡ Ok u → status ≡ status_found verdict (refusals (map ungiven_of ungiven))
      → (o.new ≡ appends o.old (first_text verdict ++ rest_text ungiven end)) × IsUnfailed o → AreUngivenTold verdict ungiven end o status
  all_told (Ok v) u o status same is t =
      subst (λ (s : Status). IsTextTold (status_found verdict (refusals (map ungiven_of ungiven))) (first_text verdict) (rest_text ungiven (Ok v)) o s) (sym is)
      (is_told verdict (refusals (map ungiven_of ungiven)) (first_text verdict) (rest_text ungiven (Ok v)) o t)
  all_told (Err e) u o status same is t = absurd (cc)

  -- the first line wasn't written
  pub first_failed : (end : Result (Unit {0}) memory.Memory) (o : Stream) (error : PrintError) → error ≡ print_error.Failed → IsCut o (first_text verdict) error → AreUngivenTold verdict ungiven end o OutputFault
  first_failed end o error is c = failed_told end o (stops_further o (first_text verdict) (rest_text ungiven end) print_error.Failed (subst (λ (k : PrintError). IsCut o (first_text verdict) k) is c))

-- ---- behind a first line that was written

module _ (w0 w1 w2 : Option (List ℕ)) (f0 f1 f2 : ℕ) (first rest waiting after : List ℕ) (u : Unit {0}) (p : IsPrinted (flow w0 w1 f0 f1) first waiting (Ok u)) where
  pub both_written : (v : Unit {0}) → IsPrinted (flow w1 w2 f1 f2) rest after (Ok v) → (w2 ≡ appends w0 (first ++ rest)) × (f2 ≡ f0)
  both_written v q = (q.0 ∙ (ap (λ (w : Option (List ℕ)). appends w rest) p.0 ∙ appends-append w0 first rest), q.1 ∙ p.1)

  pub rest_failed : IsCut (flow w1 w2 f1 f2) rest print_error.Failed → IsTextCut first rest (flow w0 w2 f0 f2) OutputFault
  rest_failed c = (behind w0 w1 w2 first rest p.0 c.0, subst (λ f. RoseBy 1 f f2) p.1 c.1)

  pub rest_wanting : IsCut (flow w1 w2 f1 f2) rest print_error.Memory → IsTextCut first rest (flow w0 w2 f0 f2) Memory
  rest_wanting c = ((c.0.0, c.0.1, c.0.2, c.0.3 ∙ (ap (λ (w : Option (List ℕ)). appends w c.0.0) p.0 ∙ appends-append w0 first c.0.0)), c.1 ∙ p.1)

  -- it was written whole, and memory was wanting before
  pub rest_whole : (v : Unit {0}) → IsPrinted (flow w1 w2 f1 f2) rest after (Ok v) → IsTextCut first rest (flow w0 w2 f0 f2) Memory
  rest_whole v q = let both = both_written v q in ((rest, [], sym (append-nil rest), both.0), both.1)
