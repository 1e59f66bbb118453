-- Strangers behind owners, where their text ends in its midst.
use Rattle.std.proofs.Common.{◌≡◌, ℕ, List, ◌++◌, inr, sym, ◌∙◌, ap, subst, append_assoc}
use Rattle.std.specs.Prelude.{IfSome}
use Rattle.std.specs.declared.option.Option.{Option}
use Rattle.cryfs_check.specs.check_rules.Certificates.{Owners}
use Rattle.copy_sessions.proofs.line_io_lemmas.Flow.{appends-append}
use Rattle.copy_sessions.specs.line_io.Streams.{Cut}
use Rattle.outside.specs.Causes.{RoseBy}
use Rattle.outside.specs.Streams.{appends}
use Rattle.run_status.specs.declared.status.Status.{Status}
use Rattle.check_texts.proofs.Passing.{flow}
use Rattle.check_texts.specs.Printing.{IsCut}
use Rattle.check_texts.specs.Strangers.{IsInOrder, strangers_text}
use Rattle.check_texts.specs.Telling.{AreOwnersTold, status_of}
use Rattle.check_texts.specs.Texts.{owners_text}
use Rattle.check_texts.specs.declared.error.PrintError.{PrintError}
use Rattle.check_texts.specs.declared.error.PrintError.TheVariants.{Memory, Failed}

pub behind : (w0 w1 w2 : Option (List ℕ)) (first text : List ℕ) → w1 ≡ appends w0 first → Cut w1 w2 text → Cut w0 w2 (first ++ text)
behind w0 w1 w2 first text e (part, rest, is, written) =
    (first ++ part, rest, ap (λ u. first ++ u) is ∙ sym (append_assoc first part rest), written ∙ (ap (λ u. appends u part) e ∙ appends-append w0 first part))

pub strangers_cut : (told : Option (List (List ℕ))) (owners : Owners) (w0 w1 w2 : Option (List ℕ)) (f0 f1 f2 : ℕ) (names sorted : List (List ℕ)) (error : PrintError) (status : Status)
    → IfSome told (λ list. names ≡ list) → w1 ≡ appends w0 (owners_text owners) → f1 ≡ f0 → IsInOrder names sorted → IsCut (flow w1 w2 f1 f2) (strangers_text owners sorted) error → status ≡ status_of error
    → AreOwnersTold told owners (flow w0 w2 f0 f2) status
strangers_cut told owners w0 w1 w2 f0 f1 f2 names sorted Failed status all first quiet in_order c is =
    subst (λ (s : Status). AreOwnersTold told owners (flow w0 w2 f0 f2) s) (sym is)
    (inr (sorted, record { names = names; all = all; in_order = in_order }, behind w0 w1 w2 (owners_text owners) (strangers_text owners sorted) first c.0), subst (λ f. RoseBy 1 f f2) quiet c.1)
strangers_cut told owners w0 w1 w2 f0 f1 f2 names sorted Memory status all first quiet in_order c is =
    subst (λ (s : Status). AreOwnersTold told owners (flow w0 w2 f0 f2) s) (sym is)
    (inr (sorted, record { names = names; all = all; in_order = in_order }, behind w0 w1 w2 (owners_text owners) (strangers_text owners sorted) first c.0), c.1 ∙ quiet)
