-- One command of a look, by what was performed.
use Rattle.std.proofs.Common.{◌≡◌, ℕ, false, refl, sym, ◌∙◌, ap, subst}
use Rattle.std.specs.FinMap as fin
use Rattle.std.specs.declared.result.Result.TheVariants.{Ok, Err}
use Rattle.block_id.specs.declared.fail.Fail.{Fail}
use Rattle.block_id.specs.declared.fail.Fail.TheVariants.{Memory as FailMemory, Fault, Violation as FailViolation}
use Rattle.fs_model.proofs.LawLemmas.{looking_stays}
use Rattle.fs_model.specs.Instant.{Instant}
use Rattle.fs_model.specs.Laws.{OnlyLooks}
use Rattle.fs_model.specs.Step.{step, Stepped}
use Rattle.fs_model.specs.Tree.{Tree}
use Rattle.fs_model.specs.declared.command.Command.{Command}
use Rattle.fs_model.specs.declared.reply.Reply.{Reply}
use Rattle.mount_answering.proofs.Lines.{fail_each, found_of, of_blocks, over_empty}
use Rattle.mount_answering.proofs.path_layer_lemmas.Shows.{files_same}
use Rattle.mount_answering.specs.answers.declared.answer.Answer.TheVariants.{Reply as Replied}
use Rattle.mount_answering.specs.answers.Sessions.{Follows, is_refused}
use Rattle.mount_answering.specs.mount_core.Answers.{answer_of_fail, OnReply}
use Rattle.mount_answering.specs.mount_core.NoticeLaws.{notices_of}
use Rattle.mount_answering.specs.mount_core.path_layer.Performing.{IsReplyTo, Shown, Steps}
use Rattle.mount_answering.specs.mount_core.path_layer.Showing.{ShowsFiles}
use Rattle.mount_answering.specs.store_api.Holdings.{Holdings}
use Rattle.mount_answering.specs.store_api.Txs.{content_of, tx_meanings}
use Rattle.mount_answering.specs.store_api.declared.tx.Tx.{Tx}
use Rattle.mount_answering.specs.store_outcome.Meanings.{HasCause, Meanings, UnlessFault}
use Rattle.mount_answering.specs.store_outcome.Outcome.{Outcome}
use Rattle.looking.specs.Hosting.{IsLook, TellsFault, store_of}
use Rattle.looking.specs.declared.host.Looked.{Looked}

-- a look's reply is that of the tree, which stays
steps_follow : (now : Instant) (tree next : Tree) (command : Command) (reply : Reply) → OnlyLooks command → step tree now command ≡ record { reply = reply; tree = next } → Follows now tree command (Replied reply) tree
steps_follow now tree next command reply looks e =
    subst (λ (t : Tree). step tree now command ≡ record { reply = reply; tree = t }) (sym (ap (λ (s : Stepped). s.tree) e) ∙ looking_stays tree now command looks) e

fail_follows : (now : Instant) (tree : Tree) (command : Command) (f : Fail) → Follows now tree command (answer_of_fail f) tree
fail_follows now tree command f = fail_each f (λ answer. Follows now tree command answer tree) refl refl (λ why. refl)

fault_told : (f : Fail) (before after : ℕ) → HasCause f before after → UnlessFault f (after ≡ before) → TellsFault (answer_of_fail f) before after
fault_told FailMemory before after cause quiet = quiet
fault_told Fault before after cause quiet = cause
fault_told (FailViolation why) before after cause quiet = quiet

module _ {S : Type 0} (M : Meanings S) (H : Holdings S) (now : Instant) (old : Looked S) (command : Command) (empty : old.blobs.tx.overlay ≡ fin.empty) where
  abbrev Needs : Type 0
  Needs = Shown (ShowsFiles (H.payload (store_of old)) old.root.0) (content_of H old.blobs.tx)

  abbrev Gives : Tx S → Needs → Reply → Type 0
  Gives mid n reply = Steps (ShowsFiles (H.payload (store_of old)) old.root.0) now n.tree command (content_of H mid) reply

  abbrev shown : (tree : Tree) → ShowsFiles (H.payload (store_of old)) old.root.0 (H.content (store_of old)) tree → Needs
  shown tree s = record {
    tree = tree;
    shown = files_same (H.payload (store_of old)) old.root.0 (H.content (store_of old)) (content_of H old.blobs.tx) tree (over_empty old.blobs.tx.overlay (H.content (store_of old)) empty) s;
  }

  pub done : (mid : Tx S) (reply : Reply) → OnlyLooks command → IsReplyTo command reply → Outcome (tx_meanings M H) Needs old.blobs.tx mid (Ok reply) (Gives mid) → IsLook M H now old command (Replied reply) mid.store
  done mid reply only form o = record {
    loads = record { loaded = o.loaded.0; sound = o.sound; met = tt; faults = o.quiet; noticed = o.noticed };
    served = refl;
    form = form;
    looks = λ looks tree s sound few.
        let steps = o.value (shown tree s) sound few in
        (steps_follow now tree steps.next command reply looks steps.stepped, refl);
    changes = λ none. absurd (none only);
  }

  pub failed : (mid : Tx S) (f : Fail) → OnlyLooks command → Outcome (tx_meanings M H) {T = Reply} Needs old.blobs.tx mid (Err f) (Gives mid) → IsLook M H now old command (answer_of_fail f) mid.store
  failed mid f only o = record {
    loads = record {
      loaded = o.loaded.0;
      sound = o.sound;
      met = found_of f (M.met (store_of old) mid.store) (M.met (store_of old) mid.store) (λ why m. m) o.met;
      faults = fault_told f (M.faults (store_of old)) (M.faults mid.store) o.fault o.quiet;
      noticed = notices_of f (M.gave (store_of old) mid.store) (M.gave (store_of old) mid.store) (λ why g. g) o.noticed;
    };
    served = fail_each f (λ answer. is_refused answer ≡ false) refl refl (λ why. refl);
    form = fail_each f (λ answer. OnReply answer (IsReplyTo command)) tt tt (λ why. tt);
    looks = λ looks tree s sound few. (fail_follows now tree command f, of_blocks f (o.structure (shown tree s) sound few));
    changes = λ none. absurd (none only);
  }
