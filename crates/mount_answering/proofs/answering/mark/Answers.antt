use Rattle.std.proofs.Common.{set-set, ◌≡◌, sym, ◌∙◌, ap, subst, rules}
use Rattle.outside.specs.Plain.{IsPlain}
use Rattle.mount_core.specs.store_api.Durables.{mark_place, with_mark}
use Rattle.mount_answering.proofs.answering.mark.Goals as goal

pub returns-clause-ready : goal.returns-clause-ready
returns-clause-ready g c =
    let ready = c.requires.ready in
    let marks = c.mark.ensures.marks in
    let last = c.args.core.now.saver.last.items in
    let twice : with_mark (with_mark last) ≡ with_mark last = set-set last mark_place 1 1 in
    record {
      intact = ready.intact;
      empty = ready.empty;
      few = ready.few;
      room = search rules;
      can_mark = record {
        marks = search rules;
        long = search rules;
        plain = subst IsPlain (sym (ap with_mark marks.last ∙ twice)) ready.can_mark.plain;
      };
      whole = search rules;
    }
