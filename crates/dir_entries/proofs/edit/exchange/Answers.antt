-- Each order of the two places makes its edit, and there is no third.
use Rattle.std.proofs.Common.{◌≡◌, ◌++◌, ◌-◌, take, drop, ◌∙◌, ap, arith}
use Rattle.dir_entries.proofs.Renames.{edit_behind, edit_behind_is, edit_in_front, edit_in_front_is, edit_somewhere}
use Rattle.dir_entries.proofs.edit.exchange.Goals as goal

pub returns-then-old-new-clause-edits : goal.returns-then-old-new-clause-edits
returns-then-old-new-clause-edits c = λ name e listing target is place place2 own text.
    let old = c.args.old in
    let new = c.args.new in
    let bytes : c.extend_from_slice.new.self.items ≡ take (new.front - old.back) (drop old.back c.args.body.now) ++ c.args.entry.items =
    c.in_ok-extend_from_slice.ensures.items ∙ (ap (λ z. z ++ c.deref.result.now) c.in_ok-bytes.ensures.items ∙ ap (λ z. take (new.front - old.back) (drop old.back c.args.body.now) ++ z) c.deref.ensures.value) in
    record {
      entries = edit_behind_is name target e listing c.args.body.now old.front old.back new.front new.back is own place place2 c.requires.old.1 c.requires.new.1 c.if-old-new.true;
      text = edit_behind name target e listing c.args.body.now old.front old.back new.front new.back is own place place2 c.requires.old.1 c.requires.new.1 c.if-old-new.true _ (bytes ∙ ap (λ z. take (new.front - old.back) (drop old.back c.args.body.now) ++ z) text);
    }

pub returns-then-new-old-clause-edits : goal.returns-then-new-old-clause-edits
returns-then-new-old-clause-edits c = λ name e listing target is place place2 own text.
    let old = c.args.old in
    let new = c.args.new in
    record {
      entries = edit_in_front_is name target e listing c.args.body.now old.front old.back new.front new.back is own place place2 c.requires.old.1 c.requires.new.1 c.if-new-old.true;
      text = edit_in_front name target e listing c.args.body.now old.front old.back new.front new.back is own place place2 c.requires.old.1 c.requires.new.1 c.if-new-old.true _
          (c.in_ok-extend_from_slice-2.ensures.items ∙ ap (λ z. z ++ take (old.front - new.back) (drop new.back c.args.body.now)) text);
    }

pub returns-clause-edits : goal.returns-clause-edits
returns-clause-edits c = λ name e listing target is place place2 own text.
    let old = c.args.old in
    let new = c.args.new in
    edit_somewhere name target e listing c.args.body.now old.front old.back new.front new.back is own place place2 c.requires.old.1 c.requires.new.1
    (omega (arith, c.if-old-new.false)) (omega (arith, c.if-new-old.false))
