use Rattle.std.proofs.Common.{◌<◌, ◌++◌, ◌∷◌, [], List, ℕ, length, arith, ap, ◌∙◌}
use Rattle.std.specs.declared.alloc.Global.{Global}
use Rattle.std.specs.declared.vec.Vec.{Vec}
use Rattle.check_texts.proofs.Owned.{file_more, file_there}
use Rattle.check_texts.proofs.strangers.push_files.Goals as goal
use Rattle.check_texts.proofs.strangers.push_files.Goals.{in-Some+in_ok-file_text+in_ok-push, in_default}

pub loop-i-preserved : goal.loop-i-preserved
loop-i-preserved c =
    let owners = c.args.owners.now in
    let i = c.loop-i.i in
    let within : i < length owners = omega (arith, c.loop-i-test.true, c.len-i-end.ensures) in
    elim c.match-id.branch [
      | in-Some+in_ok-file_text+in_ok-push w ↦
          ap (λ (fs : Vec (List ℕ) Global). fs.items) w.files-is
          ∙ (w.in_ok-push.ensures.items
          ∙ (ap (λ n. c.loop-i.files.items ++ n ∷ []) w.in_ok-file_text.ensures ∙ file_more owners i w.in-Some.id c.loop-i.files.items c.args.files.now.items within w.in-Some.ensures c.loop-i.invariant))
      | in_default w ↦ absurd (file_there owners i within w.in_default.ensures)
    ]
