use Rattle.check_texts.proofs.Told.{strangers_cut}
use Rattle.check_texts.proofs.telling.tell_owners.Goals as goal

pub returns-in-Err-print_strangers-clause-told : goal.returns-in-Err-print_strangers-clause-told
returns-in-Err-print_strangers-clause-told g c =
    let p = c.in_default.ensures.printed in
    let s = c.in-Err-print_strangers.ensures.printed in
    strangers_cut _ c.args.owners.now _ _ _ _ _ _ c.in-Ok.names.items s.0 c.in-Err-print_strangers.error _ c.in-Ok.ensures.ok p.0 p.1 s.1 s.2 c.status_of-in-Err-print_strangers.ensures
