use Rattle.std.proofs.Common.{◌≡◌, ◌+◌, ◌<◌, arith, rules, subst}
use Rattle.std.specs.Prelude.{OnErr, vec_capacity, vec_len}
use Rattle.setup_runs.proofs.migrate_text.print_migrated.Goals as goal

pub unreachable-requires : goal.unreachable-requires
unreachable-requires g c =
    let wants = subst (λ r. OnErr r (vec_capacity c.args.text.now < vec_len c.args.text.now + 256)) c.in-Err.is c.push_migrated.ensures.wants in
    let room = c.requires.room in
    let none : vec_len c.args.text.now ≡ 0 = search rules in
    omega (arith, wants, room, none)
