use Rattle.std.proofs.Common.{arith, rules, length, ap}
use Rattle.run_frame.specs.config_file.Settings.{settings_of}
use Rattle.setup_runs.proofs.Short.{info_short}
use Rattle.setup_runs.proofs.info_text.print_info.Goals as goal

pub unreachable-requires : goal.unreachable-requires
unreachable-requires g c =
    let short = info_short (settings_of c.args.opened.config) c.args.opened.params (search rules) (search rules) (search rules) (search rules) (search rules) (search rules) in
    let full = c.in-Err.ensures.full in
    let room = c.requires.room in
    let empty = ap length c.requires.empty in
    omega (arith, short, full, room, empty)
