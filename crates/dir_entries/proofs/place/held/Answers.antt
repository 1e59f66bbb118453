use Rattle.std.proofs.Common.{◌<◌, length, sym, arith}
use Rattle.byte_fields.specs.Fields.{IsBytes}
use Rattle.dir_entries.proofs.Bodies.{after_shorter}
use Rattle.dir_entries.proofs.EntryCodec.{entry_codec}
use Rattle.dir_entries.proofs.place.held.Goals as goal

pub overflow_sub-result-2 : goal.overflow_sub-result-2
overflow_sub-result-2 c =
    let fits : IsBytes c.args.rest.now = λ i. omega (arith, c.type_inv.rest i) in
    omega (arith, after_shorter _ _ _ fits (sym c.in-Some.ensures.entry))

pub returns-clause-within : goal.returns-clause-within
returns-clause-within c =
    let fits : IsBytes c.args.rest.now = λ i. omega (arith, c.type_inv.rest i) in
    let fewer : length c.in-Some.entry.rest.now < length c.args.rest.now = after_shorter _ _ _ fits (sym c.in-Some.ensures.entry) in
    (omega arith, omega arith)

pub returns-clause-mode : goal.returns-clause-mode
returns-clause-mode c =
    let fits : IsBytes c.args.rest.now = λ i. omega (arith, c.type_inv.rest i) in
    (entry_codec.takes _ _ _ fits (sym c.in-Some.ensures.entry)).1.attr.mode
