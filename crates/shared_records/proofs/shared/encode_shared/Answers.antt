use Rattle.std.proofs.Common.{ℕ, List, ◌++◌, map, ap, ◌∙◌, length, arith}
use Rattle.std.specs.Prelude.{slice_set}
use Rattle.outside.specs.View.{list_of}
use Rattle.local_state.specs.Record.{plain_state}
use Rattle.local_state.specs.Versions.{version_of}
use Rattle.local_state.proofs.Records.{mark_in, written_record}
use Rattle.shared_records.specs.Shared.{others_bytes}
use Rattle.shared_records.proofs.Decoded.{joined_is}
use Rattle.shared_records.proofs.shared.encode_shared.Goals as goal

pub index_mut-requires : goal.index_mut-requires
index_mut-requires c =
    let long = mark_in (plain_state c.args.state.now) (list_of c.args.list.now) _ (written_record (plain_state c.args.state.now) (list_of c.args.list.now) c.in_ok-out.ensures.has_record) in
    omega (arith, ap length c.in_ok-out.ensures.bytes, long, c.in_ok-out.out.ok.0)

pub returns-clause-bytes : goal.returns-clause-bytes
returns-clause-bytes c =
    c.in_ok-put_others.ensures ∙ ap (λ (b : List ℕ). slice_set b 17 51 ++ others_bytes (map version_of c.args.others.now)) c.in_ok-out.ensures.bytes
    ∙ joined_is (plain_state c.args.state.now) (list_of c.args.list.now) (map version_of c.args.others.now)
