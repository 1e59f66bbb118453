use Rattle.std.proofs.Common.{◌≡◌, length, subst, rules}
use Rattle.std.specs.FinMap.{insert}
use Rattle.blob_api.specs.store_outcome.Outcome.{first_}
use Rattle.fs_blobs.proofs.Parts.{has_bytes, parent_set}
use Rattle.fs_blobs.proofs.body.set_parent.Goals as goal

pub returns : goal.returns
returns g c =
    let wide : length c.args.parent.now.0 ≡ 16 = search rules in
    first_ (λ n. has_bytes n) c.write.ensures.outcome
    (λ n y h. subst (λ z. g.B.Blobs.holdings.stands_for c.write.new.self (insert n.map c.args.id.now.0 z)) (parent_set n.kind n.parent c.args.parent.now.0 n.body n.wide wide) h)
