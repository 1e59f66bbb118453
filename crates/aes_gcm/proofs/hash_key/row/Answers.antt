use Rattle.std.proofs.Common.{◌≡◌, ◌∙◌, ap, map}
use Rattle.std.specs.List.{range_with_len}
use Rattle.aes_gcm.specs.Ghash.{next_v}
use Rattle.aes_gcm.specs.Tables.{entry_of}
use Rattle.aes_gcm.proofs.Product.{row_list}
use Rattle.aes_gcm.proofs.hash_key.row.Goals as goal

pub returns : goal.returns
returns c =
    let v = c.args.v in
    let e1 : c.next_v-v1.result ≡ next_v v = c.next_v-v1.ensures in
    let e2 : c.next_v-v2.result ≡ next_v (next_v v) = c.next_v-v2.ensures ∙ ap next_v e1 in
    let e3 : c.next_v-v3.result ≡ next_v (next_v (next_v v)) = c.next_v-v3.ensures ∙ ap next_v e2 in
    row_list v c.next_v-v1.result c.next_v-v2.result c.next_v-v3.result
    ∙ (λ i. map (entry_of v (e1 i) (e2 i) (e3 i)) (range_with_len 0 16))
