use Rattle.std.proofs.Common.{◌∙◌, ap, refl, arith}
use Rattle.std.proofs.lemmas.List.{length-set}
use Rattle.aes_gcm.specs.Ghash.{next_v, v_at}
use Rattle.aes_gcm.specs.Tables.{AreTables}
use Rattle.aes_gcm.proofs.Product.{rows_next, v_at_four}
use Rattle.aes_gcm.proofs.hash_key.make_tables.Goals as goal

pub rows-init : goal.rows-init
unfolding v_at
rows-init c = record { whole = omega arith; factor = refl; made = λ q b lq lb. absurd (omega arith) }

pub rows-preserved : goal.rows-preserved
rows-preserved c = record {
  whole = length-set c.rows.t c.rows.p c.row-r.result ∙ c.rows.invariant.whole;
  factor = (c.next_v-v.ensures ∙ ap next_v (c.next_v-in-rows.ensures ∙ ap next_v (c.next_v-v2.ensures ∙ ap next_v c.next_v.ensures)))
      ∙ v_at_four c.args.h c.rows.p c.rows.v c.rows.invariant.factor;
  made = rows_next c.args.h c.rows.v c.rows.p c.rows.t c.row-r.result c.rows.invariant.whole (omega arith) c.rows.invariant.factor c.row-r.ensures c.rows.invariant.made;
}

pub returns : goal.returns
unfolding AreTables
returns c = λ p b lp lb.
    c.rows.invariant.made p b (omega arith) lb
