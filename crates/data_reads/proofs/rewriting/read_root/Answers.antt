use Rattle.std.proofs.Common.{◌≡◌, ◌∙◌, ap, ◌++◌, length, arith, true, subst, sym}
use Rattle.data_tree.specs.data_nodes.Layout.{node_of, FitsPayload}
use Rattle.data_tree.specs.store_outcome.Outcome.{then_, failed_, answered, unbuilt, passed}
use Rattle.data_reads.specs.Reading.{between}
use Rattle.data_tree.specs.Trees.{span}
use Rattle.data_tree.specs.store_api.Txs.{tx_holdings, tx_laws}
use Rattle.data_tree.proofs.Forests.{below_on, below_root, stays-then}
use Rattle.data_reads.proofs.Parts.{all_between}
use Rattle.data_tree.proofs.Puts.{unforged_before}
use Rattle.data_reads.proofs.rewriting.read_root.Goals as goal

pub returns-in-Err-read_in-clause-outcome : goal.returns-in-Err-read_in-clause-outcome
returns-in-Err-read_in-clause-outcome g c =
    let laws = tx_laws g.S.Blocks.meanings g.S.Blocks.holdings g.met.S.Blocks.lawful in
    failed_ laws c.in-Ok.ensures.outcome (λ n p. below_on c.load_root.ensures.stays (below_root (node_of c.in-Ok.found.0) c.in-Ok.found.1.depth p.0 n p.1 c.in-Ok.ensures.level.depth)) c.in-Err-read_in.ensures.outcome

pub returns-clause-outcome : goal.returns-clause-outcome
returns-clause-outcome g c =
    let H = tx_holdings g.S.Blocks.holdings in
    let laws = tx_laws g.S.Blocks.meanings g.S.Blocks.holdings g.met.S.Blocks.lawful in
    let two = then_ laws {R = λ n _. (H.told c.args.tx.now ≡ true) × ((node_of c.in-Ok.found.0 ≡ n.tree.node) × (c.read_in.new.out.items ≡ c.new-bytes.result.items ++ between 0 18446744073709551615 n.bytes))} c.in-Ok.ensures.outcome
    (λ n p. below_on c.load_root.ensures.stays (below_root (node_of c.in-Ok.found.0) c.in-Ok.found.1.depth p.0 n p.1 c.in-Ok.ensures.level.depth)) c.in-Ok-read_in.ensures.outcome (λ n p y h. (p.0, (p.1, h))) in
    answered two (λ n p. (p.0, (p.1.0, p.1.1 ∙ ap (λ xs. xs ++ between 0 18446744073709551615 n.bytes) c.new-bytes.ensures.items ∙ all_between 18446744073709551615 n.bytes (omega (arith, n.small)))))

pub returns-clause-shallow : goal.returns-clause-shallow
returns-clause-shallow g c s h =
    let laws = tx_laws g.S.Blocks.meanings g.S.Blocks.holdings g.met.S.Blocks.lawful in
    c.in-Ok.ensures.shallow s (unforged_before laws c.args.tx.now c.load_root.new.tx c.read_in.new.tx c.read_in.ensures.outcome.loaded h)

pub returns-then-len-gt-MOST_BYTES-clause-outcome : goal.returns-then-len-gt-MOST_BYTES-clause-outcome
returns-then-len-gt-MOST_BYTES-clause-outcome g c =
    let laws = tx_laws g.S.Blocks.meanings g.S.Blocks.holdings g.met.S.Blocks.lawful in
    let two = then_ laws {R = λ n _. c.read_in.new.out.items ≡ c.new-bytes.result.items ++ between 0 18446744073709551615 n.bytes} c.in-Ok.ensures.outcome
    (λ n p. below_on c.load_root.ensures.stays (below_root (node_of c.in-Ok.found.0) c.in-Ok.found.1.depth p.0 n p.1 c.in-Ok.ensures.level.depth)) c.in-Ok-read_in.ensures.outcome (λ n p y h. h) in
    unbuilt laws two (λ n p.
    let whole = p ∙ ap (λ xs. xs ++ between 0 18446744073709551615 n.bytes) c.new-bytes.ensures.items ∙ all_between 18446744073709551615 n.bytes (omega (arith, n.small)) in
    absurd (omega (arith, ap length whole, n.small, c.len.ensures, c.read_in.new.out.ok.0, c.if-len-gt-MOST_BYTES.true)))

pub returns-in-Err-read_in-clause-stays : goal.returns-in-Err-read_in-clause-stays
returns-in-Err-read_in-clause-stays g c = stays-then c.load_root.ensures.stays c.read_in.ensures.stays

pub returns-in-Err-read_in-clause-below : goal.returns-in-Err-read_in-clause-below
returns-in-Err-read_in-clause-below g c = stays-then c.load_root.ensures.leaves.below c.read_in.ensures.below

pub returns-then-len-gt-MOST_BYTES-clause-stays : goal.returns-then-len-gt-MOST_BYTES-clause-stays
returns-then-len-gt-MOST_BYTES-clause-stays g c = stays-then c.load_root.ensures.stays c.read_in.ensures.stays

pub returns-then-len-gt-MOST_BYTES-clause-below : goal.returns-then-len-gt-MOST_BYTES-clause-below
returns-then-len-gt-MOST_BYTES-clause-below g c = stays-then c.load_root.ensures.leaves.below c.read_in.ensures.below

pub returns-clause-stays : goal.returns-clause-stays
returns-clause-stays g c = stays-then c.load_root.ensures.stays c.read_in.ensures.stays

pub returns-clause-below : goal.returns-clause-below
returns-clause-below g c = stays-then c.load_root.ensures.leaves.below c.read_in.ensures.below

pub returns-in-Err-clause-outcome : goal.returns-in-Err-clause-outcome
returns-in-Err-clause-outcome g c = passed c.in-Err.ensures.outcome

pub read_in-requires-clause-level : goal.read_in-requires-clause-level
read_in-requires-clause-level g c = c.in-Ok.ensures.level.room ∙ ap (λ p. span p c.in-Ok.found.1.depth) (sym c.load_root.ensures.stays.payload)

pub read_in-requires-clause-fits : goal.read_in-requires-clause-fits
read_in-requires-clause-fits g c = subst (λ p. FitsPayload p (node_of c.in-Ok.found.0)) (sym c.load_root.ensures.stays.payload) c.in-Ok.ensures.level.fits

pub returns-in-Err-clause-stays : goal.returns-in-Err-clause-stays
returns-in-Err-clause-stays g c = c.load_root.ensures.stays

pub returns-in-Err-clause-below : goal.returns-in-Err-clause-below
returns-in-Err-clause-below g c = c.load_root.ensures.leaves.below
