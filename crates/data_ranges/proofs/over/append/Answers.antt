use Rattle.std.proofs.Common.{◌≡◌, ◌≤◌, ◌-◌, ◌++◌, sym, ◌∙◌, ap, subst, take, drop, length, true, inl, arith}
use Rattle.std.proofs.lemmas.List.{take_all, length-drop}
use Rattle.std.specs.FinMap.{get}
use Rattle.data_reads.specs.store_outcome.Outcome.{first_, unbuilt, passed}
use Rattle.data_reads.specs.data_nodes.Layout.{node_of, FitsPayload}
use Rattle.data_reads.specs.store_api.Overlay.{changed_over}
use Rattle.data_reads.specs.data_tree.Roots.{IsAtLevel}
use Rattle.data_reads.specs.data_tree.Trees.{IsDepth, span}
use Rattle.data_reads.proofs.data_tree_lemmas.Leaving.{keeps_added, keeps_loaded, keeps_put, keeps_then}
use Rattle.data_reads.proofs.data_tree_lemmas.Changes.{keeps-then}
use Rattle.data_reads.specs.store_api.Txs.{changes_in, drawn_in, store_in, tx_holdings, tx_laws}
use Rattle.data_reads.proofs.data_tree_lemmas.Puts.{keeps_below, keeps_same, memory_after, unforged_on}
use Rattle.data_growth.specs.Growing.{Raised}
use Rattle.data_ranges.specs.Ranges.{GrowsTo}
use Rattle.data_reads.proofs.data_tree_lemmas.Borders.{border_top}
use Rattle.data_growth.proofs.Borders.{put_only, then_only}
use Rattle.data_ranges.proofs.Borders.{root_only}
use Rattle.data_ranges.proofs.Roots.{root_then, root_grown, then_raised}
use Rattle.data_ranges.proofs.Inside.{root_depth}
use Rattle.data_ranges.proofs.over.append.Goals as goal

pub returns-in-Err-clause-outcome : goal.returns-in-Err-clause-outcome
returns-in-Err-clause-outcome g c =
    passed (first_ {N = GrowsTo (tx_holdings g.S.Blocks.holdings) c.args.tx.now c.args.root.now.0 (length c.args.tail.now) c.args.n} {R = λ _ _. Unit {0}} (λ n. n.tree) c.in-Err.ensures.outcome (λ _ _ _. tt))

pub returns-in-Err-grown_node-clause-outcome : goal.returns-in-Err-grown_node-clause-outcome
returns-in-Err-grown_node-clause-outcome g c =
    let M = g.S.Blocks.meanings in
    let H0 = g.S.Blocks.holdings in
    let laws = tx_laws M H0 g.met.S.Blocks.lawful in
    let a = c.args.tx.now in
    let d = c.grown_node.new.tx in
    passed (root_then M H0 laws a c.load_root.new.tx d c.in-Ok.ensures.outcome c.load_root.ensures.stays c.in-Ok.ensures.level.depth c.in-Err-grown_node.ensures.outcome)

pub returns-in-Err-raised-clause-outcome : goal.returns-in-Err-raised-clause-outcome
returns-in-Err-raised-clause-outcome g c =
    let M = g.S.Blocks.meanings in
    let H0 = g.S.Blocks.holdings in
    let laws = tx_laws M H0 g.met.S.Blocks.lawful in
    let a = c.args.tx.now in
    let d = c.grown_node.new.tx in
    memory_after M H0 a d c.raised.new.tx c.raised.ensures.adds.store c.raised.ensures.adds.seed c.raised.ensures.intact (root_then M H0 laws a c.load_root.new.tx d c.in-Ok.ensures.outcome c.load_root.ensures.stays c.in-Ok.ensures.level.depth c.in-Ok-grown_node.ensures.outcome)

pub returns-clause-outcome : goal.returns-clause-outcome
returns-clause-outcome g c =
    let M = g.S.Blocks.meanings in
    let H0 = g.S.Blocks.holdings in
    let laws = tx_laws M H0 g.met.S.Blocks.lawful in
    let a = c.args.tx.now in
    let d = c.grown_node.new.tx in
    memory_after M H0 a d c.put_node.new.tx (c.put_node.ensures.puts.store ∙ c.raised.ensures.adds.store) (c.put_node.ensures.puts.seed ∙ c.raised.ensures.adds.seed) c.put_node.ensures.intact (root_then M H0 laws a c.load_root.new.tx d c.in-Ok.ensures.outcome c.load_root.ensures.stays c.in-Ok.ensures.level.depth c.in-Ok-grown_node.ensures.outcome)

pub returns-then-used-more-clause-outcome : goal.returns-then-used-more-clause-outcome
returns-then-used-more-clause-outcome g c =
    let M = g.S.Blocks.meanings in
    let H0 = g.S.Blocks.holdings in
    let H = tx_holdings H0 in
    let laws = tx_laws M H0 g.met.S.Blocks.lawful in
    let a = c.args.tx.now in
    let b = c.load_root.new.tx in
    let d = c.grown_node.new.tx in
    let e = c.raised.new.tx in
    let tail = c.args.tail.now in
    let root = c.args.root.now.0 in
    let used = c.in-Ok-grown_node.grown.1 in
    let node = node_of c.in-Ok.found.0 in
    let depth = c.in-Ok.found.1.depth in
    let stays = c.load_root.ensures.stays in
    let rest = take (length tail - used) (drop used tail) in
    let fits : used ≤ length tail = c.in-Ok-grown_node.ensures.took.used in
    let cut : rest ≡ drop used tail = take_all (length tail - used) (drop used tail) (omega (arith, length-drop used tail)) in
    let two = root_then M H0 laws a b d c.in-Ok.ensures.outcome stays c.in-Ok.ensures.level.depth c.in-Ok-grown_node.ensures.outcome in
    let three = changed_over store_in changes_in drawn_in M H0 {y = c.in-Ok-raised.grown} {Q = λ n y. ((H.told a ≡ true) × (node ≡ n.tree.tree.node)) × (Raised H b e (node_of y.0) (n.tree.bytes ++ tail) n.tree.tree.below × (y.1 ≡ length rest))} a d e c.raised.ensures.adds.store c.raised.ensures.adds.seed c.raised.ensures.intact two
    (λ n p. (p.0, then_raised depth tail rest used c.args.n stays p.0.0 n (root_depth node depth n.tree p.0.1 c.in-Ok.ensures.level.depth) cut fits (keeps_below H0 b d c.grown_node.ensures.keeps.below) c.in-Ok-grown_node.ensures.took.fits (λ less. p.1.1 less ∙ (c.in-Ok.ensures.level.room ∙ ap (λ k. span k depth) (sym stays.payload))) p.1.0 c.in-Ok-raised.ensures.raised)) in
    unbuilt laws three (λ n p. absurd (omega (arith, p.1.1, ap length cut, length-drop used tail, fits, c.if-used-more.true)))

pub returns-in-Ok-put_node-clause-outcome : goal.returns-in-Ok-put_node-clause-outcome
returns-in-Ok-put_node-clause-outcome g c =
    let M = g.S.Blocks.meanings in
    let H0 = g.S.Blocks.holdings in
    let H = tx_holdings H0 in
    let laws = tx_laws M H0 g.met.S.Blocks.lawful in
    let a = c.args.tx.now in
    let b = c.load_root.new.tx in
    let d = c.grown_node.new.tx in
    let e = c.raised.new.tx in
    let tail = c.args.tail.now in
    let root = c.args.root.now.0 in
    let used = c.in-Ok-grown_node.grown.1 in
    let node = node_of c.in-Ok.found.0 in
    let depth = c.in-Ok.found.1.depth in
    let stays = c.load_root.ensures.stays in
    let rest = take (length tail - used) (drop used tail) in
    let fits : used ≤ length tail = c.in-Ok-grown_node.ensures.took.used in
    let cut : rest ≡ drop used tail = take_all (length tail - used) (drop used tail) (omega (arith, length-drop used tail)) in
    let two = root_then M H0 laws a b d c.in-Ok.ensures.outcome stays c.in-Ok.ensures.level.depth c.in-Ok-grown_node.ensures.outcome in
    let three = changed_over store_in changes_in drawn_in M H0 {y = c.in-Ok-raised.grown} {Q = λ n y. ((H.told a ≡ true) × (node ≡ n.tree.tree.node)) × (Raised H b e (node_of y.0) (n.tree.bytes ++ tail) n.tree.tree.below × (y.1 ≡ length rest))} a d e c.raised.ensures.adds.store c.raised.ensures.adds.seed c.raised.ensures.intact two
    (λ n p. (p.0, then_raised depth tail rest used c.args.n stays p.0.0 n (root_depth node depth n.tree p.0.1 c.in-Ok.ensures.level.depth) cut fits (keeps_below H0 b d c.grown_node.ensures.keeps.below) c.in-Ok-grown_node.ensures.took.fits (λ less. p.1.1 less ∙ (c.in-Ok.ensures.level.room ∙ ap (λ k. span k depth) (sym stays.payload))) p.1.0 c.in-Ok-raised.ensures.raised)) in
    let f = c.put_node.new.tx in
    changed_over store_in changes_in drawn_in M H0 a e f c.put_node.ensures.puts.store c.put_node.ensures.puts.seed c.put_node.ensures.intact three (λ n p.
    let cd = keeps_below H0 b d c.grown_node.ensures.keeps.below in
    let de = keeps_same H0 d e c.raised.ensures.adds.store in
    let ef = keeps_same H0 e f c.put_node.ensures.puts.store in
    root_grown p.1.0.depth stays p.0.0 n.tree (subst (λ k. IsDepth k p.1.0.depth (length (n.tree.bytes ++ tail))) (sym ef.payload) p.1.0.deep) (keeps-then cd de) ef p.1.0.grown c.in-Ok-put_node.ensures.sets)

pub returns-in-Err-grown_node-clause-only : goal.returns-in-Err-grown_node-clause-only
returns-in-Err-grown_node-clause-only g c r s h q there =
    let M = g.S.Blocks.meanings in
    let H0 = g.S.Blocks.holdings in
    let laws = tx_laws M H0 g.met.S.Blocks.lawful in
    let a = c.args.tx.now in
    let d = c.grown_node.new.tx in
    root_only M H0 laws a c.load_root.new.tx d c.in-Ok.found.1.depth c.in-Ok.ensures.level.depth c.in-Ok.ensures.outcome c.load_root.ensures.stays c.load_root.ensures.leaves.overlay c.grown_node.ensures.outcome.loaded c.grown_node.ensures.only r s h q there

pub returns-in-Err-raised-clause-only : goal.returns-in-Err-raised-clause-only
returns-in-Err-raised-clause-only g c r s h q there =
    let M = g.S.Blocks.meanings in
    let H0 = g.S.Blocks.holdings in
    let laws = tx_laws M H0 g.met.S.Blocks.lawful in
    let a = c.args.tx.now in
    let d = c.grown_node.new.tx in
    let e = c.raised.new.tx in
    then_only a.overlay d.overlay e.overlay q (c.raised.ensures.adds.kept q (c.grown_node.ensures.keeps.there q (c.load_root.ensures.stays.ids q ∙ there))) (root_only M H0 laws a c.load_root.new.tx d c.in-Ok.found.1.depth c.in-Ok.ensures.level.depth c.in-Ok.ensures.outcome c.load_root.ensures.stays c.load_root.ensures.leaves.overlay c.grown_node.ensures.outcome.loaded c.grown_node.ensures.only r s (unforged_on M a d e c.raised.ensures.adds.store h) q there)

pub returns-then-used-more-clause-only : goal.returns-then-used-more-clause-only
returns-then-used-more-clause-only g c r s h q there =
    let M = g.S.Blocks.meanings in
    let H0 = g.S.Blocks.holdings in
    let laws = tx_laws M H0 g.met.S.Blocks.lawful in
    let a = c.args.tx.now in
    let d = c.grown_node.new.tx in
    let e = c.raised.new.tx in
    then_only a.overlay d.overlay e.overlay q (c.raised.ensures.adds.kept q (c.grown_node.ensures.keeps.there q (c.load_root.ensures.stays.ids q ∙ there))) (root_only M H0 laws a c.load_root.new.tx d c.in-Ok.found.1.depth c.in-Ok.ensures.level.depth c.in-Ok.ensures.outcome c.load_root.ensures.stays c.load_root.ensures.leaves.overlay c.grown_node.ensures.outcome.loaded c.grown_node.ensures.only r s (unforged_on M a d e c.raised.ensures.adds.store h) q there)

pub returns-in-Ok-put_node-clause-only : goal.returns-in-Ok-put_node-clause-only
returns-in-Ok-put_node-clause-only g c r s h q there =
    let M = g.S.Blocks.meanings in
    let H0 = g.S.Blocks.holdings in
    let laws = tx_laws M H0 g.met.S.Blocks.lawful in
    let a = c.args.tx.now in
    let d = c.grown_node.new.tx in
    let e = c.raised.new.tx in
    let f = c.put_node.new.tx in
    let A = (tx_holdings H0).content a in
    let two = then_only a.overlay d.overlay e.overlay q (c.raised.ensures.adds.kept q (c.grown_node.ensures.keeps.there q (c.load_root.ensures.stays.ids q ∙ there))) (root_only M H0 laws a c.load_root.new.tx d c.in-Ok.found.1.depth c.in-Ok.ensures.level.depth c.in-Ok.ensures.outcome c.load_root.ensures.stays c.load_root.ensures.leaves.overlay c.grown_node.ensures.outcome.loaded c.grown_node.ensures.only r s (unforged_on M a d f (c.put_node.ensures.puts.store ∙ c.raised.ensures.adds.store) h) q there) in
    put_only a.overlay e.overlay f.overlay c.args.root.now.0 q (c.put_node.ensures.puts.others q) (border_top A r.depth c.args.root.now.0 q) two

pub returns-clause-only : goal.returns-clause-only
returns-clause-only g c r s h q there =
    let M = g.S.Blocks.meanings in
    let H0 = g.S.Blocks.holdings in
    let laws = tx_laws M H0 g.met.S.Blocks.lawful in
    let a = c.args.tx.now in
    let d = c.grown_node.new.tx in
    let e = c.raised.new.tx in
    let f = c.put_node.new.tx in
    let A = (tx_holdings H0).content a in
    let two = then_only a.overlay d.overlay e.overlay q (c.raised.ensures.adds.kept q (c.grown_node.ensures.keeps.there q (c.load_root.ensures.stays.ids q ∙ there))) (root_only M H0 laws a c.load_root.new.tx d c.in-Ok.found.1.depth c.in-Ok.ensures.level.depth c.in-Ok.ensures.outcome c.load_root.ensures.stays c.load_root.ensures.leaves.overlay c.grown_node.ensures.outcome.loaded c.grown_node.ensures.only r s (unforged_on M a d f (c.put_node.ensures.puts.store ∙ c.raised.ensures.adds.store) h) q there) in
    put_only a.overlay e.overlay f.overlay c.args.root.now.0 q (c.put_node.ensures.puts.others q) (border_top A r.depth c.args.root.now.0 q) two

pub grown_node-requires-clause-at : goal.grown_node-requires-clause-at
grown_node-requires-clause-at g c = subst (λ p. IsAtLevel p (node_of c.in-Ok.found.0) c.in-Ok.found.1) (sym c.load_root.ensures.stays.payload) c.in-Ok.ensures.level

pub put_node-requires-clause-there : goal.put_node-requires-clause-there
put_node-requires-clause-there g c =
    let root = c.args.root.now.0 in
    c.raised.ensures.adds.there root (c.grown_node.ensures.keeps.there root (c.load_root.ensures.stays.ids root ∙ c.in-Ok.ensures.there))

pub returns-in-Err-clause-only : goal.returns-in-Err-clause-only
returns-in-Err-clause-only g c r s h q there = inl (ap (λ m. get m q) c.load_root.ensures.leaves.overlay)

pub raised-requires-clause-level : goal.raised-requires-clause-level
raised-requires-clause-level g c =
    let same = c.grown_node.ensures.keeps.below.payload ∙ c.load_root.ensures.leaves.below.payload in
    c.in-Ok.ensures.level.room ∙ ap (λ p. span p c.in-Ok.found.1.depth) (sym same)

pub raised-requires-clause-fits : goal.raised-requires-clause-fits
raised-requires-clause-fits g c = subst (λ p. FitsPayload p (node_of c.in-Ok-grown_node.grown.0)) (sym c.grown_node.ensures.keeps.below.payload) c.in-Ok-grown_node.ensures.took.fits

pub put_node-requires-clause-fits : goal.put_node-requires-clause-fits
put_node-requires-clause-fits g c = subst (λ s. FitsPayload (g.S.Blocks.holdings.payload s) (node_of c.in-Ok-raised.grown.0)) (sym c.raised.ensures.adds.store) c.in-Ok-raised.ensures.took.fits

pub returns-in-Err-clause-keeps : goal.returns-in-Err-clause-keeps
returns-in-Err-clause-keeps g c = keeps_loaded c.load_root.ensures.leaves c.load_root.ensures.stays

pub returns-in-Err-grown_node-clause-keeps : goal.returns-in-Err-grown_node-clause-keeps
returns-in-Err-grown_node-clause-keeps g c = keeps_then (keeps_loaded c.load_root.ensures.leaves c.load_root.ensures.stays) c.grown_node.ensures.keeps

pub returns-in-Err-raised-clause-keeps : goal.returns-in-Err-raised-clause-keeps
returns-in-Err-raised-clause-keeps g c =
    let grown = keeps_then (keeps_loaded c.load_root.ensures.leaves c.load_root.ensures.stays) c.grown_node.ensures.keeps in
    keeps_then grown (keeps_added c.raised.ensures.adds)

pub returns-then-used-more-clause-keeps : goal.returns-then-used-more-clause-keeps
returns-then-used-more-clause-keeps g c =
    let grown = keeps_then (keeps_loaded c.load_root.ensures.leaves c.load_root.ensures.stays) c.grown_node.ensures.keeps in
    keeps_then grown (keeps_added c.raised.ensures.adds)

pub returns-in-Ok-put_node-clause-keeps : goal.returns-in-Ok-put_node-clause-keeps
returns-in-Ok-put_node-clause-keeps g c =
    let grown = keeps_then (keeps_loaded c.load_root.ensures.leaves c.load_root.ensures.stays) c.grown_node.ensures.keeps in
    let raised = keeps_then grown (keeps_added c.raised.ensures.adds) in
    keeps_then raised (keeps_put g.S.Blocks.holdings c.raised.new.tx c.put_node.new.tx c.put_node.ensures.puts c.put_node.ensures.there)

pub returns-clause-keeps : goal.returns-clause-keeps
returns-clause-keeps g c =
    let grown = keeps_then (keeps_loaded c.load_root.ensures.leaves c.load_root.ensures.stays) c.grown_node.ensures.keeps in
    let raised = keeps_then grown (keeps_added c.raised.ensures.adds) in
    keeps_then raised (keeps_put g.S.Blocks.holdings c.raised.new.tx c.put_node.new.tx c.put_node.ensures.puts c.put_node.ensures.there)
